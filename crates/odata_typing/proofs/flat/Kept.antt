-- What has been judged stands still where the list changes elsewhere.
use Rattle.odata_typing.proofs.Common.{◌≡◌, ◌∙◌, refl, sym, ap, subst, inl, inr, ◌⊎◌, ℕ, ◌<◌, ◌≤◌, false, arith, Tree, SchemaModel, FlatTree, IsKeptOutside, Scope, Walk, IsStanding, LawsBelow}

wider : (i j from to k : ℕ) → from ≤ i → j ≤ to → (k < from) ⊎ (to ≤ k) → (k < i) ⊎ (j ≤ k)
wider i j from to k below above (inl before) = let h : k < from = before in inl (omega arith)
wider i j from to k below above (inr after) = let h : to ≤ k = after in inr (omega arith)

-- a change is within wider indices
pub kept_wider : (i j from to : ℕ) (old new : FlatTree) → from ≤ i → j ≤ to → IsKeptOutside i j old new → IsKeptOutside from to old new
kept_wider i j from to old new below above kept = record {
  nodes = λ k outside. kept.nodes k (wider i j from to k below above outside);
  texts = λ k outside. kept.texts k (wider i j from to k below above outside);
  values = kept.values;
  count = kept.count;
  beside = kept.beside;
  source = kept.source;
}

-- so are two of them
pub kept_on : (i j : ℕ) (a b c : FlatTree) → IsKeptOutside i j a b → IsKeptOutside i j b c → IsKeptOutside i j a c
kept_on i j a b c x y = record {
  nodes = λ k outside. y.nodes k outside ∙ x.nodes k outside;
  texts = λ k outside. y.texts k outside ∙ x.texts k outside;
  values = λ k value at. y.values k value (x.values k value at);
  count = y.count ∙ x.count;
  beside = y.beside ∙ x.beside;
  source = y.source ∙ x.source;
}

pub same_kept : (i j : ℕ) (list : FlatTree) → IsKeptOutside i j list list
same_kept i j list = record {
  nodes = λ k outside. refl;
  texts = λ k outside. refl;
  values = λ k value at. at;
  count = refl;
  beside = refl;
  source = refl;
}

pub first_outside : (i j from to : ℕ) → from < to → (to ≤ i) ⊎ (j ≤ from) → (from < i) ⊎ (j ≤ from)
first_outside i j from to order (inl before) = let h : to ≤ i = before in inl (omega arith)
first_outside i j from to order (inr after) = inr after

-- a walk that has gone on elsewhere
pub record IsOnward (i j : ℕ) (old new : Walk) : Type 0 where
  pub kept : IsKeptOutside i j old.list new.list
  pub navigates : new.navigates ≡ false → old.navigates ≡ false

-- the walk has gone on at no node: only values were put
abbrev pub IsMore : Walk → Walk → Type 0
IsMore old new = (i j : ℕ) → IsOnward i j old new

pub same_more : (walk : Walk) → IsMore walk walk
same_more walk = λ i j. record { kept = same_kept i j walk.list; navigates = λ idle. idle }

module _ (laws : LawsBelow) (schema : SchemaModel) (n : ℕ) (scope : Scope) (i j : ℕ) (old new : Walk) (onward : IsOnward i j old new) where
  pub standing_kept : (from to : ℕ) (tree : Tree) → (to ≤ i) ⊎ (j ≤ from) → IsStanding schema n scope old from to tree → IsStanding schema n scope new from to tree
  standing_kept from to tree outside stands = record {
    found = stands.found;
    at = onward.kept.nodes from (first_outside i j from to stands.order outside) ∙ stands.at;
    order = stands.order;
    last = stands.last;
    there = stands.there;
    typed = stands.typed;
    stands = laws.kept schema n scope old.list new.list i j from to tree onward.kept outside stands.stands;
    idle = λ idle. stands.idle (onward.navigates idle);
  }

-- a walk over a property, which may lead to another entity
pub navigated_more : (old new : Walk) → new ≡ record old { navigates = new.navigates } → (new.navigates ≡ false → old.navigates ≡ false) → IsMore old new
navigated_more old new is before = λ i j. record {
  kept = subst (λ (list : FlatTree). IsKeptOutside i j old.list list) (sym (ap (λ (w : Walk). w.list) is)) (same_kept i j old.list);
  navigates = before;
}
