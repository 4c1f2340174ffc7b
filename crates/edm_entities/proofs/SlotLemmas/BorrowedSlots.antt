-- What a piece of a type's properties has at an index is what the type has at the slot.
use Rattle.std.proofs.Common.{◌≡◌, ℕ, zero, suc, ◌+◌, List, [], ◌∷◌, drop, map, Some, slice_get, IfSome, refl, sym, ap, ◌∙◌, subst, arith}
use Rattle.std.proofs.lemmas.List.{drop-map}
use Rattle.csdl_schema.specs.PropertyView.{AreFirstOf, IsReadAs}
use Rattle.csdl_schema.specs.SchemaModel.{SchemaModel, PropertyModel}
use Rattle.csdl_schema.specs.declared.property.Property.{Property}

at_drop : {X : Type 0} (xs : List X) (k i : ℕ) → slice_get (drop k xs) i ≡ slice_get xs (k + i)
at_drop xs zero i = let same : i ≡ zero + i = omega arith in ap (slice_get xs) same
at_drop [] (suc k) i = refl
at_drop (x ∷ xs) (suc k) i = let same : suc (k + i) ≡ suc k + i = omega arith in at_drop xs k i ∙ ap (slice_get (x ∷ xs)) same

-- a slot has a name and a property
pub record IsSlot (schema : SchemaModel) (ps : List PropertyModel) (slot : ℕ) (e : List ℕ × Property) : Type 0 where
  pub name : slice_get (map (λ p. p.name) ps) slot ≡ Some e.0
  pub property : IfSome (slice_get ps slot) (λ p. IsReadAs schema p e.1)

first_slot : (schema : SchemaModel) (ps : List PropertyModel) (es : List (List ℕ × Property)) (i : ℕ) (e : List ℕ × Property) → AreFirstOf schema ps es → slice_get es i ≡ Some e → IsSlot schema ps i e
first_slot schema ps [] i e first at = absurd (cc)
first_slot schema [] (f ∷ es) i e first at = absurd first
first_slot schema (p ∷ ps) (f ∷ es) zero e first at =
    let same : f ≡ e = cc in
    record { name = ap Some (first.0 ∙ ap (λ (x : List ℕ × Property). x.0) same); property = subst (λ (x : List ℕ × Property). IsReadAs schema p x.1) same first.1 }
first_slot schema (p ∷ ps) (f ∷ es) (suc i) e first at =
    let further = first_slot schema ps es i e first.2 at in
    record { name = further.name; property = further.property }

pub cursor_slot : (schema : SchemaModel) (ps : List PropertyModel) (es : List (List ℕ × Property)) (from i slot : ℕ) (e : List ℕ × Property) → AreFirstOf schema (drop from ps) es
    → slice_get es i ≡ Some e → from + i ≡ slot → IsSlot schema ps slot e
cursor_slot schema ps es from i slot e first at is =
    let found = first_slot schema (drop from ps) es i e first at in
    let name = λ (p : PropertyModel). p.name in
    record {
      name = ap (slice_get (map name ps)) (sym is) ∙ sym (at_drop (map name ps) from i) ∙ ap (λ names. slice_get names i) (drop-map name from ps) ∙ found.name;
      property = subst (λ o. IfSome o (λ p. IsReadAs schema p e.1)) (at_drop ps from i ∙ ap (slice_get ps) is) found.property;
    }
