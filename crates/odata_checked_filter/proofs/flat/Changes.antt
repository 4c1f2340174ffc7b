-- What a node that is put at its index leaves of the list, and what stands there then.
use Rattle.std.proofs.Common.{◌≡◌, ◌≢◌, refl, ◌∙◌, inl, inr, ◌⊎◌, ℕ, zero, suc, ◌<◌, ◌≤◌, ◌+◌, List, [], ◌∷◌, slice_get, slice_set, length-set, arith}
use Rattle.odata_checked_filter.specs.FlatTree.{FlatTree}
use Rattle.odata_checked_filter.specs.Laws.{KeptStands, PutChanges, PutStands}
use Rattle.odata_checked_filter.specs.ListChanges.{IsKeptOutside, node_put}
use Rattle.odata_checked_filter.specs.Stands.{text_of_shape}
use Rattle.odata_checked_filter.proofs.flat.Places.{get_put}
use Rattle.odata_checked_filter.proofs.flat.Lying.{IsKeptIn, children_kept, stands_kept}

-- another node is as it was
get_elsewhere : {X : Type 0} (xs : List X) (k j : ℕ) (x : X) → j ≢ k → slice_get (slice_set xs k x) j ≡ slice_get xs j
get_elsewhere [] k j x other = refl
get_elsewhere (y ∷ xs) zero zero x other = absurd (other refl)
get_elsewhere (y ∷ xs) zero (suc j) x other = refl
get_elsewhere (y ∷ xs) (suc k) zero x other = refl
get_elsewhere (y ∷ xs) (suc k) (suc j) x other = get_elsewhere xs k j x (λ same. other (let e : j ≡ k = same in omega arith))

-- an index outside one is another
other_place : (k place : ℕ) → (k < place) ⊎ (place + 1 ≤ k) → k ≢ place
other_place k place (inl before) same = let b : k < place = before in let e : k ≡ place = same in absurd (omega arith)
other_place k place (inr after) same = let b : place + 1 ≤ k = after in let e : k ≡ place = same in absurd (omega arith)

pub put_changes : PutChanges
put_changes list place put text = record {
  nodes = λ k outside. get_elsewhere list.nodes place k put (other_place k place outside);
  texts = λ k outside. get_elsewhere list.texts place k text (other_place k place outside);
  values = λ k value at. at;
  count = length-set list.nodes place put;
  beside = length-set list.texts place text;
  source = refl;
}

-- so what lies before the change or after it is kept
kept_in : (i j from to : ℕ) (old new : FlatTree) → IsKeptOutside i j old new → (to ≤ i) ⊎ (j ≤ from) → IsKeptIn from to old new
kept_in i j from to old new kept outside = record {
  nodes = λ k found after until at. kept.nodes k (side k after until) ∙ at;
  values = kept.values;
  texts = λ k text after until at. kept.texts k (side k after until) ∙ at;
}
  where
    side : (k : ℕ) → from ≤ k → k < to → (k < i) ⊎ (j ≤ k)
    side k after until = elim outside [ inl before ↦ inl (let b : to ≤ i = before in omega arith) | inr behind ↦ inr (let a : j ≤ from = behind in omega arith) ]

pub kept_stands : KeptStands
kept_stands schema n scope old new i j from to tree kept outside stands =
    stands_kept from to old new schema n scope from to tree (kept_in i j from to old new kept outside) (omega arith) (omega arith) stands

pub put_stands : PutStands
put_stands schema n scope list place put shape within beside of_kind valued typed children =
    let text : List ℕ = text_of_shape shape in
    record {
      top = record {
        found = put;
        stands_at = get_put list.nodes place put within;
        text_at = get_put list.texts place text (rw beside within);
        kind = of_kind;
        valued = valued;
        starts = refl;
        stops = refl;
        last = refl;
        typed = typed;
      };
      children = children_kept (place + 1) put.stop list (node_put list place put text) schema n scope (place + 1) put.stop shape
          (kept_in place (place + 1) (place + 1) put.stop list (node_put list place put text) (put_changes list place put text) (inr (omega arith)))
          (omega arith) (omega arith) children;
    }
