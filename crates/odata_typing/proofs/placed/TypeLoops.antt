-- The loop that takes the types of the first nodes.
use Rattle.odata_typing.proofs.Common.{◌≡◌, ◌∙◌, refl, sym, ap, subst, ℕ, ◌<◌, ◌≤◌, ◌+◌, List, [], ◌∷◌, ◌++◌, length, length-append, map, take, slice_set, arith, length-map, map-append, take_all, take_more_set, CheckedNode, AreInRow}
use Rattle.odata_signatures.specs.declared.edm_type.EdmType.{EdmType}
use Rattle.odata_typing.proofs.placed.Loops.{IsNext, IsSeen, next_of, none_left, seen_more}
use Rattle.odata_typing.proofs.placed.Rows.{joined_rows, one_row}

-- the types of the code
abbrev pub code_types : List CheckedNode → List EdmType
code_types row = map (λ found. found.edm_type) row

-- the types of the nodes seen are the first of those taken
pub record AreTaken (nodes : List CheckedNode) (types : List EdmType) (first place last count : ℕ) : Type 0 where
  pub seen : List CheckedNode
  pub rest : List CheckedNode
  pub is : IsSeen nodes seen rest first place last
  pub many : length seen ≡ count
  pub taken : take count types ≡ code_types seen

module _ (nodes : List CheckedNode) (first last : ℕ) where
  pub taken_none : (row : List CheckedNode) (types : List EdmType) → AreInRow nodes row first last → AreTaken nodes types first first last 0
  taken_none row types are = record { seen = []; rest = row; is = record { before = refl; after = are }; many = refl; taken = refl }

  pub taken_next : (types : List EdmType) (place count : ℕ) (taken : AreTaken nodes types first place last count) → place < last → IsNext nodes taken.rest place last
  taken_next types place count taken inside = next_of nodes taken.rest place last taken.is.after inside

  pub taken_more :
      (types : List EdmType) (place count : ℕ) (taken : AreTaken nodes types first place last count) (next : IsNext nodes taken.rest place last)
      → count < length types
      → AreTaken nodes (slice_set types count next.found.edm_type) first next.found.stop last (count + 1)
  taken_more types place count taken next inside = record {
    seen = taken.seen ++ next.found ∷ [];
    rest = next.more;
    is = seen_more nodes taken.seen taken.rest first place last taken.is next;
    many = length-append taken.seen (next.found ∷ []) ∙ ap (λ (k : ℕ). k + 1) taken.many;
    taken = take_more_set types count next.found.edm_type inside ∙ ap (λ (some : List EdmType). some ++ next.found.edm_type ∷ []) taken.taken
        ∙ sym (map-append (λ (found : CheckedNode). found.edm_type) taken.seen (next.found ∷ []));
  }

  take_front : (seen rest : List CheckedNode) → take (length seen) (code_types (seen ++ rest)) ≡ code_types seen
  take_front [] rest = refl
  take_front (s ∷ seen) rest = ap (λ (more : List EdmType). s.edm_type ∷ more) (take_front seen rest)

  -- no more are left
  pub taken_all :
      (types : List EdmType) (place count : ℕ) (row : List CheckedNode)
      → AreTaken nodes types first place last count
      → last ≤ place
      → count ≤ 4
      → AreInRow nodes row first last
      → take count types ≡ take 4 (code_types row)
  taken_all types place count row taken past few are =
      let same : place ≡ last = none_left nodes taken.rest place last taken.is.after past in
      let whole : row ≡ taken.seen = one_row nodes row taken.seen first last are (subst (λ (k : ℕ). AreInRow nodes taken.seen first k) same taken.is.before) in
      let short : length (code_types taken.seen) ≤ 4 =
      let a : length (code_types taken.seen) ≡ length taken.seen = length-map taken.seen (λ (found : CheckedNode). found.edm_type) in let b = taken.many in omega arith in
      taken.taken ∙ sym (ap (λ (r : List CheckedNode). take 4 (code_types r)) whole ∙ take_all 4 (code_types taken.seen) short)

  -- or four have been taken
  pub taken_four :
      (types : List EdmType) (place count : ℕ) (row : List CheckedNode)
      → count ≡ 4
      → AreTaken nodes types first place last count
      → AreInRow nodes row first last
      → take count types ≡ take 4 (code_types row)
  taken_four types place count row four taken are =
      let whole : row ≡ taken.seen ++ taken.rest = one_row nodes row (taken.seen ++ taken.rest) first last are (joined_rows nodes taken.seen taken.rest first place last taken.is.before taken.is.after) in
      taken.taken ∙ sym (ap (λ (r : List CheckedNode). take 4 (code_types r)) whole ∙ subst (λ (k : ℕ). take k (code_types (taken.seen ++ taken.rest)) ≡ code_types taken.seen) (taken.many ∙ four) (take_front taken.seen taken.rest))
