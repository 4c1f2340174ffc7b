-- Loops over nodes one after another: those seen, and those that are left.
use Rattle.odata_typing.proofs.Common.{◌≡◌, refl, ap, subst, ℕ, ◌<◌, ◌≤◌, ◌+◌, List, [], ◌∷◌, ◌++◌, Some, slice_get, arith, Side, quoting, IsTypeThere, expr_type, SchemaModel, CheckedNode, FlatTree, AreInRow, AreTypesThere, quoted_in, row_sides}
use Rattle.odata_typing.proofs.placed.Rows.{joined_rows, one_row, row_onward}

-- the nodes from the first index up to one have been seen, those up to the last are left
pub record IsSeen (nodes seen rest : List CheckedNode) (first place last : ℕ) : Type 0 where
  pub before : AreInRow nodes seen first place
  pub after : AreInRow nodes rest place last

-- the next one
pub record IsNext (nodes rest : List CheckedNode) (place last : ℕ) : Type 0 where
  pub found : CheckedNode
  pub more : List CheckedNode
  pub rest_is : rest ≡ found ∷ more
  pub at : slice_get nodes place ≡ Some found
  pub order : place < found.stop
  pub inside : found.stop ≤ last
  pub after : AreInRow nodes more found.stop last

pub next_of : (nodes rest : List CheckedNode) (place last : ℕ) → AreInRow nodes rest place last → place < last → IsNext nodes rest place last
next_of nodes [] place last are inside = let e : place ≡ last = are in absurd (omega arith)
next_of nodes (found ∷ more) place last are inside = record {
  found = found;
  more = more;
  rest_is = refl;
  at = are.0;
  order = are.1;
  inside = row_onward nodes more found.stop last are.2;
  after = are.2;
}

pub none_left : (nodes rest : List CheckedNode) (place last : ℕ) → AreInRow nodes rest place last → last ≤ place → place ≡ last
none_left nodes [] place last are past = are
none_left nodes (found ∷ more) place last are past =
    let order : place < found.stop = are.1 in
    let onward : found.stop ≤ last = row_onward nodes more found.stop last are.2 in
    absurd (omega arith)

pub seen_more :
    (nodes seen rest : List CheckedNode) (first place last : ℕ) (seen_is : IsSeen nodes seen rest first place last) (next : IsNext nodes rest place last)
    → IsSeen nodes (seen ++ next.found ∷ []) next.more first next.found.stop last
seen_more nodes seen rest first place last seen_is next = record {
  before = joined_rows nodes seen (next.found ∷ []) first place next.found.stop seen_is.before (next.at, next.order, refl);
  after = next.after;
}

-- what has been seen in the end is the whole row
pub seen_all : (nodes seen rest row : List CheckedNode) (first place last : ℕ) → IsSeen nodes seen rest first place last → last ≤ place → AreInRow nodes row first last → seen ≡ row
seen_all nodes seen rest row first place last is past all =
    let same : place ≡ last = none_left nodes rest place last is.after past in
    one_row nodes seen row first last (subst (λ (k : ℕ). AreInRow nodes seen first k) same is.before) all

pub types_next : (schema : SchemaModel) (nodes rest : List CheckedNode) (place last : ℕ) (next : IsNext nodes rest place last) → AreTypesThere schema rest → IsTypeThere schema next.found.edm_type × AreTypesThere schema next.more
types_next schema nodes rest place last next there = subst (AreTypesThere schema) next.rest_is there

-- the sides of the nodes seen, and of one more
pub sides_more :
    (schema : SchemaModel) (list : FlatTree) (seen : List CheckedNode) (found : CheckedNode) (first place : ℕ)
    → AreInRow list.nodes seen first place
    → row_sides schema list first (seen ++ found ∷ []) ≡ row_sides schema list first seen ++ quoting (quoted_in list place found) (expr_type schema found.edm_type) ∷ []
sides_more schema list [] found first place are =
    ap (λ (k : ℕ). quoting (quoted_in list k found) (expr_type schema found.edm_type) ∷ []) are
sides_more schema list (s ∷ seen) found first place are =
    ap (λ (more : List Side). quoting (quoted_in list first s) (expr_type schema s.edm_type) ∷ more) (sides_more schema list seen found s.stop place are.2)
