-- Places between which no node evaluates to a fault.
use Rattle.odata_ranges.proofs.Common.{◌≡◌, ◌∙◌, inl, inr, ℕ, ◌+◌, List, Some, false, slice_get, refl, sym, ap, subst, arith, Filter, CheckedNode, NodeKind, same_found, AreQuiet, MakesNone, IsRangeAt, NodeForm, Range, AreKnownAfter, HasForm, IsOwnRange, form_of}
use Rattle.odata_ranges.proofs.Ends.{one_below, two_below}
use Rattle.odata_ranges.proofs.Inside.{two_inside}
use Rattle.odata_ranges.proofs.Put.{at_or_after}
use Rattle.odata_ranges.proofs.Values.{before_or_past}

-- before a node, there, and after it
pub quiet_on : (ranges : List Range) (from at stop : ℕ) (range : Range) → AreQuiet ranges from at → slice_get ranges at ≡ Some range → range.may_fault ≡ false
    → AreQuiet ranges (at + 1) stop → AreQuiet ranges from stop
quiet_on ranges from at stop range before there none after = λ place found first within is.
    before_or_past place at (λ below. before place found first below is)
    (λ past. elim (at_or_after at place past) [
      | inl same ↦ (
          let range_is : range ≡ found = same_found (slice_get ranges at) range found there (subst (λ (n : ℕ). slice_get ranges n ≡ Some found) same is) in
          subst (λ (r : Range). r.may_fault ≡ false) range_is none
          )
      | inr less ↦ after place found (omega (arith, less)) within is
    ])

abbrev IsNoLeaf : NodeForm → Type 0
IsNoLeaf NodeForm.Leaf = ⊥
IsNoLeaf form = Unit {0}

abbrev IsNoEntity : NodeKind → Type 0
IsNoEntity NodeKind.It = ⊥
IsNoEntity kind = Unit {0}

-- a node of another kind is not `$it`
pub no_entity : {kind other : NodeKind} → kind ≡ other → IsNoEntity other → kind ≡ NodeKind.It → ⊥
no_entity is apart it = subst IsNoEntity (sym is ∙ it) apart

-- the range of a node that has children
pub own_above : {filter : Filter} {ranges : List Range} {place : ℕ} {node : CheckedNode} {form : NodeForm} {range : Range} → HasForm filter place node form → IsNoLeaf form
    → IsRangeAt filter place range → (MakesNone node.kind node.edm_type → AreQuiet ranges (place + 1) node.stop → range.may_fault ≡ false) → IsOwnRange filter ranges place node range
own_above has above right quiet = record { right = right; quiet = quiet; entity = λ it. absurd (subst IsNoLeaf (sym has.is ∙ ap form_of it) above) }

-- ---- the ranges of a node's children

-- what the range of one child holds, and that it is quiet where all is below the node
pub record OneKnown (filter : Filter) (ranges : List Range) (place : ℕ) (node : CheckedNode) (operand : Range) : Type 0 where
  pub right : IsRangeAt filter (place + 1) operand
  pub quiet : AreQuiet ranges (place + 1) node.stop → operand.may_fault ≡ false

pub one_known : {filter : Filter} {ranges : List Range} {place : ℕ} {node : CheckedNode} {operand : Range} → HasForm filter place node NodeForm.One → AreKnownAfter filter place ranges
    → slice_get ranges (place + 1) ≡ Some operand → OneKnown filter ranges place node operand
one_known {filter = filter} {place = place} {node = node} {operand = operand} has known operand_at = record {
  right = known.after (place + 1) operand (omega arith) operand_at;
  quiet = λ quiet. quiet (place + 1) operand (omega arith) (one_below filter has.right place node has.at has.is) operand_at;
}

-- the same of two
pub record TwoKnown (filter : Filter) (ranges : List Range) (place : ℕ) (node next : CheckedNode) (left right : Range) : Type 0 where
  pub first : IsRangeAt filter (place + 1) left
  pub second : IsRangeAt filter next.stop right
  pub quiet : AreQuiet ranges (place + 1) node.stop → (left.may_fault ≡ false) × (right.may_fault ≡ false)

pub two_known : {filter : Filter} {ranges : List Range} {place : ℕ} {node next : CheckedNode} {left right : Range} → HasForm filter place node NodeForm.Two → AreKnownAfter filter place ranges
    → slice_get filter.list.nodes (place + 1) ≡ Some next → slice_get ranges (place + 1) ≡ Some left → slice_get ranges next.stop ≡ Some right
    → TwoKnown filter ranges place node next left right
two_known {filter = filter} {place = place} {node = node} {next = next} {left = left} {right = right} has known next_at left_at right_at =
    let inside = two_inside filter has.right place node has.at node.kind refl has.is in
    let below = two_below filter has.right place node has.at has.is in
    let onward = (inside.1 next next_at).1 in
    record {
      first = known.after (place + 1) left (omega arith) left_at;
      second = known.after next.stop right onward right_at;
      quiet = λ quiet. (quiet (place + 1) left (omega arith) below.0 left_at, quiet next.stop right onward (below.1 next next_at) right_at);
    }
