-- Nodes that have a fault, and children of a node one after another.
use Rattle.std.proofs.Common.{◌≡◌, ◌∙◌, ap, ◌<◌, ◌≤◌, ◌+◌, ◌⊎◌, ℕ, List, [], ◌∷◌, true, false, Some, None, Result, below_more, inl, inr, length, slice_get, sym, arith}
use Rattle.std.specs.Prelude.{IsSomeAnd}
use Rattle.edm_values.specs.MomentParts.{MomentParts}
use Rattle.edm_values.specs.declared.datum.Datum.{Datum}
use Rattle.edm_entities.specs.Row.{Row}
use Rattle.odata_checked_filter.specs.FlatTree.{FlatTree}
use Rattle.odata_checked_filter.specs.declared.checked_node.CheckedNode.{CheckedNode}
use Rattle.odata_filter_operations.specs.declared.eval_fault.EvalFault.{EvalFault}
use Rattle.filter_context.specs.private.ContextModel.{context_in}
use Rattle.filter_context.proofs.Operands.{operand_inside}
use Rattle.filter_context.proofs.Parts.{goes_there, some_there}
use Rattle.odata_eval.specs.NodeOutcome.{IsNodeAnswer}
use Rattle.row_explanation.specs.NodeReports.{AreAround, HasFault, IsChildOf, IsFaultBelow, IsFirstFault}

-- a node that has an answer is one of the list
pub answered_within : (row : Row) (moment : MomentParts) (list : FlatTree) (index : ℕ) (answer : Result Datum EvalFault) → IsNodeAnswer row moment list index answer → index < length list.nodes
answered_within row moment list index answer answered =
    operand_inside (context_in row moment list []) index (record { stop = answered.there.0; tree = answered.there.1; stands = answered.there.2 })

module _ (row : Row) (moment : MomentParts) (list : FlatTree) where
  pub faulty_within : (index : ℕ) → HasFault row moment list index true → index < length list.nodes
  faulty_within index faulty = answered_within row moment list index _ faulty.1.1

  -- ---- bounds, one of which holds

  one_of : (stop next child : ℕ) → next ≤ child → (stop ≤ next) ⊎ (stop ≤ child) → stop ≤ child + 1
  one_of stop next child past (inl by) = omega arith
  one_of stop next child past (inr by) = omega arith

  at_last : (stop next child : ℕ) → next ≤ child → (stop ≤ next) ⊎ (stop ≤ child) → stop ≤ child
  at_last stop next child past (inl by) = omega arith
  at_last stop next child past (inr by) = by

  further : (stop next child : ℕ) → (stop ≤ next) ⊎ (stop ≤ child) → (stop ≤ next) ⊎ (stop ≤ child + 1)
  further stop next child (inl by) = inl by
  further stop next child (inr by) = inr (omega arith)

  -- ---- children of the node at an index

  module _ (index : ℕ) where
    -- what lies before an index has been asked, or lies in the tree of a child that was
    abbrev pub IsPassed : ℕ → ℕ → Type 0
    IsPassed next child = (next ≤ child)
        ⊎ ((j : ℕ) × (index < j) × (j < child) × IsSomeAnd (slice_get list.nodes j) (λ found. found.stop ≡ next))

    abbrev pub NoneBefore : ℕ → Type 0
    NoneBefore child = (k : ℕ) → k < child → IsChildOf list index k → HasFault row moment list k false

    pub none_at_first : NoneBefore (index + 1)
    none_at_first k before is = let after = is.after in absurd (omega arith)

    -- one that is asked
    pub none_asked : (child : ℕ) → NoneBefore child → HasFault row moment list child false → NoneBefore (child + 1)
    none_asked child none here = below_more (λ (k : ℕ). IsChildOf list index k → HasFault row moment list k false) child none (λ is. here)

    -- one in the tree of another child is none itself
    passed_is_none : (child next : ℕ) → child < next → IsPassed next child → IsChildOf list index child → ⊥
    passed_is_none child next within (inl before) is = absurd (omega arith)
    passed_is_none child next within (inr passed) is =
        let first = some_there (λ (f : CheckedNode). f.stop ≡ next) (slice_get list.nodes passed.0) passed.3 in
        let other = some_there (λ (f : CheckedNode). f.stop ≤ child) (slice_get list.nodes passed.0) (is.apart passed.0 passed.1 passed.2) in
        let same : Some first.0 ≡ Some other.0 = sym first.1.0 ∙ other.1.0 in
        let one : first.0 ≡ other.0 = cc in
        let stop : first.0.stop ≡ other.0.stop = ap (λ (f : CheckedNode). f.stop) one in
        let a : first.0.stop ≡ next = first.1.1 in
        let b : other.0.stop ≤ child = other.1.1 in
        omega arith

    -- a child that lies before one index stops by it, or by the other one
    abbrev pub StopBy : ℕ → ℕ → Type 0
    StopBy next child = (k : ℕ) → k < child → IsChildOf list index k → IsSomeAnd (slice_get list.nodes k) (λ found. (found.stop ≤ next) ⊎ (found.stop ≤ child))

    pub stop_by_first : StopBy (index + 1) (index + 1)
    stop_by_first k before is = let after = is.after in absurd (omega arith)

    -- one more that is asked
    pub stop_by_asked : (child next stop : ℕ) → next ≤ child → IsSomeAnd (slice_get list.nodes child) (λ found. found.stop ≡ stop) → StopBy next child → StopBy stop (child + 1)
    stop_by_asked child next stop past is_stop stops =
        below_more (λ (k : ℕ). IsChildOf list index k → IsSomeAnd (slice_get list.nodes k) (λ found. (found.stop ≤ stop) ⊎ (found.stop ≤ child + 1))) child
        (λ k before is.
        goes_there (slice_get list.nodes k) (λ (f : CheckedNode). (f.stop ≤ next) ⊎ (f.stop ≤ child)) (λ (f : CheckedNode). (f.stop ≤ stop) ⊎ (f.stop ≤ child + 1))
        (λ f by. inr (one_of f.stop next child past by)) (stops k before is))
        (λ is. goes_there (slice_get list.nodes child) (λ (f : CheckedNode). f.stop ≡ stop) (λ (f : CheckedNode). (f.stop ≤ stop) ⊎ (f.stop ≤ child + 1)) (λ f same. inl (omega (arith, same))) is_stop)

    -- one more that is none
    pub stop_by_passed : (child next : ℕ) → child < next → IsPassed next child → StopBy next child → StopBy next (child + 1)
    stop_by_passed child next within passed stops =
        below_more (λ (k : ℕ). IsChildOf list index k → IsSomeAnd (slice_get list.nodes k) (λ found. (found.stop ≤ next) ⊎ (found.stop ≤ child + 1))) child
        (λ k before is.
        goes_there (slice_get list.nodes k) (λ (f : CheckedNode). (f.stop ≤ next) ⊎ (f.stop ≤ child)) (λ (f : CheckedNode). (f.stop ≤ next) ⊎ (f.stop ≤ child + 1))
        (λ f by. further f.stop next child by) (stops k before is))
        (λ is. absurd (passed_is_none child next within passed is))

    pub none_passed : (child next : ℕ) → child < next → IsPassed next child → NoneBefore child → NoneBefore (child + 1)
    none_passed child next within passed none =
        below_more (λ (k : ℕ). IsChildOf list index k → HasFault row moment list k false) child none (λ is. absurd (passed_is_none child next within passed is))

    pub still_passed : (child next : ℕ) → IsPassed next child → IsPassed next (child + 1)
    still_passed child next (inl before) = inl (omega arith)
    still_passed child next (inr passed) = let earlier : passed.0 < child = passed.2 in inr (passed.0, passed.1, omega arith, passed.3)

    -- at the end
    pub none_to_stop : (stop child : ℕ) → IsSomeAnd (slice_get list.nodes index) (λ found. found.stop ≡ stop) → stop ≤ child → NoneBefore child → IsFaultBelow row moment list index None
    none_to_stop stop child is_stop past none k is =
        let own = some_there (λ (f : CheckedNode). f.stop ≡ stop) (slice_get list.nodes index) is_stop in
        let bound = some_there (λ (f : CheckedNode). k < f.stop) (slice_get list.nodes index) is.before_end in
        let same : Some own.0 ≡ Some bound.0 = sym own.1.0 ∙ bound.1.0 in
        let one : own.0 ≡ bound.0 = cc in
        let ends : own.0.stop ≡ bound.0.stop = ap (λ (f : CheckedNode). f.stop) one in
        let a : own.0.stop ≡ stop = own.1.1 in
        let b : k < bound.0.stop = bound.1.1 in
        none k (omega arith) is

    pub first_fault : (child next stop : ℕ) → index < child → IsSomeAnd (slice_get list.nodes index) (λ found. found.stop ≡ stop) → child < stop → HasFault row moment list child true → NoneBefore child
        → next ≤ child → StopBy next child → IsFirstFault row moment list index child
    first_fault child next stop after is_stop before faulty none past stops = record {
      after = after;
      before_end = goes_there (slice_get list.nodes index) (λ (f : CheckedNode). f.stop ≡ stop) (λ (f : CheckedNode). child < f.stop) (λ f same. omega (arith, same)) is_stop;
      apart = λ k is earlier.
          goes_there (slice_get list.nodes k) (λ (f : CheckedNode). (f.stop ≤ next) ⊎ (f.stop ≤ child)) (λ (f : CheckedNode). f.stop ≤ child)
          (λ f by. at_last f.stop next child past by) (stops k earlier is);
      faulty = faulty;
      earlier = λ k is earlier. none k earlier is;
    }

    pub none_to_end : (child : ℕ) → length list.nodes ≤ child → NoneBefore child → IsFaultBelow row moment list index None
    none_to_end child past none k is = let within = is.within in none k (omega arith) is

  -- ---- the way down

  pub comes_further : (index child : ℕ) → ((around : List ℕ) × AreAround row moment list index around) → IsFirstFault row moment list index child
      → (around : List ℕ) × AreAround row moment list child around
  comes_further index child way first = (index ∷ way.0, (first, way.1))
