-- The children of a node stand within the list, and have ranges.
use Rattle.sql_outcomes.proofs.Common.{◌≡◌, ◌<◌, ◌≤◌, ◌+◌, ℕ, List, Some, length, refl, subst, arith, IsSomeAnd, slice_get, slice_get_within, Filter, IsFilter, CheckedNode, NodeKind, some_there, there_found, HasKind, tree_at, Range, BinaryOperator, Quantifier, AreRanges, Question, by_kind}
use Rattle.odata_ranges.proofs.Inside.{two_inside}
use Rattle.sql_outcomes.proofs.nodes.BinaryPlaces.{top_node}

module _ (filter : Filter) (right : IsFilter filter) (place : ℕ) where
  -- both children of a node of the kind
  abbrev pub BothInside : NodeKind → Type 0
  BothInside kind =
      (own : CheckedNode) → slice_get filter.list.nodes place ≡ Some own → own.kind ≡ kind
      → (place + 1 < length filter.list.nodes) × ((one : CheckedNode) → slice_get filter.list.nodes (place + 1) ≡ Some one → (one.stop < length filter.list.nodes) × (place + 1 ≤ one.stop))

  pub operator_inside : (operator : BinaryOperator) → BothInside (NodeKind.Binary operator)
  operator_inside operator own at is = two_inside filter right place own at (NodeKind.Binary operator) is refl

  pub flags_inside : BothInside NodeKind.Has
  flags_inside own at is = two_inside filter right place own at NodeKind.Has is refl

  pub path_inside : BothInside NodeKind.InPath
  path_inside own at is = two_inside filter right place own at NodeKind.InPath is refl

  pub lambda_inside : (quantifier : Quantifier) → BothInside (NodeKind.Lambda quantifier)
  lambda_inside quantifier own at is = two_inside filter right place own at (NodeKind.Lambda quantifier) is refl

  module _ (kind : NodeKind) (both : BothInside kind) (here : HasKind filter.list place kind) where
    pub first_child : place + 1 < length filter.list.nodes
    first_child =
        let own = some_there (λ (n : CheckedNode). n.kind ≡ kind) (slice_get filter.list.nodes place) here in
        (both own.0 own.1.0 own.1.1).0

    pub second_child : (second : ℕ) → IsSomeAnd (slice_get filter.list.nodes (place + 1)) (λ n. n.stop ≡ second) → second < length filter.list.nodes
    second_child second stops =
        let own = some_there (λ (n : CheckedNode). n.kind ≡ kind) (slice_get filter.list.nodes place) here in
        let one = some_there (λ (n : CheckedNode). n.stop ≡ second) (slice_get filter.list.nodes (place + 1)) stops in
        subst (λ (k : ℕ). k < length filter.list.nodes) one.1.1 ((both own.0 own.1.0 own.1.1).1 one.0 one.1.0).0

  -- those of an operator that was found there
  pub left_inside : (own : CheckedNode) → slice_get filter.list.nodes place ≡ Some own → (operator : BinaryOperator) → own.kind ≡ NodeKind.Binary operator → place + 1 < length filter.list.nodes
  left_inside own at operator is = (operator_inside operator own at is).0

  pub right_inside : (own : CheckedNode) → slice_get filter.list.nodes place ≡ Some own → (operator : BinaryOperator) → own.kind ≡ NodeKind.Binary operator → (second : ℕ)
      → IsSomeAnd (slice_get filter.list.nodes (place + 1)) (λ n. n.stop ≡ second) → second < length filter.list.nodes
  right_inside own at operator is = second_child (NodeKind.Binary operator) (operator_inside operator) (there_found (λ (n : CheckedNode). n.kind ≡ NodeKind.Binary operator) (slice_get filter.list.nodes place) own at is)

  -- the left side of `in` before a list
  pub list_child : HasKind filter.list place NodeKind.InList → place + 1 < length filter.list.nodes
  list_child here =
      let there = tree_at filter right place NodeKind.InList tt here in
      by_kind filter.schema filter.filtered there.scope filter.list place NodeKind.InList here (λ stop tree. place + 1 < length filter.list.nodes)
      (λ left trees stop from to stands.
      let top = top_node filter there.scope (place + 1) stands.children.middle left stands.children.left in
      slice_get_within filter.list.nodes (place + 1) top.found top.at)
      there.stop there.part there.stands

-- each node has its range
pub has_range : (question : Question) (ranges : List Range) → AreRanges question ranges → (place : ℕ) → place < length question.filter.list.nodes → place < length ranges
has_range question ranges are place within =
    let many : length ranges ≡ length question.filter.list.nodes = are.count in
    omega (arith, within, many)
