-- Operands and trees in line: where a first one stands before the stop.
use Rattle.sql_outcomes.proofs.Common.{◌≡◌, ◌<◌, ◌≤◌, ◌∷◌, [], ℕ, List, arith, Operand, Trees, Tree, more_trees, Filter, AllStand, all_lie, further_in, lie_onward, Scope, AreAlong, ◌+◌, Some, IsSomeAnd, slice_get, CheckedNode, found_there, Range, AreItemsOf, IsSideAt}

module _ (filter : Filter) (At : ℕ → Operand → Type 0) where
  pub onward_along : (at stop : ℕ) (operands : List Operand) → AreAlong filter At at stop operands → at ≤ stop
  onward_along at stop [] along = omega (arith, along)
  onward_along at stop (operand ∷ operands) along =
      let next : along.0.stop ≤ stop = onward_along along.0.stop stop operands along.4 in
      let here : at < along.0.stop = along.2 in
      omega (arith, next, here)

  pub too_many : (at stop : ℕ) (operand : Operand) (operands : List Operand) → AreAlong filter At at stop (operand ∷ operands) → at ≡ stop → ⊥
  too_many at stop operand operands along same =
      let here : at < along.0.stop = along.2 in
      let next : along.0.stop ≤ stop = onward_along along.0.stop stop operands along.4 in
      absurd (omega (arith, here, next, same))

pub too_few : (filter : Filter) (scope : Scope) (at stop : ℕ) (tree : Tree) (more : Trees) → AllStand filter.schema filter.filtered scope filter.list at stop (more_trees tree more) → at ≡ stop → ⊥
too_few filter scope at stop tree more stand same =
    let here : at < stand.middle = further_in filter.schema filter.filtered filter.list scope at stand.middle tree stand.left in
    let next : stand.middle ≤ stop = lie_onward filter.schema filter.filtered scope filter.list stand.middle stop more (all_lie filter.schema filter.filtered scope filter.list stand.middle stop more stand.right) in
    absurd (omega (arith, here, next, same))

-- the items of a list stand from where its left side stops up to where the list does
pub items_along : (filter : Filter) (ranges : List Range) (place : ℕ) (items : List Operand) → AreItemsOf filter ranges place items → (own left : CheckedNode) → slice_get filter.list.nodes place ≡ Some own
    → slice_get filter.list.nodes (place + 1) ≡ Some left → AreAlong filter (IsSideAt filter ranges) left.stop own.stop items
items_along filter ranges place items are own left own_at left_at =
    found_there (λ (n : CheckedNode). AreAlong filter (IsSideAt filter ranges) n.stop own.stop items) (slice_get filter.list.nodes (place + 1)) left left_at
    (found_there (λ (n : CheckedNode). IsSomeAnd (slice_get filter.list.nodes (place + 1)) (λ m. AreAlong filter (IsSideAt filter ranges) m.stop n.stop items)) (slice_get filter.list.nodes place) own own_at are)
