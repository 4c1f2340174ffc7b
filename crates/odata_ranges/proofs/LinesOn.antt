-- The flags of trees in line, one after another.
use Rattle.odata_ranges.proofs.Common.{◌≡◌, ◌<◌, ◌≤◌, ℕ, List, Some, length, slice_get, sym, subst, arith, Trees, more_trees, no_trees, Filter, AllLie, CheckedNode, lie_onward, lies_nonempty, there_found, Scope, Range, AllPlaced, Covers, CoversLine}
use Rattle.odata_ranges.proofs.Layouts.{inside_there, stop_there}

-- what is left of the trees, and what covers it and the flags covers all
pub record Left (filter : Filter) (ranges : List Range) (flags : Range) (from stop at : ℕ) (scope : Scope) (trees : Trees) : Type 0 where
  pub rest : Trees
  pub stand : AllLie filter.schema filter.filtered scope filter.list at stop rest
  pub covers : (wider : Range) → Covers wider flags → AllPlaced filter.list ranges (Covers wider) at rest → AllPlaced filter.list ranges (Covers wider) from trees

abbrev pub IsOnward : Filter → List Range → Range → ℕ → ℕ → ℕ → Type 0
IsOnward filter ranges flags from stop at =
    (scope : Scope) (trees : Trees) → AllLie filter.schema filter.filtered scope filter.list from stop trees → Left filter ranges flags from stop at scope trees

covers_also : (wider middle range : Range) → Covers wider middle → Covers middle range → Covers wider range
covers_also wider middle range first second = record { fault = λ may. first.fault (second.fault may); null = λ may. first.null (second.null may) }

pub begins_onward : (filter : Filter) (ranges : List Range) (flags : Range) (from stop : ℕ) → IsOnward filter ranges flags from stop from
begins_onward filter ranges flags from stop = λ scope trees stand. record { rest = trees; stand = stand; covers = λ wider covers placed. placed }

module _ (filter : Filter) (ranges : List Range) (scope : Scope) (at stop : ℕ) (node : CheckedNode) (node_at : slice_get filter.list.nodes at ≡ Some node) (before : at < stop) where
  -- the next one of trees that stand before the stop ends within
  pub next_within : (rest : Trees) → AllLie filter.schema filter.filtered scope filter.list at stop rest → (at < node.stop) × (node.stop ≤ stop)
  next_within no_trees stand = let same : at ≡ stop = stand in absurd (omega (arith, same, before))
  next_within (more_trees tree more) stand =
      let same = stop_there filter scope at node node_at stand.middle tree stand.left in
      let further = lies_nonempty filter.schema filter.filtered scope filter.list at stand.middle tree stand.left in
      let last = lie_onward filter.schema filter.filtered scope filter.list stand.middle stop more stand.right in
      (omega (arith, same, further), omega (arith, same, last))

  module _ (flags joined range : Range) (range_at : slice_get ranges at ≡ Some range) (old : Covers joined flags) (new : Covers joined range) (from : ℕ) (trees : Trees) where
    goes_on : (rest : Trees) → AllLie filter.schema filter.filtered scope filter.list at stop rest
        → ((wider : Range) → Covers wider flags → AllPlaced filter.list ranges (Covers wider) at rest → AllPlaced filter.list ranges (Covers wider) from trees)
        → Left filter ranges joined from stop node.stop scope trees
    goes_on no_trees stand covers = let same : at ≡ stop = stand in absurd (omega (arith, same, before))
    goes_on (more_trees tree more) stand covers =
        let same = stop_there filter scope at node node_at stand.middle tree stand.left in record {
          rest = more;
          stand = subst (λ (m : ℕ). AllLie filter.schema filter.filtered scope filter.list m stop more) (sym same) stand.right;
          covers = λ wider covers_joined placed. covers wider (covers_also wider joined flags covers_joined old) (
            there_found (Covers wider) (slice_get ranges at) range range_at (covers_also wider joined range covers_joined new),
            there_found (λ found. AllPlaced filter.list ranges (Covers wider) found.stop more) (slice_get filter.list.nodes at) node node_at placed,
          );
        }

pub steps_onward : (filter : Filter) (ranges : List Range) (flags joined range : Range) (from stop at : ℕ) (node : CheckedNode) → IsOnward filter ranges flags from stop at → at < stop
    → slice_get filter.list.nodes at ≡ Some node → slice_get ranges at ≡ Some range → Covers joined flags → Covers joined range
    → IsOnward filter ranges joined from stop node.stop
steps_onward filter ranges flags joined range from stop at node onward before node_at range_at old new = λ scope trees stand.
    let left = onward scope trees stand in
    goes_on filter ranges scope at stop node node_at before flags joined range range_at old new from trees left.rest left.stand left.covers

none_left : (filter : Filter) (ranges : List Range) (flags : Range) (scope : Scope) (at stop : ℕ) (rest : Trees) → AllLie filter.schema filter.filtered scope filter.list at stop rest → stop ≤ at
    → AllPlaced filter.list ranges (Covers flags) at rest
none_left filter ranges flags scope at stop no_trees stand past = tt
none_left filter ranges flags scope at stop (more_trees tree more) stand past =
    let further = lies_nonempty filter.schema filter.filtered scope filter.list at stand.middle tree stand.left in
    let last = lie_onward filter.schema filter.filtered scope filter.list stand.middle stop more stand.right in
    absurd (omega (arith, further, last, past))

pub ends_onward : (filter : Filter) (ranges : List Range) (flags : Range) (from stop at : ℕ) → IsOnward filter ranges flags from stop at → stop ≤ at → CoversLine filter ranges flags from stop
ends_onward filter ranges flags from stop at onward past = λ scope trees stand.
    let left = onward scope trees stand in
    left.covers flags (record { fault = λ may. may; null = λ may. may }) (none_left filter ranges flags scope at stop left.rest left.stand past)

-- where one of them stands is a node
pub rest_inside : (filter : Filter) (scope : Scope) (at stop : ℕ) → at < stop → (rest : Trees) → AllLie filter.schema filter.filtered scope filter.list at stop rest → at < length filter.list.nodes
rest_inside filter scope at stop before no_trees stand = let same : at ≡ stop = stand in absurd (omega (arith, same, before))
rest_inside filter scope at stop before (more_trees tree more) stand = inside_there filter scope at stand.middle tree stand.left
