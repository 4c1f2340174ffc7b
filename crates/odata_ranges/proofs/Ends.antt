-- Where trees end: within the list of nodes, and after their children.
use Rattle.odata_ranges.proofs.Common.{◌≡◌, ℕ, ◌<◌, ◌≤◌, ◌+◌, Some, length, slice_get, arith, Tree, count, Filter, IsFilter, SideBySide, CheckedNode, NodeKind, body_there, one_there, two_there, numbered, lies_nonempty, refl, Scope, NodeForm, form_of, ◌-◌, variable_names}
use Rattle.odata_ranges.proofs.Layouts.{LiesIn, by_kind, inside_there, stop_there}
use Rattle.odata_checked_filter.proofs.flat.Parts.{part_stands, parts_count}
use Rattle.odata_checked_filter.proofs.flat.Places.{found_within}
use Rattle.odata_checked_filter.proofs.flat.Standing.{lies_size}
use Rattle.odata_checked_filter.specs.ScopedNodes.{scoped_nodes}
use Rattle.odata_signatures.specs.PreOrder.{pre_order}

-- the last node of a tree is one of the list
ends_inside : (filter : Filter) (scope : Scope) (i j : ℕ) (tree : Tree) → LiesIn filter scope i j tree → j ≤ length filter.list.nodes
ends_inside filter scope i j tree stands =
    let nodes = scoped_nodes (variable_names scope) tree in
    let size : j ≡ i + length (pre_order tree) = lies_size filter.schema filter.filtered scope filter.list i j tree stands in
    let some : i < j = lies_nonempty filter.schema filter.filtered scope filter.list i j tree stands in
    let count : length nodes ≡ length (pre_order tree) = parts_count (variable_names scope) tree in
    let last = found_within nodes (length nodes - 1) (omega arith) in
    let there = part_stands filter.schema filter.filtered filter.list scope i j tree (length nodes - 1) last.0 stands last.1 in
    let inside : i + (length nodes - 1) < length filter.list.nodes = inside_there filter there.inner (i + (length nodes - 1)) there.j last.0.part there.stands in
    omega arith

module _ (filter : Filter) (is : IsFilter filter) (place : ℕ) (found : CheckedNode) (at : slice_get filter.list.nodes place ≡ Some found) where
  pub stop_inside : found.stop ≤ length filter.list.nodes
  stop_inside =
      let there = numbered filter place found is at in
      let same = stop_there filter there.scope place found at there.stop there.part there.stands in
      let most = ends_inside filter there.scope place there.stop there.part there.stands in
      omega (arith, same, most)

  pub node_onward : place < found.stop
  node_onward =
      let there = numbered filter place found is at in
      let same = stop_there filter there.scope place found at there.stop there.part there.stands in
      let further = lies_nonempty filter.schema filter.filtered there.scope filter.list place there.stop there.part there.stands in
      omega (arith, same, further)

  -- the one child of a node lies from the next index on
  pub one_child : (scope : Scope) (kind : NodeKind) → found.kind ≡ kind → form_of kind ≡ NodeForm.One → (stop : ℕ) (tree : Tree) → LiesIn filter scope place stop tree
      → (base : Tree) × LiesIn filter scope (place + 1) stop base
  one_child scope NodeKind.Count is_kind form = by_kind filter scope place found at NodeKind.Count is_kind (λ s t. (base : Tree) × LiesIn filter scope (place + 1) s base)
      (λ base s from to stands. (base, one_there filter.schema filter.filtered scope filter.list (place + 1) s base stands.children))
  one_child scope NodeKind.AnyItem is_kind form = by_kind filter scope place found at NodeKind.AnyItem is_kind (λ s t. (base : Tree) × LiesIn filter scope (place + 1) s base)
      (λ base s from to stands. (base, one_there filter.schema filter.filtered scope filter.list (place + 1) s base stands.children))
  one_child scope NodeKind.Neg is_kind form = by_kind filter scope place found at NodeKind.Neg is_kind (λ s t. (base : Tree) × LiesIn filter scope (place + 1) s base)
      (λ base s from to stands. (base, one_there filter.schema filter.filtered scope filter.list (place + 1) s base stands.children))
  one_child scope NodeKind.Not is_kind form = by_kind filter scope place found at NodeKind.Not is_kind (λ s t. (base : Tree) × LiesIn filter scope (place + 1) s base)
      (λ base s from to stands. (base, one_there filter.schema filter.filtered scope filter.list (place + 1) s base stands.children))
  one_child scope _ is_kind form = absurd (cc)

  -- two children lie side by side from there on, the second one perhaps with one more variable in scope
  pub record TwoChildren (scope : Scope) (stop : ℕ) : Type 0 where
    pub first : Tree
    pub second : Tree
    pub inner : Scope
    pub middle : ℕ
    pub left : LiesIn filter scope (place + 1) middle first
    pub right : LiesIn filter inner middle stop second

  two_sides : (scope : Scope) (s : ℕ) (l r : Tree) → SideBySide (λ middle. LiesIn filter scope (place + 1) middle l) (λ middle. LiesIn filter scope middle s r) → TwoChildren scope s
  two_sides scope s l r two = record { first = l; second = r; inner = scope; middle = two.middle; left = two.left; right = two.right }

  pub two_children : (scope : Scope) (kind : NodeKind) → found.kind ≡ kind → form_of kind ≡ NodeForm.Two → (stop : ℕ) (tree : Tree) → LiesIn filter scope place stop tree → TwoChildren scope stop
  two_children scope (NodeKind.Binary operator) is_kind form = by_kind filter scope place found at (NodeKind.Binary operator) is_kind (λ s t. TwoChildren scope s)
      (λ l r s from to stands. two_sides scope s l r (two_there filter.schema filter.filtered scope filter.list (place + 1) s l r stands.children))
  two_children scope NodeKind.Has is_kind form = by_kind filter scope place found at NodeKind.Has is_kind (λ s t. TwoChildren scope s)
      (λ l r s from to stands. two_sides scope s l r (two_there filter.schema filter.filtered scope filter.list (place + 1) s l r stands.children))
  two_children scope NodeKind.InPath is_kind form = by_kind filter scope place found at NodeKind.InPath is_kind (λ s t. TwoChildren scope s)
      (λ l r s from to stands. two_sides scope s l r (two_there filter.schema filter.filtered scope filter.list (place + 1) s l r stands.children))
  two_children scope (NodeKind.Lambda quantifier) is_kind form = by_kind filter scope place found at (NodeKind.Lambda quantifier) is_kind (λ s t. TwoChildren scope s)
      (λ base variable body s from to stands.
      let two = body_there filter.schema filter.filtered scope filter.list (place + 1) s base variable body stands.children in
      record { first = base; second = body; inner = _; middle = two.middle; left = two.left; right = two.right.body })
  two_children scope _ is_kind form = absurd (cc)

  -- children stand before the stop
  pub one_below : form_of found.kind ≡ NodeForm.One → place + 1 < found.stop
  one_below form =
      let there = numbered filter place found is at in
      let same = stop_there filter there.scope place found at there.stop there.part there.stands in
      let child = one_child there.scope found.kind refl form there.stop there.part there.stands in
      let below = lies_nonempty filter.schema filter.filtered there.scope filter.list (place + 1) there.stop child.0 child.1 in
      omega (arith, same, below)

  pub two_below : form_of found.kind ≡ NodeForm.Two → (place + 1 < found.stop) × ((one : CheckedNode) → slice_get filter.list.nodes (place + 1) ≡ Some one → one.stop < found.stop)
  two_below form =
      let there = numbered filter place found is at in
      let same = stop_there filter there.scope place found at there.stop there.part there.stands in
      let two = two_children there.scope found.kind refl form there.stop there.part there.stands in
      let first = lies_nonempty filter.schema filter.filtered there.scope filter.list (place + 1) two.middle two.first two.left in
      let second = lies_nonempty filter.schema filter.filtered two.inner filter.list two.middle there.stop two.second two.right in
      (omega (arith, same, first, second), λ one one_at. let ends = stop_there filter there.scope (place + 1) one one_at two.middle two.first two.left in omega (arith, same, ends, second))
