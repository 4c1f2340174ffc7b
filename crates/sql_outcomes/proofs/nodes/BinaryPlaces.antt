-- Where the sides of an operator with two operands stand, and of which types they are.
use Rattle.sql_outcomes.proofs.Common.{◌≡◌, ◌<◌, ◌+◌, inl, inr, ℕ, Some, sym, subst, arith, slice_get, ExprType, slots_of, type_name_at, Filter, IsFilter, Stands, CheckedNode, NodeKind, further_in, HasKind, OneType, tree_at, IsEquality, OperatorByTypes, OfEquality, Scope, Typed, expr_type, Tree, binary, node, BinaryOperator, BesideIn, alone_side, only_part, by_kind}

-- the node that stands at the top of a tree
pub record TopNode (filter : Filter) (scope : Scope) (place stop : ℕ) (tree : Tree) : Type 0 where
  pub found : CheckedNode
  pub at : slice_get filter.list.nodes place ≡ Some found
  pub stops : found.stop ≡ stop
  pub typed : Typed (slots_of filter.schema) (type_name_at filter.schema filter.filtered) scope tree (expr_type filter.schema found.edm_type)

pub top_node : (filter : Filter) (scope : Scope) (place stop : ℕ) (tree : Tree) → Stands filter.schema filter.filtered scope filter.list place stop tree → TopNode filter scope place stop tree
top_node filter scope place stop (node from to shape) stands = record {
  found = stands.top.found;
  at = stands.top.stands_at;
  stops = stands.top.last;
  typed = stands.top.typed;
}

-- the node of the operator, and those of its sides, which have the types that the class takes
pub record TwoBelow (filter : Filter) (operator : BinaryOperator) (place : ℕ) : Type 0 where
  pub own : CheckedNode
  pub own_at : slice_get filter.list.nodes place ≡ Some own
  pub left : CheckedNode
  pub left_at : slice_get filter.list.nodes (place + 1) ≡ Some left
  pub right : CheckedNode
  pub right_at : slice_get filter.list.nodes left.stop ≡ Some right
  pub after : place + 1 < left.stop
  pub within : left.stop < own.stop
  pub types : OperatorByTypes operator (expr_type filter.schema left.edm_type) (expr_type filter.schema right.edm_type) (expr_type filter.schema own.edm_type)

module _ (filter : Filter) (types : OneType) (operator : BinaryOperator) (unread : IsEquality operator → ⊥) (place : ℕ) (here : HasKind filter.list place (NodeKind.Binary operator)) where
  two_there : (scope : Scope) (stop from to : ℕ) (a b : Tree) → Stands filter.schema filter.filtered scope filter.list place stop (node from to (binary operator a b)) → TwoBelow filter operator place
  two_there scope stop from to a b stands =
      let schema = filter.schema in
      let n = filter.filtered in
      let list = filter.list in
      let slots = slots_of schema in
      let root = type_name_at schema n in
      let middle : ℕ = stands.children.middle in
      let first = alone_side filter scope operator unread (Typed slots root scope b) a (place + 1) middle stands.children.left in
      let second = alone_side filter scope operator unread (Typed slots root scope a) b middle stop (only_part (BesideIn filter scope (OfEquality operator (Typed slots root scope a)) b) middle stop stands.children.right) in
      let own = top_node filter scope place stop (node from to (binary operator a b)) stands in
      let left = top_node filter scope (place + 1) middle a first in
      let right = top_node filter scope middle stop b second in
      let first_further : place + 1 < middle = further_in schema n list scope (place + 1) middle a first in
      let second_further : middle < stop = further_in schema n list scope middle stop b second in
      let left_stops : left.found.stop ≡ middle = left.stops in
      let own_stops : own.found.stop ≡ stop = own.stops in
      let typed = own.typed in
      let plain : OperatorByTypes operator typed.left typed.right (expr_type schema own.found.edm_type) = elim typed.makes [
        | inl is ↦ is
        | inr read ↦ absurd (unread read.0.0)
      ] in
      let left_type : typed.left ≡ expr_type schema left.found.edm_type = types slots root scope a typed.left (expr_type schema left.found.edm_type) typed.left_typed left.typed in
      let right_type : typed.right ≡ expr_type schema right.found.edm_type = types slots root scope b typed.right (expr_type schema right.found.edm_type) typed.right_typed right.typed in
      record {
        own = own.found;
        own_at = own.at;
        left = left.found;
        left_at = left.at;
        right = right.found;
        right_at = subst (λ (k : ℕ). slice_get list.nodes k ≡ Some right.found) (sym left_stops) right.at;
        after = omega (arith, first_further, left_stops);
        within = omega (arith, second_further, left_stops, own_stops);
        types = subst (λ (t : ExprType). OperatorByTypes operator t (expr_type schema right.found.edm_type) (expr_type schema own.found.edm_type)) left_type
            (subst (λ (t : ExprType). OperatorByTypes operator typed.left t (expr_type schema own.found.edm_type)) right_type plain);
      }

  pub two_below : IsFilter filter → TwoBelow filter operator place
  two_below right =
      let s = tree_at filter right place (NodeKind.Binary operator) tt here in
      by_kind filter.schema filter.filtered s.scope filter.list place (NodeKind.Binary operator) here (λ stop tree. TwoBelow filter operator place)
      (λ a b stop from to stands. two_there s.scope stop from to a b stands) s.stop s.part s.stands
