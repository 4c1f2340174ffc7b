-- Where what stands somewhere stops, and what stands after it.
use Rattle.std.proofs.Common.{◌≡◌, ◌∙◌, ℕ, ◌<◌, ◌≤◌, ◌+◌, [], ℤ, Option, Some, slice_get, ap, sym, subst, inl, inr, arith}
use Rattle.std.specs.Prelude.{IsSomeAnd}
use Rattle.odata_syntax.specs.Tree.{Tree, Trees, any_item, binary, call, count, has, in_list, in_path, it, lambda, literal, logical_not, member, more_trees, name, negation, no_trees, node}
use Rattle.odata_syntax.specs.declared.binary_operator.BinaryOperator.{BinaryOperator}
use Rattle.csdl_schema.specs.ExprType.{ExprType, single}
use Rattle.odata_signatures.specs.OperatorTyped.{IsEquality}
use Rattle.odata_checked_filter.specs.declared.checked_node.CheckedNode.{CheckedNode}
use Rattle.odata_checked_filter.specs.declared.checked_node.NodeKind.{NodeKind}
use Rattle.odata_checked_filter.specs.FlatTree.{FlatTree}
use Rattle.filter_context.specs.declared.walk_class.WalkClass.{WalkClass}
use Rattle.odata_meaning.specs.Environment.{scope_of}
use Rattle.odata_signatures.specs.Reads.{OfEquality}
use Rattle.odata_signatures.specs.Sides.{side_of}
use Rattle.filter_context.specs.private.Place.{HasKind, IsRightOf, OperandStands, PartStands, TypedStands}
use Rattle.filter_context.specs.private.EvalContext.{OperandHere, StandsHere, TypedHere}
use Rattle.filter_context.specs.private.ContextModel.{ContextModel, environment_of}
use Rattle.filter_context.specs.WalkClass.{walk_of_operator}
use Rattle.odata_checked_filter.specs.Stands.{ResolvedStands, NumberStands, SideBySide, Stands}
use Rattle.odata_checked_filter.specs.private.Stands.{AllStand, ItemsStand}
use Rattle.odata_syntax.specs.declared.node.LiteralKind.{LiteralKind}
use Rattle.odata_signatures.specs.Typed.{Scope, Typed, with_variable}
use Rattle.csdl_schema.specs.SchemaModel.{SchemaModel, slots_of, type_name_at}
use Rattle.filter_context.proofs.Children.{body_stands, one_there}
use Rattle.filter_context.proofs.Operands.{ResolvedHere, resolved_here, resolved_operand, number_there}
use Rattle.filter_context.proofs.Parts.{by_kind, found_there, some_there, there_found}
use Rattle.filter_context.proofs.Spines.{AllowedBy, StandsAll, equality_walks, operands_allowed, plain_types}

one_stop : (o : Option CheckedNode) (a b : ℕ) → IsSomeAnd o (λ found. found.stop ≡ a) → IsSomeAnd o (λ found. found.stop ≡ b) → a ≡ b
one_stop o a b first second =
    let one = some_there (λ (f : CheckedNode). f.stop ≡ a) o first in
    let other = some_there (λ (f : CheckedNode). f.stop ≡ b) o second in
    let same : Some one.0 ≡ Some other.0 = sym one.1.0 ∙ other.1.0 in
    let is : one.0 ≡ other.0 = cc in
    sym one.1.1 ∙ ap (λ (f : CheckedNode). f.stop) is ∙ other.1.1

-- what stands somewhere stops after that
module _ (schema : SchemaModel) (n : ℕ) (list : FlatTree) where
  number_further : (scope : Scope) (i j : ℕ) (tree : Tree) (number : ℤ) → NumberStands schema n scope list number i j tree → i < j
  number_further scope i j (node from to (literal LiteralKind.Str spelling)) number stands = let e : i + 1 ≡ j = stands.children in omega arith
  number_further scope i j _ number stands = absurd stands

  resolved_further : (scope : Scope) (i j : ℕ) (tree : Tree) (OtherSide : ExprType → Type 0) → (Stands schema n scope list i j tree → i < j)
      → ResolvedStands schema n scope list OtherSide tree (λ a b. Stands schema n scope list a b tree) i j → i < j
  resolved_further scope i j tree OtherSide alone (inl read) = number_further scope i j tree read.0 read.2
  resolved_further scope i j tree OtherSide alone (inr none) = alone none.1

  mutual
    pub further_in : (scope : Scope) (i j : ℕ) (tree : Tree) → Stands schema n scope list i j tree → i < j
    further_in scope i j (node from to (literal kind spelling)) stands = let e : i + 1 ≡ j = stands.children in omega arith
    further_in scope i j (node from to it) stands = let e : i + 1 ≡ j = stands.children in omega arith
    further_in scope i j (node from to (name asked)) stands = let e : i + 1 ≡ j = stands.children in omega arith
    further_in scope i j (node from to (member base asked)) stands = let a : i + 1 < j = further_in scope (i + 1) j base (one_there schema n scope list (i + 1) j base stands.children) in omega arith
    further_in scope i j (node from to (count base)) stands = let a : i + 1 < j = further_in scope (i + 1) j base (one_there schema n scope list (i + 1) j base stands.children) in omega arith
    further_in scope i j (node from to (any_item base)) stands = let a : i + 1 < j = further_in scope (i + 1) j base (one_there schema n scope list (i + 1) j base stands.children) in omega arith
    further_in scope i j (node from to (negation operand)) stands = let a : i + 1 < j = further_in scope (i + 1) j operand (one_there schema n scope list (i + 1) j operand stands.children) in omega arith
    further_in scope i j (node from to (logical_not operand)) stands = let a : i + 1 < j = further_in scope (i + 1) j operand (one_there schema n scope list (i + 1) j operand stands.children) in omega arith
    further_in scope i j (node from to (binary operator left right)) stands =
        let m = stands.children.middle in
        let k = stands.children.right.middle in
        let a : i + 1 < m = resolved_further scope (i + 1) m left _ (further_in scope (i + 1) m left) stands.children.left in
        let b : m < k = resolved_further scope m k right _ (further_in scope m k right) stands.children.right.left in
        let e : k ≡ j = stands.children.right.right in
        omega arith
    further_in scope i j (node from to (has left right)) stands =
        let m = stands.children.middle in
        let k = stands.children.right.middle in
        let a : i + 1 < m = further_in scope (i + 1) m left stands.children.left in
        let b : m < k = resolved_further scope m k right _ (further_in scope m k right) stands.children.right.left in
        let e : k ≡ j = stands.children.right.right in
        omega arith
    further_in scope i j (node from to (in_path left path)) stands =
        let m = stands.children.middle in
        let a : i + 1 < m = further_in scope (i + 1) m left stands.children.left in
        let b : m < j = further_in scope m j path (one_there schema n scope list m j path stands.children.right) in
        omega arith
    further_in scope i j (node from to (in_list left items)) stands =
        let m = stands.children.middle in
        let a : i + 1 < m = further_in scope (i + 1) m left stands.children.left in
        let b : m ≤ j = listed_further_in scope m j left items stands.children.right in
        omega arith
    further_in scope i j (node from to (call asked arguments)) stands = let a : i + 1 ≤ j = all_further_in scope (i + 1) j arguments stands.children in omega arith
    further_in scope i j (node from to (lambda quantifier base asked body)) stands =
        let m = stands.children.middle in
        let a : i + 1 < m = further_in scope (i + 1) m base stands.children.left in
        let behind = body_stands schema n scope list m j base asked body stands.children.right in
        let b : m < j = further_in (with_variable scope asked (single behind.member_type)) m j body behind.body in
        omega arith

    pub all_further_in : (scope : Scope) (i j : ℕ) (trees : Trees) → AllStand schema n scope list i j trees → i ≤ j
    all_further_in scope i j no_trees stand = let same : i ≡ j = stand in omega arith
    all_further_in scope i j (more_trees tree more) stand =
        let a : i < stand.middle = further_in scope i stand.middle tree stand.left in
        let b : stand.middle ≤ j = all_further_in scope stand.middle j more stand.right in
        omega arith

    -- items beside a tree
    listed_further_in : (scope : Scope) (i j : ℕ) (left : Tree) (items : Trees)
        → ItemsStand schema n scope list (Typed (slots_of schema) (type_name_at schema n) scope left) i j items → i ≤ j
    listed_further_in scope i j left no_trees stand = let same : i ≡ j = stand in omega arith
    listed_further_in scope i j left (more_trees tree more) stand =
        let a : i < stand.middle = resolved_further scope i stand.middle tree _ (further_in scope i stand.middle tree) stand.left in
        let b : stand.middle ≤ j = listed_further_in scope stand.middle j left more stand.right in
        omega arith

  -- beside anything
  pub items_further_in : (scope : Scope) (i j : ℕ) (OtherSide : ExprType → Type 0) (items : Trees) → ItemsStand schema n scope list OtherSide i j items → i ≤ j
  items_further_in scope i j OtherSide no_trees stand = let same : i ≡ j = stand in omega arith
  items_further_in scope i j OtherSide (more_trees tree more) stand =
      let a : i < stand.middle = resolved_further scope i stand.middle tree OtherSide (further_in scope i stand.middle tree) stand.left in
      let b : stand.middle ≤ j = items_further_in scope stand.middle j OtherSide more stand.right in
      omega arith

module _ (context : ContextModel) where
  pub further : (i j : ℕ) (tree : Tree) → StandsHere context i j tree → i < j
  further = further_in context.row.schema context.row.type_id context.list (scope_of (environment_of context))

  pub all_further : (i j : ℕ) (trees : Trees) → StandsAll context i j trees → i ≤ j
  all_further = all_further_in context.row.schema context.row.type_id context.list (scope_of (environment_of context))

  -- where a node says that it stops
  pub stops_there : (i j right : ℕ) (tree : Tree) → StandsHere context i j tree
      → IsSomeAnd (slice_get context.list.nodes i) (λ found. found.stop ≡ right) → j ≡ right
  stops_there i j right (node from to shape) stands is =
      let e : stands.top.found.stop ≡ right = found_there (λ found. found.stop ≡ right) (slice_get context.list.nodes i) stands.top.found stands.top.stands_at is in
      sym stands.top.last ∙ e

  pub stops_here : (i j : ℕ) (tree : Tree) → StandsHere context i j tree → IsSomeAnd (slice_get context.list.nodes i) (λ found. found.stop ≡ j)
  stops_here i j (node from to shape) stands = there_found (λ found. found.stop ≡ j) (slice_get context.list.nodes i) stands.top.found stands.top.stands_at stands.top.last

  -- the same of operands
  pub operand_further : (i j : ℕ) (tree : Tree) → OperandHere context i j tree → i < j
  operand_further i j tree (inl stands) = further i j tree stands
  operand_further i j tree (inr number) = let next = (number_there context number.0 i j tree number.1).next in omega arith

  pub operand_stops_here : (i j : ℕ) (tree : Tree) → OperandHere context i j tree → IsSomeAnd (slice_get context.list.nodes i) (λ found. found.stop ≡ j)
  operand_stops_here i j tree (inl stands) = stops_here i j tree stands
  operand_stops_here i j tree (inr number) = (number_there context number.0 i j tree number.1).stops

  pub operand_stops_there : (i j right : ℕ) (tree : Tree) → OperandHere context i j tree
      → IsSomeAnd (slice_get context.list.nodes i) (λ found. found.stop ≡ right) → j ≡ right
  operand_stops_there i j right tree operand is = one_stop (slice_get context.list.nodes i) j right (operand_stops_here i j tree operand) is

  -- what stands in line where one part stops
  pub right_beside : (OtherSide : ExprType → Type 0) (right middle stop : ℕ) (tree : Tree) → middle ≡ right
      → SideBySide (λ k. ResolvedHere context OtherSide tree middle k) (λ k. k ≡ stop) → ResolvedHere context OtherSide tree right stop
  right_beside OtherSide right middle stop tree same side =
      subst (λ (m : ℕ). ResolvedHere context OtherSide tree m stop) same (subst (λ (k : ℕ). ResolvedHere context OtherSide tree middle k) side.right side.left)

  module _ (place : ℕ) where
    pub left_here : (stop from to : ℕ) (operator : BinaryOperator) (l r : Tree) → (stands : StandsHere context place stop (node from to (binary operator l r)))
        → OperandHere context (place + 1) stands.children.middle l
    left_here stop from to operator l r stands =
        resolved_here context (OfEquality operator (TypedHere context r)) l (place + 1) stands.children.middle stands.children.left

    -- the right operand stands where the left one says that it stops
    pub right_stands : (right stop from to : ℕ) (operator : BinaryOperator) (l r : Tree) → IsRightOf context.list place right
        → StandsHere context place stop (node from to (binary operator l r))
        → ResolvedHere context (OfEquality operator (TypedHere context l)) r right stop
    right_stands right stop from to operator l r is stands =
        right_beside (OfEquality operator (TypedHere context l)) right stands.children.middle stop r
        (operand_stops_there (place + 1) stands.children.middle right l (left_here stop from to operator l r stands) is) stands.children.right

    module _ (operator : BinaryOperator) (here : HasKind context.list place (NodeKind.Binary operator)) (part : PartStands context place) where
      pub right_there : (right : ℕ) × IsRightOf context.list place right
      right_there = by_kind context place (NodeKind.Binary operator) here (λ stop tree. (right : ℕ) × IsRightOf context.list place right)
          (λ left right stop from to stands.
          (stands.children.middle, operand_stops_here (place + 1) stands.children.middle left (left_here stop from to operator left right stands)))
          part.stop part.tree part.stands

      module _ (right_place : ℕ) (is_right : IsRightOf context.list place right_place) where
        pub right_part : OperandStands context right_place
        right_part = by_kind context place (NodeKind.Binary operator) here (λ stop tree. OperandStands context right_place)
            (λ left right stop from to stands.
            resolved_operand context (OfEquality operator (TypedHere context left)) right right_place stop (right_stands right_place stop from to operator left right is_right stands))
            part.stop part.tree part.stands

        -- one that is not read has a type that is allowed there
        right_allowed : (class : WalkClass) → walk_of_operator operator ≡ class → ¬ IsEquality operator → (stop from to : ℕ) (left right : Tree)
            → StandsHere context place stop (node from to (binary operator left right)) → ResolvedHere context (OfEquality operator (TypedHere context left)) right right_place stop
            → TypedStands context right_place (AllowedBy class)
        right_allowed class class_is other stop from to left right stands (inl read) = absurd (other read.1.beside.0)
        right_allowed class class_is other stop from to left right stands (inr alone) =
            let typed = stands.top.typed in
            record {
              stop = stop;
              tree = right;
              stands = alone.1;
              type_of = typed.right;
              typed = typed.right_typed;
              allowed = subst (λ (c : WalkClass). AllowedBy c typed.right) class_is
                  (operands_allowed operator typed.left typed.right _ (plain_types (slots_of context.row.schema) operator (side_of left typed.left) (side_of right typed.right) _ other typed.makes)).1;
            }

        pub right_typed : (class : WalkClass) → walk_of_operator operator ≡ class → ¬ (class ≡ WalkClass.Eager) → TypedStands context right_place (AllowedBy class)
        right_typed class class_is other = by_kind context place (NodeKind.Binary operator) here (λ stop tree. TypedStands context right_place (AllowedBy class))
            (λ left right stop from to stands.
            right_allowed class class_is (λ equality. other (sym class_is ∙ equality_walks operator equality)) stop from to left right stands
            (right_stands right_place stop from to operator left right is_right stands))
            part.stop part.tree part.stands

        pub right_further : place < right_place
        right_further = by_kind context place (NodeKind.Binary operator) here (λ stop tree. place < right_place)
            (λ left right stop from to stands.
            let first = left_here stop from to operator left right stands in
            let e : stands.children.middle ≡ right_place = operand_stops_there (place + 1) stands.children.middle right_place left first is_right in
            let f : place + 1 < stands.children.middle = operand_further (place + 1) stands.children.middle left first in
            omega arith)
            part.stop part.tree part.stands
