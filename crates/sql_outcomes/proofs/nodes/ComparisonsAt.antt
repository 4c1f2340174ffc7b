-- Nodes that compare: their sides as operands.
use Rattle.sql_outcomes.proofs.Common.{◌≡◌, ◌<◌, ◌+◌, ◌∙◌, inl, inr, ℕ, ℤ, List, Some, refl, sym, ap, subst, arith, IsSomeAnd, slice_get, IsMoment, IsNumberType, PrimitiveType, ExprType, null_type, single, SchemaModel, slots_of, type_name_at, Filter, IsFilter, Stands, CheckedNode, NodeKind, found_there, some_there, there_found, EndsOnceOnEntities, HasKind, AreAlikePrimitives, AreComparable, AreComparedBy, AreOrdered, OneType, OperatorByTypes, OperatorTyped, OfEquality, ReadsNumber, Between, quoted_text, expr_type, Scope, Typed, EdmType, ValueType, Range, tree_at, Tree, binary, node, BinaryOperator, ComparisonOperator, SqlType, Operand, Source, Kind, IsBelow, IsComparisonOf, IsSide, IsSideBy, AreCompared, kind_of_type, type_of_primitive, IsNodeAt, IsNodeOperand, IsSideAt, AreRanges, Question, BesideIn, only_part, by_kind}
use Rattle.sql_outcomes.proofs.nodes.BinaryPlaces.{top_node}
use Rattle.sql_outcomes.proofs.nodes.ComparedNodes.{compared_node}
use Rattle.sql_outcomes.proofs.nodes.Sides.{IsEither, OneNumber, beside_found, beside_member, not_both, side_cases}

-- ---- kinds of sides

number_whole : (p : PrimitiveType) → IsNumberType p → type_of_primitive p ≡ SqlType.Whole
number_whole PrimitiveType.Byte is = refl
number_whole PrimitiveType.SByte is = refl
number_whole PrimitiveType.Int16 is = refl
number_whole PrimitiveType.Int32 is = refl
number_whole PrimitiveType.Int64 is = refl
number_whole _ is = absurd is

alike_types : (p q : PrimitiveType) → AreAlikePrimitives p q → type_of_primitive p ≡ type_of_primitive q
alike_types p q (inl numbers) = number_whole p numbers.0 ∙ sym (number_whole q numbers.1)
alike_types p q (inr same) = ap type_of_primitive same

pub comparable_kinds : (schema : SchemaModel) (left right : EdmType) → AreComparable (expr_type schema left) (expr_type schema right) → AreCompared (kind_of_type left) (kind_of_type right)
comparable_kinds schema EdmType.Null right is = tt
comparable_kinds schema (EdmType.Single (ValueType.Prim p)) EdmType.Null is = tt
comparable_kinds schema (EdmType.Single (ValueType.Prim p)) (EdmType.Single (ValueType.Prim q)) is = alike_types p q is
comparable_kinds schema (EdmType.Single (ValueType.Enum id)) EdmType.Null is = tt
comparable_kinds schema (EdmType.Single (ValueType.Enum id)) (EdmType.Single (ValueType.Enum other)) is = refl
comparable_kinds schema (EdmType.Single (ValueType.Structured id)) EdmType.Null is = tt
comparable_kinds schema _ _ is = absurd is

ordered_comparable : (left right : ExprType) → AreOrdered left right → AreComparable left right
ordered_comparable null_type null_type is = tt
ordered_comparable null_type (single right) is = tt
ordered_comparable (single left) null_type is = tt
ordered_comparable (single left) (single right) is = is.0
ordered_comparable _ _ is = absurd is

by_comparable : (comparison : ComparisonOperator) (left right : ExprType) → AreComparedBy comparison left right → AreComparable left right
by_comparable ComparisonOperator.Eq left right is = is
by_comparable ComparisonOperator.Ne left right is = is
by_comparable _ left right is = ordered_comparable left right is

-- ---- operands

-- the operand of a node that is there
pub node_operand : (filter : Filter) (ranges : List Range) (operand : Operand) (place : ℕ) → IsSomeAnd (slice_get filter.list.nodes place) (λ node. operand.kind ≡ kind_of_type node.edm_type)
    → slice_get ranges place ≡ Some operand.range → IsNodeOperand filter ranges operand place
node_operand filter ranges operand place kind range =
    let there = some_there (λ (node : CheckedNode). operand.kind ≡ kind_of_type node.edm_type) (slice_get filter.list.nodes place) kind in
    record { node = there.0; at = there.1.0; kind = there.1.1; range = range }

node_side : (filter : Filter) (ranges : List Range) (place at : ℕ) (operand : Operand) → operand.source ≡ Source.Node at → IsNodeOperand filter ranges operand at → IsBelow filter place at
    → IsSide filter ranges place operand
node_side filter ranges place at operand source is below = subst (IsSideBy filter ranges place operand) (sym source) (is, below)

pub same_node : (filter : Filter) (place : ℕ) (m n : CheckedNode) → slice_get filter.list.nodes place ≡ Some m → slice_get filter.list.nodes place ≡ Some n → m ≡ n
same_node filter place m n here there = let e : Some m ≡ Some n = sym here ∙ there in cc

-- a side of the node: the number that is read there, or the node there
pub side_below : (filter : Filter) (ranges : List Range) (place at : ℕ) (operand : Operand) → IsSideAt filter ranges at operand → IsBelow filter place at → IsSide filter ranges place operand
side_below filter ranges place at operand (inl number) below = subst (IsSideBy filter ranges place operand) (sym number.source) (number.read.has, number.kind, number.plain)
side_below filter ranges place at operand (inr unread) below = node_side filter ranges place at operand unread.1.source unread.1.is below

both_members : (left right : Kind) → left ≡ Kind.Value SqlType.Member → right ≡ Kind.Value SqlType.Member → AreCompared left right
both_members left right is_left is_right =
    subst (λ (k : Kind). AreCompared k right) (sym is_left) (subst (λ (k : Kind). AreCompared (Kind.Value SqlType.Member) k) (sym is_right) refl)

module _ (question : Question) (ranges : List Range) (are : AreRanges question ranges) (right_filter : IsFilter question.filter) (ends : EndsOnceOnEntities)
    (is_moment : IsMoment question.now.civil question.now.offset_minutes) (types : OneType) (one : OneNumber) (operator : BinaryOperator) (place second : ℕ)
    (is_second : IsSomeAnd (slice_get question.filter.list.nodes (place + 1)) (λ left. left.stop ≡ second)) (left right : Operand) (left_is : IsSideAt question.filter ranges (place + 1) left)
    (right_is : IsSideAt question.filter ranges second right) where
  -- both sides below the node, of kinds that are compared
  record SidesCompared : Type 0 where
    left_side : IsSide question.filter ranges place left
    right_side : IsSide question.filter ranges place right
    compared : AreCompared left.kind right.kind

  module _ (scope : Scope) (a b : Tree) where
    abbrev BesideOf : Tree → ExprType → Type 0
    BesideOf tree = OfEquality operator (Typed (slots_of question.filter.schema) (type_name_at question.filter.schema question.filter.filtered) scope tree)

    -- beside a text that is read the node has the kind of an enumeration
    beside_read : (at stop : ℕ) (tree : Tree) (node_at : Operand) → IsNodeAt question.filter ranges at node_at → Stands question.filter.schema question.filter.filtered scope question.filter.list at stop tree
        → (other : Tree) (n : ℤ) → ReadsNumber (slots_of question.filter.schema) (BesideOf tree) other n → node_at.kind ≡ Kind.Value SqlType.Member
    beside_read at stop tree operand is stands other n reads =
        let filter = question.filter in
        let top = top_node filter scope at stop tree stands in
        let same : top.found ≡ is.is.node = same_node filter at top.found is.is.node top.at is.is.at in
        let type_is = types (slots_of filter.schema) (type_name_at filter.schema filter.filtered) scope tree reads.type_of (expr_type filter.schema top.found.edm_type) reads.beside.1 top.typed in
        is.is.kind ∙ ap (λ (f : CheckedNode). kind_of_type f.edm_type) (sym same)
        ∙ beside_member (slots_of filter.schema) filter.schema reads.type_of top.found.edm_type (quoted_text other) n type_is reads.number

    kinds_compared : (comparison : ComparisonOperator) → operator ≡ BinaryOperator.Comparison comparison → (l r type : ExprType)
        → Typed (slots_of question.filter.schema) (type_name_at question.filter.schema question.filter.filtered) scope a l
        → Typed (slots_of question.filter.schema) (type_name_at question.filter.schema question.filter.filtered) scope b r
        → Between (OperatorTyped (slots_of question.filter.schema) operator) a b l r type → (middle stop : ℕ) → IsEither question.filter ranges scope (BesideOf b) a (place + 1) middle left
        → IsEither question.filter ranges scope (BesideOf a) b second stop right → AreCompared left.kind right.kind
    kinds_compared comparison class_is l r type l_typed r_typed makes middle stop (inl read) (inl other) =
        absurd (not_both (slots_of question.filter.schema) (type_name_at question.filter.schema question.filter.filtered) scope operator a b read.number other.number read.reads other.reads)
    kinds_compared comparison class_is l r type l_typed r_typed makes middle stop (inl read) (inr alone) =
        both_members left.kind right.kind read.is.kind (beside_read second stop b right alone.is alone.stands a read.number read.reads)
    kinds_compared comparison class_is l r type l_typed r_typed makes middle stop (inr alone) (inl read) =
        both_members left.kind right.kind (beside_read (place + 1) middle a left alone.is alone.stands b read.number read.reads) read.is.kind
    kinds_compared comparison class_is l r type l_typed r_typed makes middle stop (inr first) (inr last) = elim makes [
      | inl by_types ↦
          let filter = question.filter in
          let slots = slots_of filter.schema in
          let root = type_name_at filter.schema filter.filtered in
          let top = top_node filter scope (place + 1) middle a first.stands in
          let end = top_node filter scope second stop b last.stands in
          let top_same : top.found ≡ first.is.is.node = same_node filter (place + 1) top.found first.is.is.node top.at first.is.is.at in
          let end_same : end.found ≡ last.is.is.node = same_node filter second end.found last.is.is.node end.at last.is.is.at in
          let l_is : l ≡ expr_type filter.schema top.found.edm_type = types slots root scope a l (expr_type filter.schema top.found.edm_type) l_typed top.typed in
          let r_is : r ≡ expr_type filter.schema end.found.edm_type = types slots root scope b r (expr_type filter.schema end.found.edm_type) r_typed end.typed in
          let typed = subst (λ (class : BinaryOperator). OperatorByTypes class l r type) class_is by_types in
          let comparable : AreComparable (expr_type filter.schema top.found.edm_type) (expr_type filter.schema end.found.edm_type) =
          subst (λ (t : ExprType). AreComparable t (expr_type filter.schema end.found.edm_type)) l_is (subst (AreComparable l) r_is (by_comparable comparison l r typed.0)) in
          let of_nodes = comparable_kinds filter.schema top.found.edm_type end.found.edm_type comparable in
          subst (λ (k : Kind). AreCompared k right.kind) (sym first.is.is.kind) (subst (AreCompared (kind_of_type first.is.is.node.edm_type)) (sym last.is.is.kind)
          (subst (λ (n : CheckedNode). AreCompared (kind_of_type n.edm_type) (kind_of_type last.is.is.node.edm_type)) top_same
          (subst (λ (n : CheckedNode). AreCompared (kind_of_type top.found.edm_type) (kind_of_type n.edm_type)) end_same of_nodes)))
      | inr read ↦ elim read.0.1 [
        | inl number ↦ absurd (last.none number.0 (record { type_of = l; beside = (read.0.0, l_typed); number = number.1 }))
        | inr number ↦ absurd (first.none number.0 (record { type_of = r; beside = (read.0.0, r_typed); number = number.1 }))
      ]
    ]

  sides_there : (comparison : ComparisonOperator) → operator ≡ BinaryOperator.Comparison comparison → (scope : Scope) (stop from to : ℕ) (a b : Tree)
      → Stands question.filter.schema question.filter.filtered scope question.filter.list place stop (node from to (binary operator a b)) → SidesCompared
  sides_there comparison class_is scope stop from to a b stands =
      let filter = question.filter in
      let middle : ℕ = stands.children.middle in
      let first = beside_found filter scope (BesideOf scope a b b) a (place + 1) middle stands.children.left in
      let reported : first.found.stop ≡ second = found_there (λ (n : CheckedNode). n.stop ≡ second) (slice_get filter.list.nodes (place + 1)) first.found first.at is_second in
      let is_middle : middle ≡ second = sym first.stops ∙ reported in
      let beside_right : BesideIn filter scope (BesideOf scope a b a) b second stop =
      subst (λ (k : ℕ). BesideIn filter scope (BesideOf scope a b a) b k stop) is_middle (only_part (BesideIn filter scope (BesideOf scope a b a) b) middle stop stands.children.right) in
      let last = beside_found filter scope (BesideOf scope a b a) b second stop beside_right in
      let own = top_node filter scope place stop (node from to (binary operator a b)) stands in
      let first_further : place + 1 < middle = first.further in
      let last_further : second < stop = last.further in
      let own_stops : own.found.stop ≡ stop = own.stops in
      let left_case = side_cases filter ranges scope (BesideOf scope a b b) a (place + 1) middle left left_is stands.children.left in
      let right_case = side_cases filter ranges scope (BesideOf scope a b a) b second stop right right_is beside_right in
      let typed = own.typed in
      record {
        left_side = side_below filter ranges place (place + 1) left left_is (
          omega arith,
          there_found (λ (n : CheckedNode). place + 1 < n.stop) (slice_get filter.list.nodes place) own.found own.at (omega (arith, first_further, last_further, own_stops, is_middle)),
        );
        right_side = side_below filter ranges place second right right_is (
          omega (arith, first_further, is_middle),
          there_found (λ (n : CheckedNode). second < n.stop) (slice_get filter.list.nodes place) own.found own.at (omega (arith, last_further, own_stops)),
        );
        compared = kinds_compared scope a b comparison class_is typed.left typed.right (expr_type filter.schema own.found.edm_type) typed.left_typed typed.right_typed typed.makes middle stop left_case right_case;
      }

  pub binary_compares : (comparison : ComparisonOperator) → operator ≡ BinaryOperator.Comparison comparison → HasKind question.filter.list place (NodeKind.Binary operator)
      → IsComparisonOf question ranges place comparison left right
  binary_compares comparison class_is here =
      let s = tree_at question.filter right_filter place (NodeKind.Binary operator) tt here in
      let sides = by_kind question.filter.schema question.filter.filtered s.scope question.filter.list place (NodeKind.Binary operator) here (λ stop tree. SidesCompared)
      (λ a b stop from to stands. sides_there comparison class_is s.scope stop from to a b stands) s.stop s.part s.stands in
      record {
        left_is = sides.left_side;
        right_is = sides.right_side;
        compared = sides.compared;
        says = λ world o seen has.
            compared_node question ranges are ends is_moment types one operator comparison class_is place second here left right left_is right_is is_second world o seen has;
      }
