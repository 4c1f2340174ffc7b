-- Of nodes and operands: that they stand in the filter, evaluate to no fault, and may be put.
use Rattle.sql_outcomes.proofs.Common.{◌≡◌, ◌≢◌, ◌<◌, ◌+◌, ◌∷◌, [], ℕ, List, Option, Some, false, length, refl, sym, ap, subst, ◌∙◌, arith, slice_get, AllByRecursion, slice_get_within, PrimitiveType, ExprType, SchemaModel, slots_of, type_name_at, negation, node, ArithmeticOperator, BinaryOperator, LogicalOperator, IsNumberOrNull, expr_type, EdmType, ValueType, OneType, Filter, IsFilter, CheckedNode, NodeKind, one_there, found_there, goes_there, inside, there_found, Range, StandsIn, type_there, SqlType, tree_found, Operand, Source, Kind, IsChain, IsFaulty, IsFaultyKind, kind_of_single, kind_of_type, single_of, type_of_field, FieldType, IsSomeAnd, some_there, IsInside, IsNodeAt, IsPut, IsSourceOf, IsTestable, IsTested, AreRanges, HasFieldType, IsFaultless, IsKindAt, IsOfTypeAt, IsPathAt, IsValuedAt, IsCollectionAt, IsPlainAt, IsStep, IsTruthAt, IsTruthKind, Question}
use Rattle.odata_ranges.proofs.Forms.{by_kind}
use Rattle.sql_outcomes.specs.private.FaultySides.{IsCoded}
use Rattle.sql_outcomes.proofs.nodes.BelowNodes.{below_faultless}
use Rattle.sql_outcomes.proofs.nodes.BinaryPlaces.{TwoBelow, top_node, two_below}
use Rattle.sql_outcomes.proofs.nodes.ComparisonsAt.{same_node}
use Rattle.sql_outcomes.proofs.nodes.InPathNodes.{at_place}

-- ---- faults

pub faultless_plain : (filter : Filter) (ranges : List Range) (place : ℕ) → IsFaultless ranges place → IsPlainAt filter ranges place
faultless_plain filter ranges place faultless found range at there truth = found_there (λ (r : Range). r.may_fault ≡ false) (slice_get ranges place) range there faultless

module _ (question : Question) (ranges : List Range) (are : AreRanges question ranges) where
  term_inside : (term : ℕ) → IsTruthAt question.filter term → term < length question.filter.list.nodes
  term_inside term truth = inside (λ (n : CheckedNode). IsTruthKind (kind_of_type n.edm_type)) question.filter.list.nodes term truth

  -- each term has a range
  pub terms_ranged : (terms : List ℕ) → AllByRecursion (IsTruthAt question.filter) terms → AllByRecursion (λ (term : ℕ). term < length ranges) terms
  terms_ranged [] truths = tt
  terms_ranged (term ∷ terms) truths =
      let here : term < length question.filter.list.nodes = term_inside term truths.0 in
      let many : length ranges ≡ length question.filter.list.nodes = are.count in
      (omega (arith, here, many), terms_ranged terms truths.1)

  -- the terms of a chain that evaluates to no fault evaluate to none
  module _ (place : ℕ) (found : CheckedNode) (at : slice_get question.filter.list.nodes place ≡ Some found) (faultless : IsFaultless ranges place) where
    terms_faultless : (terms : List ℕ) → AllByRecursion (λ (term : ℕ). place < term) terms → AllByRecursion (λ (term : ℕ). term < found.stop) terms → AllByRecursion (IsTruthAt question.filter) terms
        → AllByRecursion (IsFaultless ranges) terms
    terms_faultless [] after within truths = tt
    terms_faultless (term ∷ terms) after within truths = (
      below_faultless question ranges are place term faultless
          (after.0, there_found (λ (n : CheckedNode). term < n.stop) (slice_get question.filter.list.nodes place) found at within.0) (term_inside term truths.0),
      terms_faultless terms after.1 within.1 truths.1,
    )

  pub chain_faultless : (connective : LogicalOperator) (place : ℕ) (terms : List ℕ) → IsChain question connective place terms → IsFaultless ranges place → AllByRecursion (IsFaultless ranges) terms
  chain_faultless connective place terms chain faultless =
      let ranged : place < length ranges = inside (λ (r : Range). r.may_fault ≡ false) ranges place faultless in
      let many : length ranges ≡ length question.filter.list.nodes = are.count in
      let found = at_place question.filter.list.nodes place (omega (arith, ranged, many)) in
      terms_faultless place found.0 found.1 faultless terms chain.after (chain.within found.0 found.1) chain.truths

-- ---- operands that stand in the filter

module _ (filter : Filter) (ranges : List Range) (operand : Operand) where
  source_inside : (source : Source) → IsSourceOf filter ranges operand source → IsInside filter source
  source_inside (Source.Node place) is = slice_get_within filter.list.nodes place is.node is.at
  source_inside source is = tt

  pub put_inside : IsPut filter ranges operand → IsInside filter operand.source
  put_inside is = source_inside operand.source is.source

  tested_by : (source : Source) (kind : Kind) → operand.source ≡ source → IsTestable filter ranges operand source kind → IsInside filter source
  tested_by (Source.Node at) Kind.Structured here is = source_inside (Source.Node at) is.0
  tested_by (Source.Node at) Kind.Null here is = subst (IsInside filter) here (put_inside is)
  tested_by (Source.Node at) (Kind.Value type) here is = subst (IsInside filter) here (put_inside is)
  tested_by source kind here is = tt

  pub tested_inside : IsTested filter ranges operand → IsInside filter operand.source
  tested_inside is = tested_by operand.source operand.kind refl is

  coded_inside : (source : Source) → IsCoded filter source → IsInside filter source
  coded_inside (Source.Node place) is = inside (λ (n : CheckedNode). IsTruthKind (kind_of_type n.edm_type)) filter.list.nodes place is
  coded_inside (Source.Bound level) is = tt
  coded_inside source is = absurd is

  faulty_by : (kind : Kind) → IsFaultyKind filter ranges operand kind → IsInside filter operand.source
  faulty_by (Kind.Value SqlType.Truth) is = coded_inside operand.source is
  faulty_by kind is = tested_inside is

  pub faulty_inside : IsFaulty filter ranges operand → IsInside filter operand.source
  faulty_inside is = faulty_by operand.kind is

pub all_inside : (filter : Filter) (ranges : List Range) (operands : List Operand) → AllByRecursion (IsPut filter ranges) operands → AllByRecursion (λ (operand : Operand). IsInside filter operand.source) operands
all_inside filter ranges [] all = tt
all_inside filter ranges (operand ∷ operands) all = (put_inside filter ranges operand all.0, all_inside filter ranges operands all.1)

-- ---- kinds

-- the kind of values that have such a type in JSON
pub field_kind : (type : FieldType) → kind_of_single (single_of type) ≡ Kind.Value (type_of_field type)
field_kind (FieldType.Prim p) = refl
field_kind (FieldType.Enum id) = refl

pub of_field : (filter : Filter) (place : ℕ) (type : FieldType) → IsOfTypeAt filter place (EdmType.Single (single_of type)) → HasFieldType filter place type
of_field filter place type =
    goes_there (slice_get filter.list.nodes place) (λ (n : CheckedNode). n.edm_type ≡ EdmType.Single (single_of type))
    (λ (n : CheckedNode). kind_of_type n.edm_type ≡ Kind.Value (type_of_field type)) (λ n is. ap kind_of_type is ∙ field_kind type)

pub not_null : (filter : Filter) (place : ℕ) (found : CheckedNode) → slice_get filter.list.nodes place ≡ Some found → (type : FieldType) → IsOfTypeAt filter place (EdmType.Single (single_of type))
    → kind_of_type found.edm_type ≢ Kind.Null
not_null filter place found at type is null =
    let own = found_there (λ (n : CheckedNode). kind_of_type n.edm_type ≡ Kind.Value (type_of_field type)) (slice_get filter.list.nodes place) found at (of_field filter place type is) in
    let clash : Kind.Null ≡ Kind.Value (type_of_field type) = sym null ∙ own in
    cc

only_null : (type : EdmType) → kind_of_type type ≢ Kind.Structured → ((field : FieldType) → type ≢ EdmType.Single (single_of field)) → kind_of_type type ≡ Kind.Null
only_null EdmType.Null valued other = refl
only_null (EdmType.Single (ValueType.Prim p)) valued other = absurd (other (FieldType.Prim p) refl)
only_null (EdmType.Single (ValueType.Enum id)) valued other = absurd (other (FieldType.Enum id) refl)
only_null (EdmType.Single (ValueType.Structured id)) valued other = absurd (valued refl)
only_null (EdmType.Collection held) valued other = absurd (valued refl)

-- a node that has neither a value nor a position in JSON is of type Null
pub null_there : (filter : Filter) (place : ℕ) → IsValuedAt filter place → ((type : FieldType) → ¬ IsOfTypeAt filter place (EdmType.Single (single_of type)))
    → IsSomeAnd (slice_get filter.list.nodes place) (λ node. kind_of_type node.edm_type ≡ Kind.Null) × IsTruthAt filter place
null_there filter place valued other =
    let s = some_there (λ (n : CheckedNode). kind_of_type n.edm_type ≢ Kind.Structured) (slice_get filter.list.nodes place) valued in
    let null =
    only_null s.0.edm_type s.1.1
    (λ field is. other field (there_found (λ (n : CheckedNode). n.edm_type ≡ EdmType.Single (single_of field)) (slice_get filter.list.nodes place) s.0 s.1.0 is)) in (
      there_found (λ (n : CheckedNode). kind_of_type n.edm_type ≡ Kind.Null) (slice_get filter.list.nodes place) s.0 s.1.0 null,
      there_found (λ (n : CheckedNode). IsTruthKind (kind_of_type n.edm_type)) (slice_get filter.list.nodes place) s.0 s.1.0 (subst IsTruthKind (sym null) tt),
    )

only_structured : (held : ValueType) → ((field : FieldType) → held ≢ single_of field) → Kind.Structured ≡ kind_of_single held
only_structured (ValueType.Prim p) other = absurd (other (FieldType.Prim p) refl)
only_structured (ValueType.Enum id) other = absurd (other (FieldType.Enum id) refl)
only_structured (ValueType.Structured id) other = refl

-- members that have no such type are entities or complex values
pub structured_members : (filter : Filter) (place : ℕ) → IsCollectionAt filter place → ((type : FieldType) → ¬ IsOfTypeAt filter place (EdmType.Collection (single_of type)))
    → IsSomeAnd (slice_get filter.list.nodes place) (λ node. (held : ValueType) × (node.edm_type ≡ EdmType.Collection held) × (Kind.Structured ≡ kind_of_single held))
structured_members filter place collection other =
    let s = some_there (λ (n : CheckedNode). (held : ValueType) × (n.edm_type ≡ EdmType.Collection held)) (slice_get filter.list.nodes place) collection in
    there_found (λ (n : CheckedNode). (held : ValueType) × (n.edm_type ≡ EdmType.Collection held) × (Kind.Structured ≡ kind_of_single held)) (slice_get filter.list.nodes place) s.0 s.1.0 (
      s.1.1.0,
      s.1.1.1,
      only_structured s.1.1.0
          (λ field is. other field (there_found (λ (n : CheckedNode). n.edm_type ≡ EdmType.Collection (single_of field)) (slice_get filter.list.nodes place) s.0 s.1.0 (s.1.1.1 ∙ ap EdmType.Collection is))),
    )

-- a property, a member or a variable
pub kind_path : (filter : Filter) (place : ℕ) (kind : NodeKind) → IsKindAt filter place kind → IsStep kind → IsPathAt filter place
kind_path filter place kind is step =
    goes_there (slice_get filter.list.nodes place) (λ (n : CheckedNode). n.kind ≡ kind) (λ (n : CheckedNode). IsStep n.kind) (λ n same. subst IsStep (sym same) step) is

-- ---- operands of arithmetic

-- a kind of numbers or of null
abbrev IsOfNumber : Kind → Type 0
IsOfNumber Kind.Null = Unit {0}
IsOfNumber (Kind.Value SqlType.Whole) = Unit {0}
IsOfNumber kind = ⊥

of_number : (schema : SchemaModel) (type : EdmType) (number : Option PrimitiveType) → IsNumberOrNull (expr_type schema type) number → IsOfNumber (kind_of_type type)
of_number schema EdmType.Null number is = tt
of_number schema (EdmType.Single (ValueType.Prim PrimitiveType.Byte)) number is = tt
of_number schema (EdmType.Single (ValueType.Prim PrimitiveType.SByte)) number is = tt
of_number schema (EdmType.Single (ValueType.Prim PrimitiveType.Int16)) number is = tt
of_number schema (EdmType.Single (ValueType.Prim PrimitiveType.Int32)) number is = tt
of_number schema (EdmType.Single (ValueType.Prim PrimitiveType.Int64)) number is = tt
of_number schema (EdmType.Single (ValueType.Prim p)) number is = absurd is.0
of_number schema _ number is = absurd is

module _ (filter : Filter) (ranges : List Range) (at : ℕ) (operand : Operand) (is : IsNodeAt filter ranges at operand) where
  numeric_put : (number : Option PrimitiveType) → IsNumberOrNull (expr_type filter.schema is.is.node.edm_type) number → IsPut filter ranges operand
  numeric_put number numeric =
      let of = subst IsOfNumber (sym is.is.kind) (of_number filter.schema is.is.node.edm_type number numeric) in
      record {
        source = subst (IsSourceOf filter ranges operand) (sym is.source) is.is;
        valued = λ structured. subst IsOfNumber structured of;
        plain = λ truth. absurd (subst IsOfNumber truth of);
      }

module _ (filter : Filter) (right : IsFilter filter) (types : OneType) (ranges : List Range) (place : ℕ) (found : CheckedNode) (at : slice_get filter.list.nodes place ≡ Some found) where
  -- of the negation
  pub negated_put : found.kind ≡ NodeKind.Neg → (operand : Operand) → IsNodeAt filter ranges (place + 1) operand → IsPut filter ranges operand
  negated_put is operand is_operand =
      let there = tree_found filter right place found at NodeKind.Neg tt is in
      by_kind filter there.scope place found at NodeKind.Neg is (λ s t. StandsIn filter there.scope place s t → IsPut filter ranges operand)
      (λ below s from to stands again.
      let typed = type_there filter there.scope place found at s (node from to (negation below)) stands in
      let inner = one_there filter.schema filter.filtered there.scope filter.list (place + 1) s below stands.children in
      let top = top_node filter there.scope (place + 1) s below inner in
      let own = same_node filter (place + 1) top.found is_operand.is.node top.at is_operand.is.at in
      let type_is : typed.operand ≡ expr_type filter.schema top.found.edm_type =
      types (slots_of filter.schema) (type_name_at filter.schema filter.filtered) there.scope below typed.operand (expr_type filter.schema top.found.edm_type) typed.operand_typed top.typed in
      numeric_put filter ranges (place + 1) operand is_operand typed.makes.number
      (subst (λ (n : CheckedNode). IsNumberOrNull (expr_type filter.schema n.edm_type) typed.makes.number) own
      (subst (λ (t : ExprType). IsNumberOrNull t typed.makes.number) type_is typed.makes.operand_is)))
      there.stop there.part there.stands there.stands

  -- of an operator
  module _ (operator : ArithmeticOperator) (is : found.kind ≡ NodeKind.Binary (BinaryOperator.Arithmetic operator)) (first : Operand) (is_first : IsNodeAt filter ranges (place + 1) first) where
    below_operator : TwoBelow filter (BinaryOperator.Arithmetic operator) place
    below_operator = two_below filter types (BinaryOperator.Arithmetic operator) (λ equality. equality) place
        (there_found (λ (n : CheckedNode). n.kind ≡ NodeKind.Binary (BinaryOperator.Arithmetic operator)) (slice_get filter.list.nodes place) found at is) right

    pub first_put : IsPut filter ranges first
    first_put =
        let two = below_operator in
        let own = same_node filter (place + 1) two.left is_first.is.node two.left_at is_first.is.at in
        numeric_put filter ranges (place + 1) first is_first two.types.left_number
        (subst (λ (n : CheckedNode). IsNumberOrNull (expr_type filter.schema n.edm_type) two.types.left_number) own two.types.left_is)

    pub second_put : (stop : ℕ) (second : Operand) → is_first.is.node.stop ≡ stop → IsNodeAt filter ranges stop second → IsPut filter ranges second
    second_put stop second stops is_second =
        let two = below_operator in
        let own = same_node filter (place + 1) two.left is_first.is.node two.left_at is_first.is.at in
        let ends : two.left.stop ≡ stop = ap (λ (n : CheckedNode). n.stop) own ∙ stops in
        let other = same_node filter stop two.right is_second.is.node (subst (λ (k : ℕ). slice_get filter.list.nodes k ≡ Some two.right) ends two.right_at) is_second.is.at in
        numeric_put filter ranges stop second is_second two.types.right_number
        (subst (λ (n : CheckedNode). IsNumberOrNull (expr_type filter.schema n.edm_type) two.types.right_number) other two.types.right_is)
