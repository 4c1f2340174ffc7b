-- What a node of arithmetic evaluates to, by what its sides do; `-` is a difference from 0.
use Rattle.sql_outcomes.proofs.Common.{◌≡◌, ◌≢◌, ◌<◌, ◌+◌, ◌∙◌, ℕ, pos, List, Some, Option, FitsSigned, length, refl, sym, ap, subst, arith, ints, w64, slice_get, IsMoment, Val, null, whole, PrimitiveType, ExprType, primitive, single, SchemaModel, Slots, slots_of, type_name_at, IsFilter, Stands, CheckedNode, NodeKind, one_there, found_there, EndsOnceOnEntities, IsOutcomeOf, scope_of, InType, HasKind, OneType, Typed, CalculationGives, NegatedGives, After, Then, Outcome, gives, overflow, divides_by_zero, Range, IsNumberOrNull, expr_type, EdmType, ValueType, Tree, binary, negation, node, ArithmeticOperator, BinaryOperator, SqlType, Operand, Source, Kind, CalculatedHas, IsComputedIn, IsOfNumbers, MadeOf, NoTruth, kind_of_type, IsNodeOperand, OperandHas, SourceHas, AreRanges, IsAskedOf, OfPlace, Question, World, MeansOf, binary_comes, means_in, means_of, by_kind, ℤ, IsNumberOf}
use Rattle.odata_ranges.proofs.HoldingOne.{minus_given}
use Rattle.sql_outcomes.proofs.nodes.BinaryPlaces.{top_node, two_below}
use Rattle.sql_outcomes.proofs.nodes.ComparisonsAt.{same_node}
use Rattle.sql_outcomes.proofs.nodes.WorldNodes.{ends_there, node_plain, of_type}

pub number_fits : (p : PrimitiveType) (n : ℤ) → IsNumberOf p n → FitsSigned w64 n
number_fits PrimitiveType.Byte n is = omega (arith, ints)
number_fits PrimitiveType.SByte n is = omega (arith, ints)
number_fits PrimitiveType.Int16 n is = omega (arith, ints)
number_fits PrimitiveType.Int32 n is = omega (arith, ints)
number_fits PrimitiveType.Int64 n is = is
number_fits _ n is = absurd is

-- ---- numbers and null

-- an operand of arithmetic is no truth value
number_kind : (schema : SchemaModel) (type : EdmType) (number : Option PrimitiveType) → IsNumberOrNull (expr_type schema type) number → kind_of_type type ≢ Kind.Value SqlType.Truth
number_kind schema EdmType.Null number is = λ same. cc
number_kind schema (EdmType.Single (ValueType.Prim PrimitiveType.Byte)) number is = λ same. cc
number_kind schema (EdmType.Single (ValueType.Prim PrimitiveType.SByte)) number is = λ same. cc
number_kind schema (EdmType.Single (ValueType.Prim PrimitiveType.Int16)) number is = λ same. cc
number_kind schema (EdmType.Single (ValueType.Prim PrimitiveType.Int32)) number is = λ same. cc
number_kind schema (EdmType.Single (ValueType.Prim PrimitiveType.Int64)) number is = λ same. cc
number_kind schema (EdmType.Single (ValueType.Prim p)) number is = absurd is.0
number_kind schema _ number is = absurd is

-- it evaluates to a number of 64 bits, null or a fault
of_numbers : (slots : Slots) (schema other : SchemaModel) (type : EdmType) (number : Option PrimitiveType) → IsNumberOrNull (expr_type schema type) number → (o : Outcome)
    → IsOutcomeOf slots (expr_type other type) o → IsOfNumbers o
of_numbers slots schema other type number is overflow typed = tt
of_numbers slots schema other type number is divides_by_zero typed = tt
of_numbers slots schema other type number is (gives null) typed = tt
of_numbers slots schema other EdmType.Null number is (gives v) typed = absurd typed
of_numbers slots schema other (EdmType.Single (ValueType.Prim PrimitiveType.Byte)) number is (gives (whole n)) typed = number_fits PrimitiveType.Byte n typed
of_numbers slots schema other (EdmType.Single (ValueType.Prim PrimitiveType.SByte)) number is (gives (whole n)) typed = number_fits PrimitiveType.SByte n typed
of_numbers slots schema other (EdmType.Single (ValueType.Prim PrimitiveType.Int16)) number is (gives (whole n)) typed = number_fits PrimitiveType.Int16 n typed
of_numbers slots schema other (EdmType.Single (ValueType.Prim PrimitiveType.Int32)) number is (gives (whole n)) typed = number_fits PrimitiveType.Int32 n typed
of_numbers slots schema other (EdmType.Single (ValueType.Prim PrimitiveType.Int64)) number is (gives (whole n)) typed = number_fits PrimitiveType.Int64 n typed
of_numbers slots schema other (EdmType.Single (ValueType.Prim PrimitiveType.Byte)) number is (gives v) typed = absurd typed
of_numbers slots schema other (EdmType.Single (ValueType.Prim PrimitiveType.SByte)) number is (gives v) typed = absurd typed
of_numbers slots schema other (EdmType.Single (ValueType.Prim PrimitiveType.Int16)) number is (gives v) typed = absurd typed
of_numbers slots schema other (EdmType.Single (ValueType.Prim PrimitiveType.Int32)) number is (gives v) typed = absurd typed
of_numbers slots schema other (EdmType.Single (ValueType.Prim PrimitiveType.Int64)) number is (gives v) typed = absurd typed
of_numbers slots schema other (EdmType.Single (ValueType.Prim p)) number is (gives v) typed = absurd is.0
of_numbers slots schema other (EdmType.Single (ValueType.Enum id)) number is (gives v) typed = absurd is
of_numbers slots schema other (EdmType.Single (ValueType.Structured id)) number is (gives v) typed = absurd is
of_numbers slots schema other (EdmType.Collection type) number is (gives v) typed = absurd is

-- ---- a node of two sides

-- what comes of the sides, one after another, in the node's type
pub record SidesMake (Left Right : Outcome → Type 0) (Node : ExprType → Type 0) (operator : ArithmeticOperator) (type : PrimitiveType) (o : Outcome) : Type 0 where
  pub first : Outcome
  pub second : Outcome
  pub left_has : Left first
  pub right_has : Right second
  pub made : MadeOf operator type first second o

module _ (Left Right : Outcome → Type 0) (Node : ExprType → Type 0) (operator : ArithmeticOperator) (type : PrimitiveType) (one : (t : ExprType) → Node t → t ≡ single (primitive type)) (o : Outcome) where
  right_make : (l : Val) → Left (gives l) → (s : Outcome) → Right s → Then s (λ r. InType Node (λ t. CalculationGives operator t l r)) o → SidesMake Left Right Node operator type o
  right_make l left (gives r) right given =
      record { first = gives l; second = gives r; left_has = left; right_has = right; made = subst (λ (t : ExprType). CalculationGives operator t l r o) (one given.0 given.1) given.2 }
  right_make l left overflow right given = record { first = gives l; second = overflow; left_has = left; right_has = right; made = given }
  right_make l left divides_by_zero right given = record { first = gives l; second = divides_by_zero; left_has = left; right_has = right; made = given }

  sides_make : (s : Outcome) × Right s → (p : Outcome) → Left p → Then p (λ l. After Right (λ r. InType Node (λ t. CalculationGives operator t l r))) o → SidesMake Left Right Node operator type o
  sides_make right (gives l) left given = right_make l left given.0 given.1.0 given.1.1
  sides_make right overflow left given = record { first = overflow; second = right.0; left_has = left; right_has = right.1; made = given }
  sides_make right divides_by_zero left given = record { first = divides_by_zero; second = right.0; left_has = left; right_has = right.1; made = given }

module _ (question : Question) (ranges : List Range) (are : AreRanges question ranges) (right_filter : IsFilter question.filter) (ends : EndsOnceOnEntities)
    (is_moment : IsMoment question.now.civil question.now.offset_minutes) (types : OneType) (place : ℕ) (within : place < length question.filter.list.nodes) (type : PrimitiveType)
    (computed : IsComputedIn question.filter place type) where
  -- what stands there has that type alone
  node_type : (world : World) (stop : ℕ) (tree : Tree) → Stands question.filter.schema question.filter.filtered (scope_of world.environment) question.filter.list place stop tree → (t : ExprType)
      → Typed (slots_of question.filter.schema) (type_name_at question.filter.schema question.filter.filtered) (scope_of world.environment) tree t → t ≡ single (primitive type)
  node_type world stop (node start end shape) stands t typed =
      let own = found_there (λ (n : CheckedNode). n.edm_type ≡ EdmType.Single (ValueType.Prim type)) (slice_get question.filter.list.nodes place) stands.top.found stands.top.stands_at computed.1 in
      types (slots_of question.filter.schema) (type_name_at question.filter.schema question.filter.filtered) (scope_of world.environment) (node start end shape) t (expr_type question.filter.schema stands.top.found.edm_type)
      typed stands.top.typed ∙ ap (expr_type question.filter.schema) own

  -- an operand that is a node, of a number type or null
  module _ (operand : Operand) (at : ℕ) (is : IsNodeOperand question.filter ranges operand at) (source : operand.source ≡ Source.Node at) (number : Option PrimitiveType)
      (numeric : IsNumberOrNull (expr_type question.filter.schema is.node.edm_type) number) (world : World) (seen : IsAskedOf question world) (o : Outcome) (has : OfPlace question.filter at world o) where
    operand_has : OperandHas question.filter operand world o
    operand_has = subst (λ (s : Source). SourceHas question.filter s world o) (sym source) has

    no_truth : NoTruth operand
    no_truth = λ same. number_kind question.filter.schema is.node.edm_type number numeric (sym is.kind ∙ same)

    operand_number : IsOfNumbers o
    operand_number = of_numbers (slots_of world.row.schema) question.filter.schema world.row.schema is.node.edm_type number numeric o (of_type question ends is_moment world seen at is.node is.at o has)

  module _ (operator : ArithmeticOperator) (second : ℕ) (here : HasKind question.filter.list place (NodeKind.Binary (BinaryOperator.Arithmetic operator))) (left right : Operand)
      (left_is : IsNodeOperand question.filter ranges left (place + 1)) (right_is : IsNodeOperand question.filter ranges right second) (is_second : left_is.node.stop ≡ second)
      (left_source : left.source ≡ Source.Node (place + 1)) (right_source : right.source ≡ Source.Node second) where
    -- the types of both
    pub record SidesNumeric : Type 0 where
      pub left_number : Option PrimitiveType
      pub right_number : Option PrimitiveType
      pub left_numeric : IsNumberOrNull (expr_type question.filter.schema left_is.node.edm_type) left_number
      pub right_numeric : IsNumberOrNull (expr_type question.filter.schema right_is.node.edm_type) right_number

    pub sides_numeric : SidesNumeric
    sides_numeric =
        let two = two_below question.filter types (BinaryOperator.Arithmetic operator) (λ equality. equality) place here right_filter in
        let left_same : two.left ≡ left_is.node = same_node question.filter (place + 1) two.left left_is.node two.left_at left_is.at in
        let stops : two.left.stop ≡ second = ap (λ (n : CheckedNode). n.stop) left_same ∙ is_second in
        let right_same : two.right ≡ right_is.node = same_node question.filter second two.right right_is.node (subst (λ (k : ℕ). slice_get question.filter.list.nodes k ≡ Some two.right) stops two.right_at) right_is.at in
        record {
          left_number = two.types.left_number;
          right_number = two.types.right_number;
          left_numeric = subst (λ (n : CheckedNode). IsNumberOrNull (expr_type question.filter.schema n.edm_type) two.types.left_number) left_same two.types.left_is;
          right_numeric = subst (λ (n : CheckedNode). IsNumberOrNull (expr_type question.filter.schema n.edm_type) two.types.right_number) right_same two.types.right_is;
        }

    pub calculated_node : (world : World) (o : Outcome) → IsAskedOf question world → OfPlace question.filter place world o → CalculatedHas question.filter operator place left right world o
    calculated_node world o seen has =
        let it = binary_comes question (BinaryOperator.Arithmetic operator) (λ equality. equality) place second here left_is.node left_is.at is_second world o seen has in
        let numeric = sides_numeric in
        let end = ends_there question ends is_moment world seen second right_is.node right_is.at it.right_stop it.b it.right_stands in
        let made = sides_make (MeansOf question world seen it.a) (MeansOf question world seen it.b)
        (Typed (slots_of question.filter.schema) (type_name_at question.filter.schema question.filter.filtered) (scope_of world.environment) (node it.from it.to (binary (BinaryOperator.Arithmetic operator) it.a it.b)))
        operator type (λ t typed. node_type world it.stop (node it.from it.to (binary (BinaryOperator.Arithmetic operator) it.a it.b)) it.stands t typed) o (end.outcome, means_of question world seen it.b end.outcome end.related) it.given.0 it.given.1.0 it.given.1.1 in
        let left_has : OfPlace question.filter (place + 1) world made.first = (it.a, record { stop = it.left_stop; stands = it.left_stands }, means_in question world seen it.a made.first made.left_has) in
        let right_has : OfPlace question.filter second world made.second = (it.b, record { stop = it.right_stop; stands = it.right_stands }, means_in question world seen it.b made.second made.right_has) in
        record {
          type = type;
          computed = computed;
          first = made.first;
          second = made.second;
          left_has = operand_has left (place + 1) left_is left_source numeric.left_number numeric.left_numeric world seen made.first left_has;
          right_has = operand_has right second right_is right_source numeric.right_number numeric.right_numeric world seen made.second right_has;
          left_plain = node_plain question ends is_moment world seen ranges are left (place + 1) left_is
              (no_truth left (place + 1) left_is left_source numeric.left_number numeric.left_numeric world seen made.first left_has) made.first left_has;
          right_plain = node_plain question ends is_moment world seen ranges are right second right_is
              (no_truth right second right_is right_source numeric.right_number numeric.right_numeric world seen made.second right_has) made.second right_has;
          left_within = are.within (place + 1) left.range world made.first left_is.range seen left_has;
          right_within = are.within second right.range world made.second right_is.range seen right_has;
          left_number = operand_number left (place + 1) left_is left_source numeric.left_number numeric.left_numeric world seen made.first left_has;
          right_number = operand_number right second right_is right_source numeric.right_number numeric.right_numeric world seen made.second right_has;
          made = made.made;
        }

  -- ---- `-`

  module _ (here : HasKind question.filter.list place NodeKind.Neg) (zero operand : Operand) (operand_is : IsNodeOperand question.filter ranges operand (place + 1))
      (operand_source : operand.source ≡ Source.Node (place + 1)) (zero_source : zero.source ≡ Source.Zero) (zero_low : zero.range.low ≡ pos 0) (zero_high : zero.range.high ≡ pos 0) where
    zero_number : FitsSigned w64 (pos 0)
    zero_number = omega (arith, ints)

    -- what the operand evaluates to, and what is made of it
    record Negated (world : World) (o : Outcome) : Type 0 where
      second : Outcome
      has : OfPlace question.filter (place + 1) world second
      number : Option PrimitiveType
      numeric : IsNumberOrNull (expr_type question.filter.schema operand_is.node.edm_type) number
      made : MadeOf ArithmeticOperator.Sub type (gives (whole (pos 0))) second o

    made_of : (world : World) (a : Tree) (stop from to : ℕ) → Stands question.filter.schema question.filter.filtered (scope_of world.environment) question.filter.list place stop (node from to (negation a)) → (o p : Outcome)
        → Then p (λ v. InType (Typed (slots_of question.filter.schema) (type_name_at question.filter.schema question.filter.filtered) (scope_of world.environment) (node from to (negation a))) (λ t. NegatedGives t v)) o
        → MadeOf ArithmeticOperator.Sub type (gives (whole (pos 0))) p o
    made_of world a stop from to stands o (gives v) given =
        minus_given (single (primitive type)) v o (subst (λ (t : ExprType). NegatedGives t v o) (node_type world stop (node from to (negation a)) stands given.0 given.1) given.2)
    made_of world a stop from to stands o _ given = given

    negated_there : (world : World) (seen : IsAskedOf question world) (o : Outcome) (a : Tree) (stop from to : ℕ)
        → Stands question.filter.schema question.filter.filtered (scope_of world.environment) question.filter.list place stop (node from to (negation a)) → MeansOf question world seen (node from to (negation a)) o
        → Negated world o
    negated_there world seen o a stop from to stands means =
        let filter = question.filter in
        let scope = scope_of world.environment in
        let below = one_there filter.schema filter.filtered scope filter.list (place + 1) stop a stands.children in
        let typed = stands.top.typed in
        let inner = top_node filter scope (place + 1) stop a below in
        let same : inner.found ≡ operand_is.node = same_node filter (place + 1) inner.found operand_is.node inner.at operand_is.at in
        let type_is : typed.operand ≡ expr_type filter.schema inner.found.edm_type = types (slots_of filter.schema) (type_name_at filter.schema filter.filtered) scope a typed.operand (expr_type filter.schema inner.found.edm_type) typed.operand_typed inner.typed in
        record {
          second = means.0;
          has = (a, record { stop = stop; stands = below }, means_in question world seen a means.0 means.1.0);
          number = typed.makes.number;
          numeric = subst (λ (n : CheckedNode). IsNumberOrNull (expr_type filter.schema n.edm_type) typed.makes.number) same (subst (λ (t : ExprType). IsNumberOrNull t typed.makes.number) type_is typed.makes.operand_is);
          made = made_of world a stop from to stands o means.0 means.1.1;
        }

    pub negated_node : (world : World) (o : Outcome) → IsAskedOf question world → OfPlace question.filter place world o → CalculatedHas question.filter ArithmeticOperator.Sub place zero operand world o
    negated_node world o seen has =
        let n = by_kind question.filter.schema question.filter.filtered (scope_of world.environment) question.filter.list place NodeKind.Neg here (λ stop tree. MeansOf question world seen tree o → Negated world o)
        (λ a stop from to stands means. negated_there world seen o a stop from to stands means) has.1.stop has.0 has.1.stands (means_of question world seen has.0 o has.2) in
        record {
          type = type;
          computed = computed;
          first = gives (whole (pos 0));
          second = n.second;
          left_has = subst (λ (s : Source). SourceHas question.filter s world (gives (whole (pos 0)))) (sym zero_source) refl;
          right_has = operand_has operand (place + 1) operand_is operand_source n.number n.numeric world seen n.second n.has;
          left_plain = λ none. (whole (pos 0), refl);
          right_plain = node_plain question ends is_moment world seen ranges are operand (place + 1) operand_is
              (no_truth operand (place + 1) operand_is operand_source n.number n.numeric world seen n.second n.has) n.second n.has;
          left_within = (omega (arith, ints, zero_low), omega (arith, ints, zero_high));
          right_within = are.within (place + 1) operand.range world n.second operand_is.range seen n.has;
          left_number = zero_number;
          right_number = operand_number operand (place + 1) operand_is operand_source n.number n.numeric world seen n.second n.has;
          made = n.made;
        }
