-- What the walk answers at a node with operands, from what it found of these.
use Rattle.std.proofs.Common.{◌≡◌, ap, inl, inr, refl, sym, ℕ, ℤ, ◌+◌, [], Bool, Option, Some, Result, Ok, slice_get, subst}
use Rattle.std.specs.Prelude.{IsSomeAnd}
use Rattle.odata_checked_filter.specs.Calls.{TakesMemory}
use Rattle.edm_values.specs.Val.{Val}
use Rattle.odata_syntax.specs.Tree.{Tree, node, negation, binary}
use Rattle.odata_syntax.specs.declared.binary_operator.BinaryOperator.{BinaryOperator}
use Rattle.csdl_schema.specs.ExprType.{ExprType}
use Rattle.csdl_schema.specs.SchemaModel.{SchemaModel, slots_of, type_name_at}
use Rattle.edm_entities.specs.Row.{value_of}
use Rattle.edm_entities.specs.HasType.{HasType}
use Rattle.odata_functions.specs.Connectives.{not3}
use Rattle.odata_syntax.specs.declared.binary_operator.ArithmeticOperator.{ArithmeticOperator}
use Rattle.odata_checked_filter.specs.declared.checked_node.CheckedNode.{CheckedNode}
use Rattle.odata_checked_filter.specs.declared.checked_node.NodeKind.{NodeKind}
use Rattle.odata_syntax.specs.declared.binary_operator.LogicalOperator.{LogicalOperator}
use Rattle.odata_signatures.specs.Laws.{OneType}
use Rattle.odata_signatures.specs.TypeView.{expr_type}
use Rattle.odata_signatures.specs.ExprTypes.{boolean_type}
use Rattle.odata_signatures.specs.OperatorTyped.{IsEquality, OperatorByTypes}
use Rattle.odata_signatures.specs.Reads.{OfEquality, ReadsNone, ReadsNumber}
use Rattle.odata_signatures.specs.Sides.{quoted_text, side_of}
use Rattle.odata_filter_operations.specs.declared.eval_fault.EvalFault.{EvalFault}
use Rattle.odata_filter_operations.specs.CalculationGives.{CalculationGives, NegatedGives, number_val}
use Rattle.odata_filter_operations.specs.CompareGives.{CompareGives}
use Rattle.odata_meaning.specs.Environment.{scope_of}
use Rattle.odata_filter_operations.specs.LeftFirst.{After}
use Rattle.odata_meaning.specs.OperatorGives.{OperatorGives, InType}
use Rattle.odata_filter_operations.specs.Outcome.{Outcome, gives}
use Rattle.odata_filter_operations.specs.TruthGives.{LogicalGives, JoinGives, joined, truth_val}
use Rattle.odata_filter_operations.specs.FaultView.{fault_outcome}
use Rattle.odata_filter_operations.specs.DatumView.{answer_outcome}
use Rattle.odata_filter_operations.specs.Operators.{AreNumbers, IsOneNumber}
use Rattle.filter_context.specs.private.Place.{HasKind, IsRightOf, PartStands}
use Rattle.filter_context.specs.private.EvalContext.{EndsOnceHere, MeansHere, StandsHere, TypedHere}
use Rattle.filter_context.specs.private.ContextModel.{ContextModel, environment_of}
use Rattle.odata_filter_operations.specs.Reports.{Reports}
use Rattle.odata_eval.specs.private.WalkAnswer.{AnswersNumber, AnswersTruth}
use Rattle.filter_context.specs.private.AnswersAtPlace.{AnswersAtPlace}
use Rattle.odata_meaning.specs.private.Decided.{IsDecided}
use Rattle.odata_meaning.specs.private.LawsBelow.{Promotes}
use Rattle.odata_meaning.proofs.meaning.Numbers.{calculated_values, negated_value}
use Rattle.odata_meaning.specs.ReadGives.{GivesMember, OperandGives}
use Rattle.odata_meaning.proofs.meaning.UnreadAlone.{operands_alone}
use Rattle.odata_meaning.proofs.meaning.Reads.{equality_typed, number_comparable, read_has}
use Rattle.odata_meaning.proofs.meaning.Progress.{decided_gives, join_gives, not_gives, undecided_goes}
use Rattle.filter_context.proofs.Children.{only_child}
use Rattle.filter_context.proofs.Operands.{ResolvedHere, HasNone, equality_boolean, no_number, not_both, number_is}
use Rattle.filter_context.proofs.Parts.{by_kind, goes_there, some_reports, reports_there, type_there}
use Rattle.filter_context.proofs.Extents.{right_stands}
use Rattle.filter_context.proofs.Spines.{child_takes, fault_stays, second_child, types_alone}
use Rattle.odata_eval.proofs.walking.Readings.{numbers_anywhere, one_number_anywhere}
use Rattle.odata_eval.proofs.walking.WalkValues.{value_has}

-- ---- faults of the right side

undecided_faults : (logical : LogicalOperator) (left : Option Bool) (Takes : Type 0) (Right : Outcome → Type 0) (fault : EvalFault) → ¬ (IsDecided logical (truth_val left))
    → Reports Takes Right (fault_outcome fault) → Reports Takes (LogicalGives logical (truth_val left) Right) (fault_outcome fault)
undecided_faults logical left Takes Right fault undecided is =
    reports_there (fault_outcome fault) Takes Takes (After Right (JoinGives logical left)) (LogicalGives logical (truth_val left) Right) (λ takes. takes)
    (λ o goes. undecided_goes logical left Right o undecided goes) (fault_stays fault Takes Takes Right (JoinGives logical left) (λ takes. takes) is)

-- the operator takes the values of both sides
abbrev pub TakesBoth : BinaryOperator → Type 0
TakesBoth (BinaryOperator.Logical logical) = ⊥
TakesBoth _ = Unit {0}

both_fault : (operator : BinaryOperator) (NodeTyped : ExprType → Type 0) (l : Val) (Takes : Type 0) (Right : Outcome → Type 0) (fault : EvalFault)
    → TakesBoth operator → Reports Takes Right (fault_outcome fault) → Reports Takes (OperatorGives operator NodeTyped l Right) (fault_outcome fault)
both_fault (BinaryOperator.Logical logical) NodeTyped l Takes Right fault both is = absurd both
both_fault (BinaryOperator.Comparison comparison) NodeTyped l Takes Right fault both is = fault_stays fault Takes Takes Right (CompareGives comparison l) (λ takes. takes) is
both_fault (BinaryOperator.Arithmetic arithmetic) NodeTyped l Takes Right fault both is =
    fault_stays fault Takes Takes Right (λ r. InType NodeTyped (λ type. CalculationGives arithmetic type l r)) (λ takes. takes) is

module _ (context : ContextModel) (place : ℕ) where
  -- ---- `not`, and `-`

  pub not_answers : (truth : Option Bool) → HasKind context.list place NodeKind.Not → AnswersTruth context (place + 1) (Ok truth) → AnswersTruth context place (Ok (not3 truth))
  not_answers truth here first = record {
    of_tree = λ stop tree type stands typed.
        by_kind context place NodeKind.Not here (λ stop tree. TypedHere context tree type → MeansHere context tree (gives (truth_val (not3 truth))))
        (λ operand stop from to stands typed. (gives (truth_val truth), (first.of_tree stop operand typed.operand (only_child context (place + 1) stop operand stands.children) typed.operand_typed, not_gives truth)))
        stop tree stands typed;
    of_number = λ number stop tree type there. absurd (no_number context place NodeKind.Not tt here number stop tree there);
  }

  -- the one type of the tree is that which the node says
  type_is : OneType → (found : CheckedNode) → slice_get context.list.nodes place ≡ Some found → (stop : ℕ) (tree : Tree) (type : ExprType) → StandsHere context place stop tree → TypedHere context tree type
      → expr_type context.row.schema found.edm_type ≡ type
  type_is types found at stop tree type stands typed =
      types (slots_of context.row.schema) (type_name_at context.row.schema context.row.type_id) (scope_of (environment_of context)) tree (expr_type context.row.schema found.edm_type) type
      (type_there context place found at stop tree stands) typed

  module _ (number : Option ℤ) (found : CheckedNode) (at : slice_get context.list.nodes place ≡ Some found) (here : HasKind context.list place NodeKind.Neg)
      (first : AnswersNumber context (place + 1) (Ok number)) where
    -- a number or null before which `-` stands
    pub negated_operand : EndsOnceHere context → Promotes → PartStands context place
        → (other : SchemaModel) → IsOneNumber (expr_type other found.edm_type) (number_val number)
    negated_operand ends promotes part other =
        let type = expr_type context.row.schema found.edm_type in
        by_kind context place NodeKind.Neg here (λ stop tree. TypedHere context tree type → IsOneNumber (expr_type other found.edm_type) (number_val number))
        (λ operand stop from to stands typed.
        let has = value_has context ends operand typed.operand (number_val number) typed.operand_typed (first.of_tree stop operand typed.operand (only_child context (place + 1) stop operand stands.children) typed.operand_typed) in
        one_number_anywhere context.row.schema other found.edm_type (number_val number)
        (negated_value promotes (slots_of context.row.schema) typed.operand type (number_val number) typed.makes has))
        part.stop part.tree part.stands (type_there context place found at part.stop part.tree part.stands)

    pub negation_answers : (answer : Result (Option ℤ) EvalFault) → OneType
        → ((schema : SchemaModel) → IsSomeAnd (answer_outcome number_val answer) (NegatedGives (expr_type schema found.edm_type) (number_val number)))
        → AnswersNumber context place answer
    negation_answers answer types given = record {
      of_tree = λ stop tree type stands typed.
          let is = type_is types found at stop tree type stands typed in
          by_kind context place NodeKind.Neg here (λ stop tree. TypedHere context tree type → Reports (TakesMemory tree) (MeansHere context tree) (answer_outcome number_val answer))
          (λ operand stop from to stands typed.
          let whole = node from to (negation operand) in
          some_reports (answer_outcome number_val answer) (TakesMemory whole) (MeansHere context whole)
          (goes_there (answer_outcome number_val answer) (NegatedGives (expr_type context.row.schema found.edm_type) (number_val number)) (MeansHere context whole)
          (λ o gives_it. (
            gives (number_val number),
            (
              first.of_tree stop operand typed.operand (only_child context (place + 1) stop operand stands.children) typed.operand_typed,
              (type, typed, subst (λ (s : ExprType). NegatedGives s (number_val number) o) is gives_it),
            ),
          ))
          (given context.row.schema)))
          stop tree stands typed;
      of_number = λ number stop tree type there. absurd (no_number context place NodeKind.Neg tt here number stop tree there);
    }

  -- ---- operators with two operands

  module _ (operator : BinaryOperator) (here : HasKind context.list place (NodeKind.Binary operator)) where
    no_number_here : HasNone context place
    no_number_here = no_number context place (NodeKind.Binary operator) tt here

    -- an operator that is no equality reads nothing
    by_itself : ¬ IsEquality operator → (Operand : ExprType → Type 0) (tree : Tree) (i j : ℕ) → ResolvedHere context (OfEquality operator Operand) tree i j
        → ReadsNone (slots_of context.row.schema) (OfEquality operator Operand) tree × StandsHere context i j tree
    by_itself other Operand tree i j (inl read) = absurd (other read.1.beside.0)
    by_itself other Operand tree i j (inr alone) = alone

    -- after its left side's value goes what it says of that and of the right side
    of_left : ¬ IsEquality operator → (l : ExprType → Val) (reported : ExprType → Option Outcome)
        → AnswersAtPlace context (place + 1) (λ type. Some (gives (l type)))
        → ((stop from to : ℕ) (a b : Tree) (type : ExprType) → StandsHere context place stop (node from to (binary operator a b))
        → (typed : TypedHere context (node from to (binary operator a b)) type)
        → Reports (TakesMemory (node from to (binary operator a b))) (OperatorGives operator (TypedHere context (node from to (binary operator a b))) (l typed.left) (MeansHere context b)) (reported type))
        → AnswersAtPlace context place reported
    of_left other l reported first goes = record {
      of_tree = λ stop tree type stands typed.
          by_kind context place (NodeKind.Binary operator) here (λ stop tree. TypedHere context tree type → Reports (TakesMemory tree) (MeansHere context tree) (reported type))
          (λ a b stop from to stands typed.
          let whole = node from to (binary operator a b) in
          let m = stands.children.middle in
          let alone = by_itself other (TypedHere context b) a (place + 1) m stands.children.left in
          let apart = by_itself other (TypedHere context a) b m stands.children.right.middle stands.children.right.left in
          reports_there (reported type) (TakesMemory whole) (TakesMemory whole) (OperatorGives operator (TypedHere context whole) (l typed.left) (MeansHere context b)) (MeansHere context whole) (λ takes. takes)
          (λ o given. (operands_alone (slots_of context.row.schema) (type_name_at context.row.schema context.row.type_id) context.moment (value_of context.row) (environment_of context) from to operator a b o
          apart.0 alone.0).1 (gives (l typed.left), (first.of_tree m a typed.left alone.1 typed.left_typed, given)))
          (goes stop from to a b type stands typed))
          stop tree stands typed;
      of_number = λ number stop tree type there. absurd (no_number_here number stop tree there);
    }

    module _ (right_place : ℕ) (is_right : IsRightOf context.list place right_place) where
      -- and after both answers what the operator says of them; where one side is read, of its number
      module _ (l : ExprType → Val) (beside reported : ExprType → Option Outcome) (first : AnswersAtPlace context (place + 1) (λ type. Some (gives (l type)))) (second : AnswersAtPlace context right_place beside)
          (goes : (stop : ℕ) (whole : Tree) (s t type : ExprType) (Right : Outcome → Type 0) → StandsHere context place stop whole → TypedHere context whole type
          → Reports (TakesMemory whole) Right (beside t) → Reports (TakesMemory whole) (OperatorGives operator (TypedHere context whole) (l s) Right) (reported type)) where
        -- the left side, by its number or by its tree
        left_there : (a b : Tree) (m : ℕ) (s : ExprType) → TypedHere context a s → ResolvedHere context (OfEquality operator (TypedHere context b)) a (place + 1) m
            → OperandGives (ReadsNumber (slots_of context.row.schema) (OfEquality operator (TypedHere context b)) a) (MeansHere context a) (gives (l s))
        left_there a b m s typed (inl read) = inl (read.0, read.1, ap gives (number_is context (place + 1) m a read.0 l read.2 first s))
        left_there a b m s typed (inr alone) = inr (alone.0, first.of_tree m a s alone.1 typed)

        -- and the right one
        right_reports : (whole a b : Tree) (stop : ℕ) (t : ExprType) → (TakesMemory b → TakesMemory whole) → TypedHere context b t → ResolvedHere context (OfEquality operator (TypedHere context a)) b right_place stop
            → Reports (TakesMemory whole) (OperandGives (ReadsNumber (slots_of context.row.schema) (OfEquality operator (TypedHere context a)) b) (MeansHere context b)) (beside t)
        right_reports whole a b stop t takes typed (inl read) =
            reports_there (beside t) (TakesMemory whole) (TakesMemory whole) (GivesMember read.0)
            (OperandGives (ReadsNumber (slots_of context.row.schema) (OfEquality operator (TypedHere context a)) b) (MeansHere context b)) (λ takes. takes) (λ o is. inl (read.0, read.1, is))
            (subst (Reports (TakesMemory whole) (GivesMember read.0)) (sym (second.of_number read.0 stop b t read.2)) refl)
        right_reports whole a b stop t takes typed (inr alone) =
            reports_there (beside t) (TakesMemory b) (TakesMemory whole) (MeansHere context b)
            (OperandGives (ReadsNumber (slots_of context.row.schema) (OfEquality operator (TypedHere context a)) b) (MeansHere context b)) takes (λ o is. inr (alone.0, is))
            (second.of_tree stop b t alone.1 typed)

        sides_report : (stop from to : ℕ) (a b : Tree) (type : ExprType) → StandsHere context place stop (node from to (binary operator a b)) → TypedHere context (node from to (binary operator a b)) type
            → (m : ℕ) → ResolvedHere context (OfEquality operator (TypedHere context b)) a (place + 1) m → ResolvedHere context (OfEquality operator (TypedHere context a)) b right_place stop
            → Reports (TakesMemory (node from to (binary operator a b))) (MeansHere context (node from to (binary operator a b))) (reported type)
        sides_report stop from to a b type stands typed m of_a of_b =
            let whole = node from to (binary operator a b) in
            let Right : Outcome → Type 0 = OperandGives (ReadsNumber (slots_of context.row.schema) (OfEquality operator (TypedHere context a)) b) (MeansHere context b) in
            reports_there (reported type) (TakesMemory whole) (TakesMemory whole) (OperatorGives operator (TypedHere context whole) (l typed.left) Right) (MeansHere context whole) (λ takes. takes)
            (λ o given. (gives (l typed.left), (left_there a b m typed.left typed.left_typed of_a, given)))
            (goes stop whole typed.left typed.right type Right stands typed
            (right_reports whole a b stop typed.right (child_takes whole b (second_child a b [])) typed.right_typed of_b))

        pub of_sides : AnswersAtPlace context place reported
        of_sides = record {
          of_tree = λ stop tree type stands typed.
              by_kind context place (NodeKind.Binary operator) here (λ stop tree. TypedHere context tree type → Reports (TakesMemory tree) (MeansHere context tree) (reported type))
              (λ a b stop from to stands typed.
              sides_report stop from to a b type stands typed stands.children.middle stands.children.left (right_stands context place right_place stop from to operator a b is_right stands))
              stop tree stands typed;
          of_number = λ number stop tree type there. absurd (no_number_here number stop tree there);
        }

      -- an operator that takes both: the right side's fault, and what comes of both values, each by the type of its side
      pub both_faults : (l : ExprType → Val) (fault : EvalFault) → TakesBoth operator
          → AnswersAtPlace context (place + 1) (λ type. Some (gives (l type))) → AnswersAtPlace context right_place (λ type. fault_outcome fault)
          → AnswersAtPlace context place (λ type. fault_outcome fault)
      both_faults l fault both first second =
          of_sides l (λ type. fault_outcome fault) (λ type. fault_outcome fault) first second
          (λ stop whole s t type Right stands typed is. both_fault operator (TypedHere context whole) (l s) (TakesMemory whole) Right fault both is)

      -- the operator makes a type of those of its sides, and the values have these; a number is of the type beside it
      module _ (l r : ExprType → Val) (first : AnswersAtPlace context (place + 1) (λ type. Some (gives (l type)))) (second : AnswersAtPlace context right_place (λ type. Some (gives (r type))))
          (ends : EndsOnceHere context) where
        abbrev pub AreSides : ExprType → Type 0
        AreSides type = (left right : ExprType) × (OperatorByTypes operator left right type
            × HasType (slots_of context.row.schema) left (l left) × HasType (slots_of context.row.schema) right (r right))

        sides_by : (stop from to : ℕ) (a b : Tree) (type : ExprType) → TypedHere context (node from to (binary operator a b)) type
            → (m : ℕ) → ResolvedHere context (OfEquality operator (TypedHere context b)) a (place + 1) m → ResolvedHere context (OfEquality operator (TypedHere context a)) b right_place stop → AreSides type
        sides_by stop from to a b type typed m (inl read) (inl other) = absurd (not_both context operator a b read.0 other.0 read.1 other.1)
        sides_by stop from to a b type typed m (inl read) (inr other) =
            let slots = slots_of context.row.schema in
            let s = read.1.type_of in
            let number = read.1.number in
            let truth : type ≡ boolean_type = equality_boolean slots operator (side_of a typed.left) (side_of b typed.right) type read.1.beside.0 typed.makes in (
              s,
              s,
              (
                equality_typed operator s s type read.1.beside.0 (number_comparable slots s (quoted_text a) read.0 number) truth,
                subst (λ (v : Val). HasType slots s v) (sym (number_is context (place + 1) m a read.0 l read.2 first s)) (read_has slots s (quoted_text a) read.0 number),
                value_has context ends b s (r s) read.1.beside.1 (second.of_tree stop b s other.1 read.1.beside.1),
              ),
            )
        sides_by stop from to a b type typed m (inr alone) (inl read) =
            let slots = slots_of context.row.schema in
            let s = read.1.type_of in
            let number = read.1.number in
            let truth : type ≡ boolean_type = equality_boolean slots operator (side_of a typed.left) (side_of b typed.right) type read.1.beside.0 typed.makes in (
              s,
              s,
              (
                equality_typed operator s s type read.1.beside.0 (number_comparable slots s (quoted_text b) read.0 number) truth,
                value_has context ends a s (l s) read.1.beside.1 (first.of_tree m a s alone.1 read.1.beside.1),
                subst (λ (v : Val). HasType slots s v) (sym (number_is context right_place stop b read.0 r read.2 second s)) (read_has slots s (quoted_text b) read.0 number),
              ),
            )
        sides_by stop from to a b type typed m (inr alone) (inr other) = (
          typed.left,
          typed.right,
          (
            types_alone context from to operator a b other.0 alone.0 type typed,
            value_has context ends a typed.left (l typed.left) typed.left_typed (first.of_tree m a typed.left alone.1 typed.left_typed),
            value_has context ends b typed.right (r typed.right) typed.right_typed (second.of_tree stop b typed.right other.1 typed.right_typed),
          ),
        )

        pub sides_there : (found : CheckedNode) → slice_get context.list.nodes place ≡ Some found → PartStands context place → AreSides (expr_type context.row.schema found.edm_type)
        sides_there found at part =
            let type = expr_type context.row.schema found.edm_type in
            by_kind context place (NodeKind.Binary operator) here (λ stop tree. TypedHere context tree type → AreSides type)
            (λ a b stop from to stands typed.
            sides_by stop from to a b type typed stands.children.middle stands.children.left (right_stands context place right_place stop from to operator a b is_right stands))
            part.stop part.tree part.stands (type_there context place found at part.stop part.tree part.stands)

  -- a logical operator, whose left side may decide
  module _ (logical : LogicalOperator) (here : HasKind context.list place (NodeKind.Binary (BinaryOperator.Logical logical))) (left : Option Bool) where
    pub decided_answers : IsDecided logical (truth_val left) → AnswersTruth context (place + 1) (Ok left) → AnswersTruth context place (Ok left)
    decided_answers decided first =
        of_left (BinaryOperator.Logical logical) here (λ equality. equality) (λ type. truth_val left) (λ type. Some (gives (truth_val left))) first
        (λ stop from to a b type stands typed. decided_gives logical left (MeansHere context b) decided)

    module _ (right_place : ℕ) (is_right : IsRightOf context.list place right_place) (undecided : ¬ (IsDecided logical (truth_val left)))
        (first : AnswersTruth context (place + 1) (Ok left)) where
      pub joined_answers : (right : Option Bool) → AnswersTruth context right_place (Ok right) → AnswersTruth context place (Ok (joined logical left right))
      joined_answers right second =
          of_sides (BinaryOperator.Logical logical) here right_place is_right (λ type. truth_val left) (λ type. Some (gives (truth_val right)))
          (λ type. Some (gives (truth_val (joined logical left right)))) first second
          (λ stop whole s t type Right stands typed given.
          undecided_goes logical left Right (gives (truth_val (joined logical left right))) undecided (gives (truth_val right), (given, join_gives logical left right)))

      pub joined_faults : (fault : EvalFault) → AnswersAtPlace context right_place (λ type. fault_outcome fault) → AnswersAtPlace context place (λ type. fault_outcome fault)
      joined_faults fault second =
          of_sides (BinaryOperator.Logical logical) here right_place is_right (λ type. truth_val left) (λ type. fault_outcome fault) (λ type. fault_outcome fault) first second
          (λ stop whole s t type Right stands typed is. undecided_faults logical left (TakesMemory whole) Right fault undecided is)

  -- an arithmetic operator
  module _ (arithmetic : ArithmeticOperator) (here : HasKind context.list place (NodeKind.Binary (BinaryOperator.Arithmetic arithmetic)))
      (right_place : ℕ) (is_right : IsRightOf context.list place right_place)
      (left right : Option ℤ) (first : AnswersNumber context (place + 1) (Ok left)) (second : AnswersNumber context right_place (Ok right))
      (found : CheckedNode) (at : slice_get context.list.nodes place ≡ Some found) where
    pub numbers_there : EndsOnceHere context → Promotes → PartStands context place
        → (other : SchemaModel) → AreNumbers (expr_type other found.edm_type) (number_val left) (number_val right)
    numbers_there ends promotes part other =
        let there = sides_there (BinaryOperator.Arithmetic arithmetic) here right_place is_right (λ type. number_val left) (λ type. number_val right) first second ends found at part in
        numbers_anywhere context.row.schema other found.edm_type (number_val left) (number_val right)
        (calculated_values promotes (slots_of context.row.schema) there.0 there.1 (expr_type context.row.schema found.edm_type) (number_val left) (number_val right)
        there.2.0 there.2.1 there.2.2)

    pub calculation_answers : (answer : Result (Option ℤ) EvalFault) → OneType
        → ((schema : SchemaModel) → IsSomeAnd (answer_outcome number_val answer) (CalculationGives arithmetic (expr_type schema found.edm_type) (number_val left) (number_val right)))
        → AnswersNumber context place answer
    calculation_answers answer types given =
        of_sides (BinaryOperator.Arithmetic arithmetic) here right_place is_right (λ type. number_val left) (λ type. Some (gives (number_val right)))
        (λ type. answer_outcome number_val answer) first second
        (λ stop whole s t type Right stands typed is.
        some_reports (answer_outcome number_val answer) (TakesMemory whole) (OperatorGives (BinaryOperator.Arithmetic arithmetic) (TypedHere context whole) (number_val left) Right)
        (goes_there (answer_outcome number_val answer) (CalculationGives arithmetic (expr_type context.row.schema found.edm_type) (number_val left) (number_val right))
        (OperatorGives (BinaryOperator.Arithmetic arithmetic) (TypedHere context whole) (number_val left) Right)
        (λ o gives_it. (
          gives (number_val right),
          (
            is,
            (
              type,
              typed,
              subst (λ (u : ExprType). CalculationGives arithmetic u (number_val left) (number_val right) o) (type_is types found at stop whole type stands typed) gives_it,
            ),
          ),
        ))
        (given context.row.schema)))
