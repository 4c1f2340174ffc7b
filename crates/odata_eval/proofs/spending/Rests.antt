-- What the rest of a node takes from a budget, once its first operand has been answered.
use Rattle.std.proofs.Common.{◌≡◌, ◌+◌, ◌∙◌, ℕ, Bool, true, false, Option, Some, None, Ok, refl, sym, subst, inl, inr, arith}
use Rattle.edm_values.specs.declared.datum.Datum.{Datum}
use Rattle.csdl_schema.specs.ExprType.{ExprType}
use Rattle.csdl_schema.specs.SchemaModel.{slots_of}
use Rattle.odata_checked_filter.specs.declared.checked_node.NodeKind.{NodeKind}
use Rattle.odata_functions.specs.DatumVal.{datum_val}
use Rattle.odata_filter_operations.specs.DatumView.{reading_at}
use Rattle.odata_filter_operations.specs.Outcome.{Outcome, gives}
use Rattle.odata_filter_operations.specs.TruthGives.{truth_val}
use Rattle.odata_syntax.specs.declared.binary_operator.LogicalOperator.{LogicalOperator}
use Rattle.odata_syntax.specs.declared.binary_operator.BinaryOperator.{BinaryOperator}
use Rattle.odata_syntax.specs.Tree.{Tree, binary, node}
use Rattle.odata_meaning.specs.Costs.{CostAfter, CostThen, CostsExactly, RightCosts}
use Rattle.odata_eval.specs.declared.budget.Budget.{Budget}
use Rattle.odata_eval.specs.declared.stop.EvalStop.{EvalStop}
use Rattle.filter_context.specs.private.Place.{HasKind, IsRightOf}
use Rattle.filter_context.specs.private.EvalContext.{EndsOnceHere, MeansHere, OperandHere, StandsHere, TypedHere}
use Rattle.filter_context.specs.private.ContextModel.{ContextModel}
use Rattle.odata_eval.specs.private.Spending.{CostsHere, SpendsAt, SpendsRest, Spent}
use Rattle.odata_eval.specs.private.WalkAnswer.{AnswersDatum, AnswersTruth}
use Rattle.odata_meaning.specs.private.Decided.{IsDecided}
use Rattle.odata_meaning.proofs.costs.Zero.{then_free}
use Rattle.odata_eval.proofs.spending.Budgets.{spent_same, takes_nothing}
use Rattle.odata_eval.proofs.spending.Free.{FreeThere}
use Rattle.odata_eval.proofs.spending.Splits.{SplitWith, follows, no_more, operand_spent, rest_spends}
use Rattle.filter_context.proofs.Children.{only_child}
use Rattle.filter_context.proofs.Parts.{by_kind}
use Rattle.filter_context.proofs.Extents.{left_here, operand_stops_there, right_beside, stops_there}
use Rattle.odata_signatures.specs.Reads.{OfEquality}
use Rattle.filter_context.proofs.Operands.{IsOther, ResolvedHere, no_number, resolved_here}

-- ---- a tree that costs nothing

pub free_spends : (context : ContextModel) (place : ℕ) (stop : Option EvalStop) (budget : Budget) → FreeThere context place → Spent stop budget budget 0 → SpendsAt context place budget budget stop
free_spends context place stop budget free spent = record {
  of_tree = λ last tree n stands costs. spent_same stop budget budget 0 n (free last tree stands n costs) spent;
  of_number = λ number last tree there. spent;
}

-- ---- nodes whose other operands cost nothing

abbrev pub HasNoRest : NodeKind → Type 0
HasNoRest (NodeKind.Member slot) = Unit {0}
HasNoRest NodeKind.Count = Unit {0}
HasNoRest NodeKind.AnyItem = Unit {0}
HasNoRest NodeKind.Not = Unit {0}
HasNoRest NodeKind.Neg = Unit {0}
HasNoRest _ = ⊥

module _ (context : ContextModel) where
  abbrev NoRest : ℕ → ℕ → Tree → Type 0
  NoRest place stop tree = (n : ℕ) → CostsHere context tree n → SplitWith context place n (λ rest. rest ≡ 0)

  no_rest_one : (place stop : ℕ) (operand : Tree) → OperandHere context (place + 1) stop operand → (n : ℕ) → CostsHere context operand n → SplitWith context place n (λ rest. rest ≡ 0)
  no_rest_one place stop operand stands n costs =
      record { stop = stop; operand = operand; stands = stands; own = n; costs = costs; rest = 0; sum = no_more n; holds = refl }

  no_rest : (place : ℕ) (kind : NodeKind) → HasNoRest kind → HasKind context.list place kind → (stop : ℕ) (tree : Tree) → StandsHere context place stop tree → NoRest place stop tree
  no_rest place (NodeKind.Member slot) none here = by_kind context place (NodeKind.Member slot) here (NoRest place)
      (λ base asked stop from to stands. no_rest_one place stop base (inl (only_child context (place + 1) stop base stands.children)))
  no_rest place NodeKind.Count none here = by_kind context place NodeKind.Count here (NoRest place)
      (λ base stop from to stands. no_rest_one place stop base (inl (only_child context (place + 1) stop base stands.children)))
  no_rest place NodeKind.AnyItem none here = by_kind context place NodeKind.AnyItem here (NoRest place)
      (λ base stop from to stands. no_rest_one place stop base (inl (only_child context (place + 1) stop base stands.children)))
  no_rest place NodeKind.Not none here = by_kind context place NodeKind.Not here (NoRest place)
      (λ operand stop from to stands. no_rest_one place stop operand (inl (only_child context (place + 1) stop operand stands.children)))
  no_rest place NodeKind.Neg none here = by_kind context place NodeKind.Neg here (NoRest place)
      (λ operand stop from to stands. no_rest_one place stop operand (inl (only_child context (place + 1) stop operand stands.children)))
  no_rest place _ none here = absurd none

  other_kind : (kind : NodeKind) → HasNoRest kind → IsOther kind
  other_kind (NodeKind.Literal kind value) none = none
  other_kind _ none = tt

  pub nothing_more : (place : ℕ) (kind : NodeKind) → HasNoRest kind → HasKind context.list place kind → (budget : Budget) (stop : Option EvalStop) → Spent stop budget budget 0
      → SpendsRest context place budget None budget stop
  nothing_more place kind none here budget stop spent =
      rest_spends context place budget budget stop (no_number context place kind (other_kind kind none) here)
      (λ last tree n stands costs.
      let it = no_rest place kind none here last tree stands n costs in
      record {
        stop = it.stop;
        operand = it.operand;
        stands = it.stands;
        own = it.own;
        costs = it.costs;
        rest = it.rest;
        sum = it.sum;
        holds = spent_same stop budget budget 0 it.rest it.holds spent;
      })

  -- ---- `has`

  -- its right side, whatever comes of that
  pub flags_spend : (place : ℕ) → HasKind context.list place NodeKind.Has → EndsOnceHere context → (left : Datum) → AnswersDatum context (place + 1) (Ok left) → (right_place : ℕ)
      → IsRightOf context.list place right_place → (old new : Budget) (stop : Option EvalStop) → SpendsAt context right_place old new stop → SpendsRest context place old None new stop
  flags_spend place here ends left first right_place is_right old new stop second =
      rest_spends context place old new stop (no_number context place NodeKind.Has tt here)
      (λ whole_last whole whole_cost whole_stands whole_costs.
      by_kind context place NodeKind.Has here (λ last tree. (n : ℕ) → CostsHere context tree n → SplitWith context place n (λ rest. Spent stop old new rest))
      (λ side right last from to stands n costs.
      let typed = stands.top.typed in
      let m = stands.children.middle in
      let l = datum_val (reading_at (slots_of context.row.schema) typed.left) left in
      let means = first.of_tree m side typed.left stands.children.left typed.left_typed in
      let once = ends side typed.left typed.left_typed in
      let due : CostsHere context right costs.rest =
      follows costs.outcome (gives l) (λ v. CostsHere context right) costs.rest (once.only costs.outcome costs.is ∙ sym (once.only (gives l) means)) costs.follows in
      record {
        stop = m;
        operand = side;
        stands = inl stands.children.left;
        own = costs.own;
        costs = costs.costs;
        rest = costs.rest;
        sum = costs.sum;
        holds = operand_spent context right_place old new stop second last right costs.rest
            (resolved_here context (TypedHere context side) right right_place last
            (right_beside context (TypedHere context side) right_place m last right (stops_there context (place + 1) m right_place side stands.children.left is_right) stands.children.right))
            due;
      })
      whole_last whole whole_stands whole_cost whole_costs)

-- a left side that decides asks for nothing more, another one for the right side
decided_costs : (logical : LogicalOperator) (left : Option Bool) (Right : ℕ → Type 0) (n : ℕ) → IsDecided logical (truth_val left) → RightCosts (BinaryOperator.Logical logical) (truth_val left) Right n → n ≡ 0
decided_costs LogicalOperator.And (Some false) Right n decided costs = costs
decided_costs LogicalOperator.Or (Some true) Right n decided costs = costs
decided_costs _ _ Right n decided costs = absurd decided

undecided_costs : (logical : LogicalOperator) (left : Option Bool) (Right : ℕ → Type 0) (n : ℕ) → ¬ (IsDecided logical (truth_val left)) → RightCosts (BinaryOperator.Logical logical) (truth_val left) Right n → Right n
undecided_costs LogicalOperator.And (Some false) Right n undecided costs = absurd (undecided tt)
undecided_costs LogicalOperator.Or (Some true) Right n undecided costs = absurd (undecided tt)
undecided_costs _ _ Right n undecided costs = costs

module _ (context : ContextModel) (place : ℕ) (logical : LogicalOperator) (here : HasKind context.list place (NodeKind.Binary (BinaryOperator.Logical logical))) (ends : EndsOnceHere context)
    (left : Option Bool) (first : AnswersTruth context (place + 1) (Ok left)) where
  abbrev Operator : BinaryOperator
  Operator = BinaryOperator.Logical logical

  -- what the right side costs: a logical operator takes no texts
  abbrev AfterTruth : Tree → ℕ → Type 0
  AfterTruth right = CostAfter (MeansHere context right) (CostsHere context right) (λ r. CostsExactly 0)

  no_more_after : (right : Tree) (rest : ℕ) → (after : AfterTruth right rest) → rest ≡ after.own
  no_more_after right rest after =
      let none : after.rest ≡ 0 = then_free after.outcome (λ r. CostsExactly 0) (λ r n is. is) after.rest after.follows in
      let sum : rest ≡ after.own + after.rest = after.sum in
      omega (arith, sum, none)

  left_due : (from to : ℕ) (side right : Tree) (last rest : ℕ) (outcome : Outcome) → (stands : StandsHere context place last (node from to (binary Operator side right)))
      → ResolvedHere context (OfEquality Operator (TypedHere context right)) side (place + 1) stands.children.middle → MeansHere context side outcome
      → CostThen outcome (λ v. RightCosts Operator v (AfterTruth right)) rest → RightCosts Operator (truth_val left) (AfterTruth right) rest
  left_due from to side right last rest outcome stands (inl read) is costs = absurd read.1.beside.0
  left_due from to side right last rest outcome stands (inr alone) is costs =
      let typed = stands.top.typed in
      let means : MeansHere context side (gives (truth_val left)) = first.of_tree stands.children.middle side typed.left alone.1 typed.left_typed in
      let once = ends side typed.left typed.left_typed in
      follows outcome (gives (truth_val left)) (λ v. RightCosts Operator v (AfterTruth right)) rest (once.only outcome is ∙ sym (once.only (gives (truth_val left)) means)) costs

  logical_rest : (old new : Budget) (stop : Option EvalStop)
      → ((middle last : ℕ) (right : Tree) (rest : ℕ) → ((at : ℕ) → IsRightOf context.list place at → middle ≡ at) → OperandHere context middle last right
      → RightCosts Operator (truth_val left) (AfterTruth right) rest → Spent stop old new rest)
      → SpendsRest context place old None new stop
  logical_rest old new stop goes =
      rest_spends context place old new stop (no_number context place (NodeKind.Binary Operator) tt here)
      (λ whole_last whole whole_cost whole_stands whole_costs.
      by_kind context place (NodeKind.Binary Operator) here (λ last tree. (n : ℕ) → CostsHere context tree n → SplitWith context place n (λ rest. Spent stop old new rest))
      (λ side right last from to stands n costs.
      let m = stands.children.middle in
      let first_there = left_here context place last from to Operator side right stands in
      let OtherSide : ExprType → Type 0 = OfEquality Operator (TypedHere context side) in
      let second_there = resolved_here context OtherSide right m last (right_beside context OtherSide m m last right refl stands.children.right) in
      record {
        stop = m;
        operand = side;
        stands = first_there;
        own = costs.own;
        costs = costs.costs;
        rest = costs.rest;
        sum = costs.sum;
        holds = goes m last right costs.rest (λ at is_right. operand_stops_there context (place + 1) m at side first_there is_right) second_there
            (left_due from to side right last costs.rest costs.outcome stands stands.children.left costs.is costs.follows);
      })
      whole_last whole whole_stands whole_cost whole_costs)

  pub right_left_out : IsDecided logical (truth_val left) → (budget : Budget) → SpendsRest context place budget None budget None
  right_left_out decided budget =
      logical_rest budget budget None
      (λ middle last right rest same stands asked.
      let none : rest ≡ 0 = decided_costs logical left (AfterTruth right) rest decided asked in
      spent_same None budget budget 0 rest none (takes_nothing budget))

  pub right_asked : ¬ (IsDecided logical (truth_val left)) → (right_place : ℕ) → IsRightOf context.list place right_place
      → (old new : Budget) (stop : Option EvalStop) → SpendsAt context right_place old new stop → SpendsRest context place old None new stop
  right_asked undecided right_place is_right old new stop second =
      logical_rest old new stop
      (λ middle last right rest same stands asked.
      let after : AfterTruth right rest = undecided_costs logical left (AfterTruth right) rest undecided asked in
      spent_same stop old new after.own rest (no_more_after right rest after)
      (operand_spent context right_place old new stop second last right after.own (subst (λ (m : ℕ). OperandHere context m last right) (same right_place is_right) stands) after.costs))
