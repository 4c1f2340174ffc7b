-- How the cost of a node divides: into its first operand's, and that of the rest.
use Rattle.std.proofs.Common.{◌≡◌, ◌+◌, ◌∙◌, inl, inr, ℕ, ℤ, List, Option, Some, None, refl, sym, subst, slice_get, arith}
use Rattle.edm_values.specs.Val.{Val, member}
use Rattle.csdl_schema.specs.ExprType.{null_type}
use Rattle.odata_checked_filter.specs.Calls.{TakesMemory}
use Rattle.odata_filter_operations.specs.Reports.{Reports}
use Rattle.odata_checked_filter.specs.declared.checked_node.CheckedNode.{CheckedNode}
use Rattle.odata_checked_filter.specs.declared.checked_node.NodeKind.{NodeKind}
use Rattle.odata_filter_operations.specs.FaultView.{fault_outcome}
use Rattle.odata_filter_operations.specs.Outcome.{Outcome, overflow, divides_by_zero}
use Rattle.odata_filter_operations.specs.declared.eval_fault.EvalFault.{EvalFault}
use Rattle.odata_signatures.specs.Functions.{IsNamed}
use Rattle.odata_signatures.specs.declared.function.Function.{Function}
use Rattle.odata_syntax.specs.Tree.{Tree, Trees, literal, node, call, more_trees, no_trees}
use Rattle.odata_syntax.specs.declared.node.LiteralKind.{LiteralKind}
use Rattle.odata_meaning.specs.Costs.{CostAfter, CostThen}
use Rattle.odata_eval.specs.declared.budget.Budget.{Budget}
use Rattle.filter_context.specs.declared.walk_class.WalkClass.{WalkClass}
use Rattle.odata_eval.specs.declared.stop.EvalStop.{EvalStop}
use Rattle.filter_context.specs.private.Place.{HasKind, IsClassAt}
use Rattle.filter_context.specs.private.EvalContext.{EndsOnceHere, MeansHere, NumberHere, OperandHere, StandsHere}
use Rattle.filter_context.specs.private.ContextModel.{ContextModel}
use Rattle.odata_eval.specs.private.Spending.{CostsHere, SpendsAt, SpendsRest, Spent}
use Rattle.filter_context.specs.private.AnswersAtPlace.{AnswersAtPlace}
use Rattle.filter_context.specs.WalkClass.{walk_of_kind}
use Rattle.odata_eval.proofs.spending.Budgets.{spent_first, spent_same, spent_then}
use Rattle.odata_meaning.proofs.costs.Zero.{IsFree}
use Rattle.filter_context.proofs.Children.{only_child}
use Rattle.filter_context.proofs.Operands.{HasNone, fault_no_value, inner_number}
use Rattle.filter_context.proofs.Parts.{by_kind, some_there, there_found}
use Rattle.filter_context.proofs.Extents.{left_here}
use Rattle.filter_context.proofs.Spines.{has_type, no_empty_call, only_now}

-- ---- what follows an outcome that is known

pub follows : (outcome known : Outcome) (GoesOn : Val → ℕ → Type 0) (rest : ℕ) → outcome ≡ known → CostThen outcome GoesOn rest → CostThen known GoesOn rest
follows outcome known GoesOn rest same costs = subst (λ (o : Outcome). CostThen o GoesOn rest) same costs

-- after a fault nothing
pub fault_follows : (fault : EvalFault) (outcome known : Outcome) (GoesOn : Val → ℕ → Type 0) (rest : ℕ) → fault_outcome fault ≡ Some known → outcome ≡ known → CostThen outcome GoesOn rest → rest ≡ 0
fault_follows EvalFault.Overflow outcome known GoesOn rest is same costs =
    let e : overflow ≡ known = cc in follows outcome overflow GoesOn rest (same ∙ sym e) costs
fault_follows EvalFault.DivideByZero outcome known GoesOn rest is same costs =
    let e : divides_by_zero ≡ known = cc in follows outcome divides_by_zero GoesOn rest (same ∙ sym e) costs
fault_follows EvalFault.Memory outcome known GoesOn rest is same costs = absurd (cc)

pub no_more : (n : ℕ) → n ≡ n + 0
no_more n = omega arith

-- ---- operands

-- a literal that has a number costs nothing
pub number_free : (context : ContextModel) (number : ℤ) (place stop : ℕ) (tree : Tree) → NumberHere context number place stop tree → IsFree (CostsHere context tree)
number_free context number place stop (node from to (literal LiteralKind.Str spelling)) there = λ n costs. costs
number_free context number place stop _ there = absurd there

pub operand_spent : (context : ContextModel) (place : ℕ) (old new : Budget) (stop : Option EvalStop) → SpendsAt context place old new stop → (last : ℕ) (tree : Tree) (n : ℕ)
    → OperandHere context place last tree → CostsHere context tree n → Spent stop old new n
operand_spent context place old new stop spends last tree n (inl stands) costs = spends.of_tree last tree n stands costs
operand_spent context place old new stop spends last tree n (inr number) costs =
    spent_same stop old new 0 n (number_free context number.0 place last tree number.1 n costs) (spends.of_number number.0 last tree number.1)

-- ---- the first operand

-- a first operand with its cost, and the rest's: nothing after a fault of it
pub record Split (context : ContextModel) (place n : ℕ) : Type 0 where
  pub stop : ℕ
  pub operand : Tree
  pub stands : OperandHere context (place + 1) stop operand
  pub own : ℕ
  pub costs : CostsHere context operand own
  pub rest : ℕ
  pub sum : n ≡ own + rest
  pub stays : (fault : EvalFault) (known : Outcome) → fault_outcome fault ≡ Some known → ((o : Outcome) → MeansHere context operand o → o ≡ known) → rest ≡ 0

-- such a first operand, of whose rest this holds
pub record SplitWith (context : ContextModel) (place n : ℕ) (Holds : ℕ → Type 0) : Type 0 where
  pub stop : ℕ
  pub operand : Tree
  pub stands : OperandHere context (place + 1) stop operand
  pub own : ℕ
  pub costs : CostsHere context operand own
  pub rest : ℕ
  pub sum : n ≡ own + rest
  pub holds : Holds rest

module _ (context : ContextModel) where
  -- whatever its whole is, where that costs what the operand costs
  pub split_one : (place stop : ℕ) (operand : Tree) → OperandHere context (place + 1) stop operand → (n : ℕ) → CostsHere context operand n → Split context place n
  split_one place stop operand stands n costs = record {
    stop = stop;
    operand = operand;
    stands = stands;
    own = n;
    costs = costs;
    rest = 0;
    sum = no_more n;
    stays = λ fault known is one. refl;
  }

  pub split_after : (place stop : ℕ) (operand : Tree) → OperandHere context (place + 1) stop operand → (GoesOn : Val → ℕ → Type 0) (n : ℕ)
      → CostAfter (MeansHere context operand) (CostsHere context operand) GoesOn n → Split context place n
  split_after place stop operand stands GoesOn n after = record {
    stop = stop;
    operand = operand;
    stands = stands;
    own = after.own;
    costs = after.costs;
    rest = after.rest;
    sum = after.sum;
    stays = λ fault known is one. fault_follows fault after.outcome known GoesOn after.rest is (one after.outcome after.is) after.follows;
  }

  split_call : (place : ℕ) (asked : List ℕ) (arguments : Trees) (stop from to : ℕ) → ¬ (IsNamed Function.Now asked) → StandsHere context place stop (node from to (call asked arguments))
      → (n : ℕ) → CostsHere context (node from to (call asked arguments)) n → Split context place n
  split_call place asked no_trees stop from to later stands n costs = absurd (no_empty_call context asked stands.top.typed.types _ later stands.top.typed.arguments_typed stands.top.typed.call_typed)
  split_call place asked (more_trees argument more) stop from to later stands n costs = split_after place stands.children.middle argument (inl stands.children.left) _ n costs

  abbrev Splits : ℕ → ℕ → Tree → Type 0
  Splits place stop tree = (n : ℕ) → CostsHere context tree n → Split context place n

  split_of_kind : (place : ℕ) (kind : NodeKind) → ¬ (walk_of_kind kind ≡ WalkClass.Leaf) → HasKind context.list place kind → (stop : ℕ) (tree : Tree) → StandsHere context place stop tree → Splits place stop tree
  split_of_kind place (NodeKind.Member slot) inner here = by_kind context place (NodeKind.Member slot) here (Splits place)
      (λ base asked stop from to stands. split_one place stop base (inl (only_child context (place + 1) stop base stands.children)))
  split_of_kind place NodeKind.Count inner here = by_kind context place NodeKind.Count here (Splits place)
      (λ base stop from to stands. split_one place stop base (inl (only_child context (place + 1) stop base stands.children)))
  split_of_kind place NodeKind.AnyItem inner here = by_kind context place NodeKind.AnyItem here (Splits place)
      (λ base stop from to stands. split_one place stop base (inl (only_child context (place + 1) stop base stands.children)))
  split_of_kind place NodeKind.Neg inner here = by_kind context place NodeKind.Neg here (Splits place)
      (λ operand stop from to stands. split_one place stop operand (inl (only_child context (place + 1) stop operand stands.children)))
  split_of_kind place NodeKind.Not inner here = by_kind context place NodeKind.Not here (Splits place)
      (λ operand stop from to stands. split_one place stop operand (inl (only_child context (place + 1) stop operand stands.children)))
  split_of_kind place NodeKind.Has inner here = by_kind context place NodeKind.Has here (Splits place)
      (λ left right stop from to stands. split_after place stands.children.middle left (inl stands.children.left) _)
  split_of_kind place NodeKind.InPath inner here = by_kind context place NodeKind.InPath here (Splits place)
      (λ left path stop from to stands. split_after place stands.children.middle left (inl stands.children.left) _)
  split_of_kind place NodeKind.InList inner here = by_kind context place NodeKind.InList here (Splits place)
      (λ left items stop from to stands. split_after place stands.children.middle left (inl stands.children.left) _)
  split_of_kind place (NodeKind.Lambda quantifier) inner here = by_kind context place (NodeKind.Lambda quantifier) here (Splits place)
      (λ base asked body stop from to stands. split_after place stands.children.middle base (inl stands.children.left) _)
  split_of_kind place (NodeKind.Binary operator) inner here = by_kind context place (NodeKind.Binary operator) here (Splits place)
      (λ left right stop from to stands. split_after place stands.children.middle left (left_here context place stop from to operator left right stands) _)
  split_of_kind place (NodeKind.Call function) inner here = by_kind context place (NodeKind.Call function) here (Splits place)
      (λ asked arguments named later stop from to stands. split_call place asked arguments stop from to (λ of_now. later (only_now function (named ∙ sym of_now))) stands)
  split_of_kind place _ inner here = absurd (inner refl)

  pub split : (place : ℕ) (class : WalkClass) → ¬ (class ≡ WalkClass.Leaf) → IsClassAt context.list class place → (stop : ℕ) (tree : Tree) → StandsHere context place stop tree
      → (n : ℕ) → CostsHere context tree n → Split context place n
  split place class inner is stop tree stands =
      let found = some_there (λ (f : CheckedNode). walk_of_kind f.kind ≡ class) (slice_get context.list.nodes place) is in
      let kind = found.0.kind in
      split_of_kind place kind (λ leaf. inner (sym found.1.1 ∙ leaf)) (there_found (λ (f : CheckedNode). f.kind ≡ kind) (slice_get context.list.nodes place) found.0 found.1.0 refl) stop tree stands

  -- ---- budgets

  -- the answers that may stop: a fault is an outcome of what stands there
  abbrev pub Faults : ℕ → EvalStop → Type 0
  Faults place (EvalStop.Fault fault) = AnswersAtPlace context place (λ type. fault_outcome fault)
  Faults place EvalStop.TooCostly = Unit {0}

  -- what stopped the first operand stops the node
  fault_ends : EndsOnceHere context → (place stop : ℕ) (operand : Tree) → OperandHere context place stop operand → (fault : EvalFault) (known : Outcome) → fault_outcome fault ≡ Some known
      → AnswersAtPlace context place (λ type. fault_outcome fault) → (o : Outcome) → MeansHere context operand o → o ≡ known
  fault_ends ends place stop operand (inl stands) fault known is faults o of_o =
      let typed = has_type context place stop operand stands in
      let once = ends operand typed.0 typed.1 in
      let means : MeansHere context operand known = subst (Reports (TakesMemory operand) (MeansHere context operand)) is (faults.of_tree stop operand typed.0 stands typed.1) in
      once.only o of_o ∙ sym (once.only known means)
  fault_ends ends place stop operand (inr number) fault known is faults o of_o =
      absurd (fault_no_value fault (member number.0) (faults.of_number number.0 stop operand null_type number.1))

  fault_stays : EndsOnceHere context → (place : ℕ) (stop : EvalStop) → Faults (place + 1) stop → (n : ℕ) (it : Split context place n) (fault : EvalFault) → stop ≡ EvalStop.Fault fault → ¬ (fault ≡ EvalFault.Memory) → it.rest ≡ 0
  fault_stays ends place (EvalStop.Fault EvalFault.Overflow) faults n it fault same known =
      it.stays EvalFault.Overflow overflow refl (fault_ends ends (place + 1) it.stop it.operand it.stands EvalFault.Overflow overflow refl faults)
  fault_stays ends place (EvalStop.Fault EvalFault.DivideByZero) faults n it fault same known =
      it.stays EvalFault.DivideByZero divides_by_zero refl (fault_ends ends (place + 1) it.stop it.operand it.stands EvalFault.DivideByZero divides_by_zero refl faults)
  fault_stays ends place (EvalStop.Fault EvalFault.Memory) faults n it fault same known = absurd (known (let e : fault ≡ EvalFault.Memory = cc in e))
  fault_stays ends place EvalStop.TooCostly faults n it fault same known = absurd (cc)

  -- after an operand that stopped nothing is asked for
  pub fault_rest : EndsOnceHere context → (place last : ℕ) (operand : Tree) → OperandHere context place last operand → (stop : EvalStop) → Faults place stop → (outcome : Outcome) → MeansHere context operand outcome
      → (GoesOn : Val → ℕ → Type 0) (rest : ℕ) → CostThen outcome GoesOn rest → (fault : EvalFault) → stop ≡ EvalStop.Fault fault → ¬ (fault ≡ EvalFault.Memory) → rest ≡ 0
  fault_rest ends place last operand stands (EvalStop.Fault EvalFault.Overflow) faults outcome is GoesOn rest costs fault same known =
      fault_follows EvalFault.Overflow outcome overflow GoesOn rest refl (fault_ends ends place last operand stands EvalFault.Overflow overflow refl faults outcome is) costs
  fault_rest ends place last operand stands (EvalStop.Fault EvalFault.DivideByZero) faults outcome is GoesOn rest costs fault same known =
      fault_follows EvalFault.DivideByZero outcome divides_by_zero GoesOn rest refl (fault_ends ends place last operand stands EvalFault.DivideByZero divides_by_zero refl faults outcome is) costs
  fault_rest ends place last operand stands (EvalStop.Fault EvalFault.Memory) faults outcome is GoesOn rest costs fault same known = absurd (known (let e : fault ≡ EvalFault.Memory = cc in e))
  fault_rest ends place last operand stands EvalStop.TooCostly faults outcome is GoesOn rest costs fault same known = absurd (cc)

  pub first_stops : EndsOnceHere context → (place : ℕ) (class : WalkClass) → ¬ (class ≡ WalkClass.Leaf) → IsClassAt context.list class place → (stop : EvalStop) → Faults (place + 1) stop
      → (budget : Budget) → SpendsRest context place budget (Some stop) budget (Some stop)
  first_stops ends place class inner is stop faults budget start first = record {
    of_tree = λ last tree n stands costs.
        let it = split place class inner is last tree stands n costs in
        spent_same (Some stop) start budget (it.own + it.rest) n it.sum
        (spent_first stop start budget it.own it.rest (fault_stays ends place stop faults n it)
        (operand_spent context (place + 1) start budget (Some stop) first it.stop it.operand it.own it.stands it.costs));
    of_number = λ number last tree there. absurd (inner_number context place class inner is number last tree there);
  }

  -- what the rest takes is taken after what the first operand took
  pub rest_spends : (place : ℕ) (old new : Budget) (stop : Option EvalStop) → HasNone context place
      → ((last : ℕ) (tree : Tree) (n : ℕ) → StandsHere context place last tree → CostsHere context tree n → SplitWith context place n (λ rest. Spent stop old new rest))
      → SpendsRest context place old None new stop
  rest_spends place old new stop none splits start first = record {
    of_tree = λ last tree n stands costs.
        let it = splits last tree n stands costs in
        spent_same stop start new (it.own + it.rest) n it.sum
        (spent_then stop start old new it.own it.rest (operand_spent context (place + 1) start old None first it.stop it.operand it.own it.stands it.costs) it.holds);
    of_number = λ number last tree there. absurd (none number last tree there);
  }
