-- What a bound allows of a whole filter, and that nothing is too costly without one.
use Rattle.std.proofs.Common.{◌≡◌, ◌≤◌, ℕ, [], Option, Some, None, Result, Ok, Err, length, sym, subst, inl, inr, arith}
use Rattle.edm_values.specs.MomentParts.{MomentParts}
use Rattle.csdl_schema.specs.SchemaModel.{slots_of, type_name_at}
use Rattle.edm_entities.specs.Row.{Row, value_of}
use Rattle.odata_checked_filter.specs.Filter.{Filter, IsFilter, tree_of_filter}
use Rattle.odata_filter_operations.specs.declared.eval_fault.EvalFault.{EvalFault}
use Rattle.odata_meaning.specs.Costs.{Costs}
use Rattle.odata_eval.specs.CostsOn.{CostsOn, IsWithin, KeepsBound}
use Rattle.odata_meaning.specs.Environment.{Environment}
use Rattle.odata_eval.specs.declared.budget.Budget.{Budget}
use Rattle.odata_eval.specs.declared.stop.EvalStop.{EvalStop}
use Rattle.odata_eval.specs.declared.verdict.Verdict.{Verdict}
use Rattle.filter_context.specs.private.Place.{OperandStands}
use Rattle.filter_context.specs.private.ContextModel.{ContextModel}
use Rattle.odata_eval.specs.private.Spending.{CostsHere, CostsOnceHere, SpendsAt, Spent, Takes}
use Rattle.filter_context.proofs.Spines.{has_type}
use Rattle.odata_eval.proofs.walking.TopNode.{no_variables, whole_stands, whole_typed}

-- so many were taken for what stands there
some_spent : (context : ContextModel) (place : ℕ) (old new : Budget) (stop : Option EvalStop) → OperandStands context place → CostsOnceHere context → SpendsAt context place old new stop → (n : ℕ) × Spent stop old new n
some_spent context place old new stop operand once spends = elim operand.stands [
  | inl stands ↦ (let typed = has_type context place operand.stop operand.tree stands in
      let cost = once operand.tree typed.0 typed.1 in
      (cost.cost, spends.of_tree operand.stop operand.tree cost.cost stands cost.related))
  | inr number ↦ (0, spends.of_number number.0 operand.stop operand.tree number.1)
]

-- without a bound nothing is too costly
pub never_costly : (context : ContextModel) (place : ℕ) → OperandStands context place → CostsOnceHere context → (new : Budget) → SpendsAt context place Budget.Unbounded new (Some EvalStop.TooCostly) → ⊥
never_costly context place operand once new spends = (some_spent context place Budget.Unbounded new (Some EvalStop.TooCostly) operand once spends).1

-- what was taken lies within the bound
taken_within : (most n : ℕ) (new : Budget) → Takes (Budget.Left most) new n → n ≤ most
taken_within most n (Budget.Left left) takes = omega (arith, takes)
taken_within most n Budget.Unbounded takes = absurd takes

-- so it is where there was a verdict, and where there was a fault
pub verdict_within : (most : ℕ) (new : Budget) (verdict : Verdict) (n : ℕ) → Spent None (Budget.Left most) new n → IsWithin most n (Ok (Some verdict))
verdict_within most new verdict n = taken_within most n new

pub fault_within : (most : ℕ) (new : Budget) (fault : EvalFault) (n : ℕ) → Spent (Some (EvalStop.Fault fault)) (Budget.Left most) new n → IsWithin most n (Err fault)
fault_within most new EvalFault.Overflow n = taken_within most n new
fault_within most new EvalFault.DivideByZero n = taken_within most n new
fault_within most new EvalFault.Memory n = λ spent. tt

module _ (filter : Filter) (row : Row) (moment : MomentParts) (context : ContextModel) (right : IsFilter filter) (one_schema : filter.schema ≡ row.schema)
    (one_type : filter.filtered ≡ row.type_id) (is_row : context.row ≡ row) (is_moment : context.moment ≡ moment) (is_list : context.list ≡ filter.list) (is_empty : context.frames ≡ []) where
  -- what it costs there is what it costs by itself
  costs_alone : (n : ℕ) → CostsHere context (tree_of_filter filter) n → CostsOn context.row context.moment (tree_of_filter filter) n
  costs_alone n =
      subst (λ (e : Environment). Costs (slots_of context.row.schema) (type_name_at context.row.schema context.row.type_id) context.moment (value_of context.row) e (tree_of_filter filter) n)
      (no_variables filter row moment context right one_schema one_type is_row is_moment is_list is_empty)

  costs_here : (n : ℕ) → CostsOn context.row context.moment (tree_of_filter filter) n → CostsHere context (tree_of_filter filter) n
  costs_here n =
      subst (λ (e : Environment). Costs (slots_of context.row.schema) (type_name_at context.row.schema context.row.type_id) context.moment (value_of context.row) e (tree_of_filter filter) n)
      (sym (no_variables filter row moment context right one_schema one_type is_row is_moment is_list is_empty))

  -- what a walk spent of a bound is what its answer says of it
  pub top_bound : CostsOnceHere context → (most : ℕ) (new : Budget) (answer : Result (Option Verdict) EvalFault) (stop : Option EvalStop) → ((n : ℕ) → Spent stop (Budget.Left most) new n → IsWithin most n answer)
      → SpendsAt context 0 (Budget.Left most) new stop → KeepsBound row moment (tree_of_filter filter) most answer
  top_bound once most new answer stop says spends =
      let cost = once (tree_of_filter filter) right.type_of (whole_typed filter row moment context right one_schema one_type is_row is_moment is_list is_empty) in
      let spent = spends.of_tree (length filter.list.nodes) (tree_of_filter filter) cost.cost (whole_stands filter row moment context right one_schema one_type is_row is_moment is_list is_empty) cost.related in
      subst (λ (r : Row). KeepsBound r moment (tree_of_filter filter) most answer) is_row
      (subst (λ (m : MomentParts). KeepsBound context.row m (tree_of_filter filter) most answer) is_moment
      (record {
        cost = cost.cost;
        related = costs_alone cost.cost cost.related;
        only = λ other of_other. cost.only other (costs_here other of_other);
        within = says cost.cost spent;
      }))
