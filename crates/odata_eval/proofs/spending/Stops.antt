-- Answers that may stop for their cost.
use Rattle.std.proofs.Common.{◌≡◌, ◌<◌, ◌+◌, ◌-◌, ℕ, ℤ, Option, Some, None, Result, Ok, Err, arith, subst, sym}
use Rattle.edm_values.specs.declared.datum.Datum.{Datum}
use Rattle.odata_filter_operations.specs.declared.eval_fault.EvalFault.{EvalFault}
use Rattle.odata_eval.specs.declared.budget.Budget.{Budget}
use Rattle.odata_eval.specs.declared.stop.EvalStop.{EvalStop}
use Rattle.filter_context.specs.private.ContextModel.{ContextModel}
use Rattle.odata_eval.specs.private.Spending.{CountedDatum, CountedNumber, CountedTruth, SpendsAt, SpendsRest, Spent, Takes, as_stop, datum_as_stop, datum_stop, number_as_stop, stopped_by}
use Rattle.odata_eval.specs.private.WalkAnswer.{AnswersDatum, AnswersNumber, AnswersTruth}
use Rattle.odata_eval.proofs.spending.Budgets.{spent_nothing, takes_nothing}
use Rattle.odata_eval.proofs.spending.Splits.{Faults}

-- what follows of a fault follows of a stop, of which nothing is said for its cost
pub by_stop : (A B : EvalStop → Type 0) → ((fault : EvalFault) → A (EvalStop.Fault fault) → B (EvalStop.Fault fault)) → (A EvalStop.TooCostly → B EvalStop.TooCostly) → (stop : EvalStop) → A stop → B stop
by_stop A B faults costly (EvalStop.Fault fault) a = faults fault a
by_stop A B faults costly EvalStop.TooCostly a = costly a

-- an answer for which nothing was counted
counted_so : (context : ContextModel) (place : ℕ) (answer : Result Datum EvalFault) → AnswersDatum context place answer → CountedDatum context place (as_stop answer)
counted_so context place (Ok datum) answers = answers
counted_so context place (Err fault) answers = answers

pub as_counted : (context : ContextModel) (place : ℕ) (answer : Result Datum EvalFault) (counted : Result Datum EvalStop) → counted ≡ as_stop answer → AnswersDatum context place answer → CountedDatum context place counted
as_counted context place answer counted same answers = subst (λ (r : Result Datum EvalStop). CountedDatum context place r) (sym same) (counted_so context place answer answers)

pub as_spent : (answer : Result Datum EvalFault) (counted : Result Datum EvalStop) (budget : Budget) → counted ≡ as_stop answer → Spent (datum_stop counted) budget budget 0
as_spent answer counted budget same = subst (λ (r : Result Datum EvalStop). Spent (datum_stop r) budget budget 0) (sym same) (spent_nothing answer budget)

counted_number : (context : ContextModel) (place : ℕ) (answer : Result (Option ℤ) EvalFault) → AnswersNumber context place answer → CountedNumber context place (as_stop answer)
counted_number context place (Ok number) answers = answers
counted_number context place (Err fault) answers = answers

pub as_number : (context : ContextModel) (place : ℕ) (answer : Result (Option ℤ) EvalFault) (counted : Result (Option ℤ) EvalStop) → counted ≡ number_as_stop answer → AnswersNumber context place answer
    → CountedNumber context place counted
as_number context place answer counted same answers = subst (λ (r : Result (Option ℤ) EvalStop). CountedNumber context place r) (sym same) (counted_number context place answer answers)

pub number_spent : (answer : Result (Option ℤ) EvalFault) (counted : Result (Option ℤ) EvalStop) (budget : Budget) → counted ≡ number_as_stop answer → Spent (stopped_by counted) budget budget 0
number_spent answer counted budget same = subst (λ (r : Result (Option ℤ) EvalStop). Spent (stopped_by r) budget budget 0) (sym same) (spent_nothing answer budget)

-- an answer for which so many were taken
paid_so : (answer : Result Datum EvalFault) (old new : Budget) (n : ℕ) → Takes old new n → Spent (stopped_by (as_stop answer)) old new n
paid_so (Ok datum) old new n takes = takes
paid_so (Err EvalFault.Memory) old new n takes = tt
paid_so (Err EvalFault.Overflow) old new n takes = takes
paid_so (Err EvalFault.DivideByZero) old new n takes = takes

pub fault_paid : (fault : EvalFault) (old new : Budget) (n : ℕ) → Takes old new n → Spent (Some (EvalStop.Fault fault)) old new n
fault_paid EvalFault.Memory old new n takes = tt
fault_paid EvalFault.Overflow old new n takes = takes
fault_paid EvalFault.DivideByZero old new n takes = takes

pub as_paid : (answer : Result Datum EvalFault) (counted : Result Datum EvalStop) (old new : Budget) (n : ℕ) → counted ≡ datum_as_stop answer → Takes old new n → Spent (datum_stop counted) old new n
as_paid answer counted old new n same takes = subst (λ (r : Result Datum EvalStop). Spent (datum_stop r) old new n) (sym same) (paid_so answer old new n takes)

-- without a bound anything may be asked for
free_of_bound : (context : ContextModel) (place : ℕ) → SpendsAt context place Budget.Unbounded Budget.Unbounded None
free_of_bound context place = record { of_tree = λ last tree n stands costs. tt; of_number = λ number last tree there. tt }

pub unbounded_spends : (context : ContextModel) (place : ℕ) (budget : Budget) → budget ≡ Budget.Unbounded → SpendsAt context place budget budget None
unbounded_spends context place budget is = subst (λ (b : Budget). SpendsAt context place b b None) (sym is) (free_of_bound context place)

-- the faults of an answer
pub truth_faults : (context : ContextModel) (place : ℕ) (stop : EvalStop) → CountedTruth context place (Err stop) → Faults context place stop
truth_faults context place (EvalStop.Fault fault) answers = answers
truth_faults context place EvalStop.TooCostly answers = tt

pub datum_faults : (context : ContextModel) (place : ℕ) (stop : EvalStop) → CountedDatum context place (Err stop) → Faults context place stop
datum_faults context place (EvalStop.Fault fault) answers = answers
datum_faults context place EvalStop.TooCostly answers = tt

pub number_faults : (context : ContextModel) (place : ℕ) (stop : EvalStop) → CountedNumber context place (Err stop) → Faults context place stop
number_faults context place (EvalStop.Fault fault) answers = answers
number_faults context place EvalStop.TooCostly answers = tt

-- a first operand that has a value, or stopped
pub after_value : (Held : Type 0) (context : ContextModel) (place : ℕ) (first : Result Held EvalStop) (held : Held) (old new : Budget) (stop : Option EvalStop) → first ≡ Ok held
    → SpendsRest context place old None new stop → SpendsRest context place old (stopped_by first) new stop
after_value Held context place first held old new stop is spends = subst (λ (r : Result Held EvalStop). SpendsRest context place old (stopped_by r) new stop) (sym is) spends

pub after_stop : (Held : Type 0) (context : ContextModel) (place : ℕ) (first : Result Held EvalStop) (by : EvalStop) (old new : Budget) (stop : Option EvalStop) → first ≡ Err by
    → SpendsRest context place old (Some by) new stop → SpendsRest context place old (stopped_by first) new stop
after_stop Held context place first by old new stop is spends = subst (λ (r : Result Held EvalStop). SpendsRest context place old (stopped_by r) new stop) (sym is) spends

-- a fault for which nothing was counted
pub fault_nothing : (fault : EvalFault) (budget : Budget) → Spent (Some (EvalStop.Fault fault)) budget budget 0
fault_nothing EvalFault.Overflow budget = takes_nothing budget
fault_nothing EvalFault.DivideByZero budget = takes_nothing budget
fault_nothing EvalFault.Memory budget = tt

-- what was taken up to a node, as of the first operand of the node before it
pub next_spent : (context : ContextModel) (at place : ℕ) (old new : Budget) (stop : Option EvalStop) → place < at → SpendsAt context at old new stop → SpendsAt context (at - 1 + 1) old new stop
next_spent context at place old new stop above spent = let e : at ≡ at - 1 + 1 = omega (arith, above) in subst (λ (k : ℕ). SpendsAt context k old new stop) e spent

-- a stop that is a fault
pub unbounded_truth : (context : ContextModel) (place : ℕ) (stop : EvalStop) (fault : EvalFault) → stop ≡ EvalStop.Fault fault → CountedTruth context place (Err stop) → AnswersTruth context place (Err fault)
unbounded_truth context place stop fault same answers = subst (λ (s : EvalStop). CountedTruth context place (Err s)) same answers

pub unbounded_datum : (context : ContextModel) (place : ℕ) (stop : EvalStop) (fault : EvalFault) → stop ≡ EvalStop.Fault fault → CountedDatum context place (Err stop) → AnswersDatum context place (Err fault)
unbounded_datum context place stop fault same answers = subst (λ (s : EvalStop). CountedDatum context place (Err s)) same answers
