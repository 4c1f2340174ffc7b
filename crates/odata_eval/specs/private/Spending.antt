-- For private clauses: what an answer leaves of a budget.
use Rattle.std.specs.Prelude.{◌≡◌, ◌<◌, ◌+◌, ◌/◌, ℕ, zero, suc, ℤ, List, Option, Some, None, Result, Ok, Err, Bool, true, false}
use Rattle.std.specs.Prelude.{length, slice_get, string_bytes}
use Rattle.std.specs.Cow.{cow_str_bytes}
use Rattle.edm_values.specs.declared.datum.Datum.{Datum}
use Rattle.edm_values.specs.declared.datum.Datum.TheVariants as datum
use Rattle.edm_values.specs.declared.value.Value.{Value, Text}
use Rattle.csdl_schema.specs.ExprType.{ExprType}
use Rattle.csdl_schema.specs.SchemaModel.{slots_of, type_name_at}
use Rattle.edm_entities.specs.Row.{value_of}
use Rattle.odata_syntax.specs.Tree.{Tree}
use Rattle.odata_syntax.specs.declared.node.Quantifier.{Quantifier}
use Rattle.odata_filter_operations.specs.declared.eval_fault.EvalFault.{EvalFault}
use Rattle.odata_meaning.specs.Costs.{Costs, MembersCost}
use Rattle.odata_meaning.specs.CostsOnce.{CostsOnce}
use Rattle.odata_meaning.specs.Environment.{bound_over}
use Rattle.odata_eval.specs.declared.budget.Budget.{Budget}
use Rattle.filter_context.specs.declared.frames.RangeVariable.{RangeVariable}
use Rattle.odata_eval.specs.declared.stop.EvalStop.{EvalStop}
use Rattle.odata_eval.specs.private.Lambda.{AnswersMembers, BodyMeans, BodyStands, type_of_variable, vals_of}
use Rattle.filter_context.specs.private.EvalContext.{NumberHere, StandsHere, TypedHere}
use Rattle.filter_context.specs.private.ContextModel.{ContextModel, environment_of}
use Rattle.odata_eval.specs.private.WalkAnswer.{AnswersDatum, AnswersNumber, AnswersTruth}

-- ---- answers that may stop for their cost, of which nothing is said then

abbrev pub CountedTruth : ContextModel → ℕ → Result (Option Bool) EvalStop → Type 0
CountedTruth context place (Ok truth) = AnswersTruth context place (Ok truth)
CountedTruth context place (Err (EvalStop.Fault fault)) = AnswersTruth context place (Err fault)
CountedTruth context place (Err EvalStop.TooCostly) = Unit {0}

abbrev pub CountedDatum : ContextModel → ℕ → Result Datum EvalStop → Type 0
CountedDatum context place (Ok datum) = AnswersDatum context place (Ok datum)
CountedDatum context place (Err (EvalStop.Fault fault)) = AnswersDatum context place (Err fault)
CountedDatum context place (Err EvalStop.TooCostly) = Unit {0}

abbrev pub CountedNumber : ContextModel → ℕ → Result (Option ℤ) EvalStop → Type 0
CountedNumber context place (Ok number) = AnswersNumber context place (Ok number)
CountedNumber context place (Err (EvalStop.Fault fault)) = AnswersNumber context place (Err fault)
CountedNumber context place (Err EvalStop.TooCostly) = Unit {0}

abbrev pub CountedMembers :
    ContextModel → ℕ → Quantifier → RangeVariable → List Value → Result (Option Bool) EvalStop → Type 0
CountedMembers context place quantifier variable members (Ok truth) =
    AnswersMembers context place quantifier variable members (Ok truth)
CountedMembers context place quantifier variable members (Err (EvalStop.Fault fault)) =
    AnswersMembers context place quantifier variable members (Err fault)
CountedMembers context place quantifier variable members (Err EvalStop.TooCostly) = Unit {0}

-- an answer, its fault as a stop
abbrev pub as_stop : {Held : Type 0} → Result Held EvalFault → Result Held EvalStop
as_stop (Ok held) = Ok held
as_stop (Err fault) = Err (EvalStop.Fault fault)

-- ---- budgets

-- what stopped an answer, if something did
abbrev pub stopped_by : {Held : Type 0} → Result Held EvalStop → Option EvalStop
stopped_by (Ok held) = None
stopped_by (Err stop) = Some stop

abbrev pub datum_stop : Result Datum EvalStop → Option EvalStop
datum_stop answer = stopped_by answer

abbrev pub datum_as_stop : Result Datum EvalFault → Result Datum EvalStop
datum_as_stop answer = as_stop answer

abbrev pub number_as_stop : Result (Option ℤ) EvalFault → Result (Option ℤ) EvalStop
number_as_stop answer = as_stop answer

-- so many were taken from the budget
abbrev pub Takes : Budget → Budget → ℕ → Type 0
Takes Budget.Unbounded Budget.Unbounded n = Unit {0}
Takes (Budget.Left old) (Budget.Left new) n = old ≡ n + new
Takes _ _ n = ⊥

-- what it costs to compare a value with a stored one: texts what both cost
abbrev pub stored_cost : Datum → Value → ℕ
stored_cost (datum.Text t) (Text s) = length (cow_str_bytes t) / 1024 + length (string_bytes s) / 1024
stored_cost left found = 0

-- with a member of a collection, which counts within a body
abbrev pub member_due : ℕ → Datum → Option Value → ℕ
member_due each left None = 0
member_due each left (Some found) = each + stored_cost left found

-- with so many members, from the first one on
abbrev pub members_due : ℕ → Datum → List Value → ℕ → ℕ
members_due each left members zero = 0
members_due each left members (suc count) =
    members_due each left members count + member_due each left (slice_get members count)

-- null has none
abbrev pub path_due : ℕ → Datum → Datum → ℕ → ℕ
path_due each left (datum.List members) count = members_due each left members.now count
path_due each left path count = 0

-- the budget had fewer
abbrev pub HasFewer : Budget → ℕ → Type 0
HasFewer Budget.Unbounded n = ⊥
HasFewer (Budget.Left old) n = old < n

-- so many were taken, or there were fewer
abbrev pub IsTaken : Bool → Budget → Budget → ℕ → Type 0
IsTaken true old new n = Takes old new n
IsTaken false old new n = HasFewer old n

-- what costs so many took them from the budget, or stopped since it had fewer; where memory ran out nothing is said
abbrev pub Spent : Option EvalStop → Budget → Budget → ℕ → Type 0
Spent None old new n = Takes old new n
Spent (Some EvalStop.TooCostly) old new n = HasFewer old n
Spent (Some (EvalStop.Fault EvalFault.Overflow)) old new n = Takes old new n
Spent (Some (EvalStop.Fault EvalFault.DivideByZero)) old new n = Takes old new n
Spent (Some (EvalStop.Fault EvalFault.Memory)) old new n = Unit {0}

-- ---- trees

-- the tree has the cost
abbrev pub CostsHere : ContextModel → Tree → ℕ → Type 0
CostsHere context =
    Costs (slots_of context.row.schema) (type_name_at context.row.schema context.row.type_id) context.moment
    (value_of context.row)
    (environment_of context)

-- a tree that has a type has one cost
abbrev pub CostsOnceHere : ContextModel → Type 0
CostsOnceHere context =
    (tree : Tree) (type : ExprType) → TypedHere context tree type
    → CostsOnce (slots_of context.row.schema) (type_name_at context.row.schema context.row.type_id) context.moment
    (value_of context.row) (environment_of context) tree

-- what stands at the index was asked for, with a budget before and after; a literal that has a number costs nothing
pub record SpendsAt (context : ContextModel) (place : ℕ) (old new : Budget) (stop : Option EvalStop) : Type 0 where
  pub of_tree :
      (last : ℕ) (tree : Tree) (n : ℕ) → StandsHere context place last tree → CostsHere context tree n
      → Spent stop old new n
  pub of_number : (number : ℤ) (last : ℕ) (tree : Tree) → NumberHere context number place last tree
      → Spent stop old new 0

-- where its first operand was asked for since the walk had some budget, the rest of it is asked for now
abbrev pub SpendsRest : ContextModel → ℕ → Budget → Option EvalStop → Budget → Option EvalStop → Type 0
SpendsRest context place old first new stop =
    (start : Budget) → SpendsAt context (place + 1) start old first → SpendsAt context place start new stop

-- so were the members of a lambda operator, whatever body stands at the index
pub record SpendsMembers
    (context : ContextModel) (place : ℕ) (quantifier : Quantifier) (variable : RangeVariable) (members : List Value)
    (old new : Budget) (stop : Option EvalStop) : Type 0 where
  pub of_body :
      (last : ℕ) (body : Tree) (n : ℕ) → BodyStands context variable place last body
      → MembersCost 1 quantifier (BodyMeans context variable body)
      (λ v. Costs (slots_of context.row.schema) (type_name_at context.row.schema context.row.type_id) context.moment
      (value_of context.row)
      (bound_over (environment_of context) variable.name.now (type_of_variable context variable) v) body)
      (vals_of (slots_of context.row.schema) (type_of_variable context variable) members) n
      → Spent stop old new n
