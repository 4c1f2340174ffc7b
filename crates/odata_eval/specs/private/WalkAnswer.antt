-- For private clauses: what the walk of a filter's list answers.
use Rattle.std.specs.Prelude.{◌≡◌, ℕ, ℤ, List, [], ◌∷◌, Option, Some, Result, Ok, Bool}
use Rattle.edm_values.specs.declared.datum.Datum.{Datum}
use Rattle.edm_values.specs.declared.value.Value.{Value}
use Rattle.csdl_schema.specs.SchemaModel.{slots_of}
use Rattle.edm_entities.specs.Row.{val_of}
use Rattle.odata_functions.specs.DatumVal.{datum_val}
use Rattle.odata_filter_operations.specs.declared.eval_fault.EvalFault.{EvalFault}
use Rattle.odata_eval.specs.declared.walk_operand.WalkOperand.{WalkOperand}
use Rattle.filter_context.specs.declared.walk_class.WalkClass.{WalkClass}
use Rattle.odata_filter_operations.specs.CalculationGives.{number_val}
use Rattle.odata_filter_operations.specs.Outcome.{gives}
use Rattle.odata_filter_operations.specs.TruthGives.{truth_val}
use Rattle.odata_filter_operations.specs.DatumView.{answer_outcome, reading_at}
use Rattle.filter_context.specs.private.Place.{IsClassAt, IsStopOf}
use Rattle.filter_context.specs.private.AnswersAtPlace.{AnswersAtPlace}
use Rattle.filter_context.specs.private.ContextModel.{ContextModel}

-- an answer that may be of any type is an outcome of what stands at the index
abbrev pub AnswersDatum : ContextModel → ℕ → Result Datum EvalFault → Type 0
AnswersDatum context place answer =
    AnswersAtPlace context place
    (λ type. answer_outcome (datum_val (reading_at (slots_of context.row.schema) type)) answer)

-- from the first index on, arguments that lie before the last index have been answered one after another, up to an
-- index
abbrev pub AllAnswered : ContextModel → ℕ → ℕ → ℕ → List Datum → Type 0
AllAnswered context first at last [] = first ≡ at
AllAnswered context first at last (answer ∷ more) =
    (stop : ℕ) × IsStopOf context.list first stop × ¬ (first ≡ last) × AnswersDatum context first (Ok answer)
    × AllAnswered context stop at last more

-- and one that is a truth value or null
abbrev pub AnswersTruth : ContextModel → ℕ → Result (Option Bool) EvalFault → Type 0
AnswersTruth context place answer = AnswersAtPlace context place (λ type. answer_outcome truth_val answer)

-- and one that is a number or null
abbrev pub AnswersNumber : ContextModel → ℕ → Result (Option ℤ) EvalFault → Type 0
AnswersNumber context place answer = AnswersAtPlace context place (λ type. answer_outcome number_val answer)

-- and a stored value
abbrev pub AnswersKept : ContextModel → ℕ → Value → Type 0
AnswersKept context place value =
    AnswersAtPlace context place (λ type. Some (gives (val_of value (slots_of context.row.schema).properties type)))

-- what stands at the index: a value, a node of truth values, one of numbers, or another one with operands
abbrev pub IsWalkOperand : ContextModel → ℕ → WalkOperand → Type 0
IsWalkOperand context place (WalkOperand.Leaf value) = AnswersKept context place value.now
    × IsClassAt context.list WalkClass.Leaf place
IsWalkOperand context place WalkOperand.Logical = IsClassAt context.list WalkClass.Logical place
IsWalkOperand context place WalkOperand.Numeric = IsClassAt context.list WalkClass.Numeric place
IsWalkOperand context place WalkOperand.Eager = IsClassAt context.list WalkClass.Eager place
