-- Conditions of SQL as a handle has them: their statements, and the values of these.
use Rattle.std.specs.Prelude.{◌≡◌, ◌⊎◌, ℕ, List, length, Option, None, Some, Result, Ok, Err, IsSomeAnd, IsTrue, MatchResult, cond, eqb, is_some, option_and_then, option_map, slice_get, string_bytes}
use Rattle.std.specs.Int.{cast_unsigned, w64}
use Rattle.odata_sql.specs.declared.translation.Conditions.{Conditions}
use Rattle.odata_sql.specs.declared.translation.Statement.{Statement}
use Rattle.sql_tree.specs.GivenText.{given_text}
use Rattle.sql_tree.specs.declared.dialect.Dialect.{Dialect}
use Rattle.sql_tree.specs.declared.parameter.Parameter.{Parameter}
use Rattle.call_handles.specs.Answers.{empty_answer}
use Rattle.call_handles.specs.Kinds.{IsConditionsKind}
use Rattle.call_handles.specs.Outcomes.{IsReported, Makes}
use Rattle.call_handles.specs.Texts.{IsTooSmall, IsWritten}
use Rattle.call_handles.specs.declared.answer.Answer.{Answer}
use Rattle.call_handles.specs.declared.call_fault.Fault.{Fault}
use Rattle.call_handles.specs.declared.handle.ConditionsHandle.{ConditionsHandle}
use Rattle.call_handles.specs.declared.handle.Handle.{Handle}
use Rattle.call_handles.specs.declared.handle.SqlStatement.{SqlStatement}
use Rattle.call_handles.specs.declared.owned.Owned.{Owned}
use Rattle.report_calls.specs.SqlCalls.{HasSql, IsNoSql}

-- ---- the handle

-- the same text and parameters
abbrev pub statement_held : Statement → SqlStatement
statement_held s = record { text = s.text; parameters = s.parameters }

-- the same statements, in that dialect
abbrev pub conditions_held : Dialect → Conditions → ConditionsHandle
conditions_held dialect conditions = record {
  dialect = dialect;
  outcome = statement_held conditions.outcome;
  keep = statement_held conditions.keep;
  fault = option_map statement_held conditions.fault;
}

-- the handle has these
abbrev pub HoldsConditions : ConditionsHandle → Handle → Type 0
HoldsConditions held (Handle.Conditions made) = made.value ≡ held
HoldsConditions held handle = ⊥

-- conditions of the filter, by a form and lines about the table
pub record IsSqlHandle (given : Handle) (form : ℕ) (how : List ℕ) (made : Handle) : Type 0 where
  pub dialect : Dialect
  pub conditions : Conditions
  pub right : HasSql given form how dialect conditions
  pub holds : HoldsConditions (conditions_held dialect conditions) made

abbrev pub MakesSql : Handle → ℕ → List ℕ → Owned → Answer → ℕ → Type 0
MakesSql filter form how made = Makes (IsSqlHandle filter form how) (IsNoSql filter form how) made.value

-- ---- what is shown of one

-- a text with a kind and a number
pub record Shown : Type 0 where
  pub kind : ℕ
  pub number : ℕ
  pub text : List ℕ

-- it is written whole and reported, or how long it is; a fault is reported, and nothing written
abbrev pub WritesShown : Result Shown Fault → List ℕ → List ℕ → Answer → ℕ → Type 0
WritesShown (Ok shown) old new answer status =
    (IsWritten shown.text old new × (status ≡ 0)
    × (answer ≡ record empty_answer { verdict = shown.kind; number = shown.number; length = length shown.text }))
    ⊎ (IsTooSmall shown.text old new × IsReported (Fault.TooSmall (length shown.text)) answer status)
WritesShown (Err fault) old new answer status = (new ≡ old) × IsReported fault answer status

-- ---- its statements

-- the statement of a number: the outcome, what is kept, or the fault where a row can have one
abbrev pub statement_numbered : ConditionsHandle → ℕ → Option SqlStatement
statement_numbered held number =
    cond (eqb number 0) (Some held.outcome)
    (cond (eqb number 1) (Some held.keep)
    (cond (eqb number 2) held.fault None))

-- its text, and how many parameters it has
abbrev pub statement_shown : SqlStatement → Shown
statement_shown s = record { kind = 0; number = length s.parameters.items; text = string_bytes s.text }

abbrev pub shown_or_unknown : Option SqlStatement → Result Shown Fault
shown_or_unknown (Some s) = Ok (statement_shown s)
shown_or_unknown None = Err Fault.UnknownNumber

abbrev pub statement_in : Handle → ℕ → Result Shown Fault
statement_in (Handle.Conditions held) number = shown_or_unknown (statement_numbered held.value number)
statement_in handle number = Err Fault.OtherKind

abbrev pub ReportsStatement : Handle → ℕ → List ℕ → List ℕ → Answer → ℕ → Type 0
ReportsStatement conditions number = WritesShown (statement_in conditions number)

-- ---- the values of its parameters

-- the parameter at an index
abbrev pub parameter_at : ConditionsHandle → ℕ → ℕ → Option Parameter
parameter_at held number index =
    option_and_then (λ s. slice_get s.parameters.items index) (statement_numbered held number)

-- whole numbers, texts and instants
abbrev pub kind_number : Parameter → ℕ
kind_number (Parameter.Whole n) = 0
kind_number (Parameter.Text text) = 1
kind_number (Parameter.Instant n) = 2

-- a whole number in two's complement; 0 of the others
abbrev pub whole_bits : Parameter → ℕ
whole_bits (Parameter.Whole n) = cast_unsigned w64 n
whole_bits (Parameter.Text text) = 0
whole_bits (Parameter.Instant n) = 0

-- the text is what the engine is given
abbrev pub value_shown : Dialect → Parameter → Shown
value_shown dialect p = record { kind = kind_number p; number = whole_bits p; text = given_text dialect p }

abbrev pub IsValueIn : Handle → ℕ → ℕ → Shown → Type 0
IsValueIn (Handle.Conditions held) number index shown =
    IsSomeAnd (parameter_at held.value number index) (λ p. shown ≡ value_shown held.value.dialect p)
IsValueIn handle number index shown = ⊥

-- why there is none: no such statement or index, or out of memory for one that is there
abbrev pub IsNoValue : Handle → ℕ → ℕ → Fault → Type 0
IsNoValue given number index Fault.OtherKind = ¬ IsConditionsKind given
IsNoValue (Handle.Conditions held) number index Fault.UnknownNumber = parameter_at held.value number index ≡ None
IsNoValue (Handle.Conditions held) number index Fault.Memory = IsTrue (is_some (parameter_at held.value number index))
IsNoValue given number index fault = ⊥

pub record ReportsValue
    (given : Handle) (number index : ℕ) (old new : List ℕ) (answer : Answer) (status : ℕ) : Type 0 where
  pub outcome : Result Shown Fault
  pub right : MatchResult outcome (IsValueIn given number index) (IsNoValue given number index)
  pub writes : WritesShown outcome old new answer status
