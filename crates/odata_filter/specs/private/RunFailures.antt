-- The failures of a run. Private clauses alone cite these.
use Rattle.std.specs.Prelude.{◌≡◌, ◌⊎◌, ℕ, List, Option, None, Some, Result, Ok, Err, IfSome, IsSomeAnd, MatchOption}
use Rattle.std.specs.Io.KnownBytes.{Keeps}
use Rattle.edm_values.specs.MomentLiteral.{MomentValue}
use Rattle.edm_values.specs.MomentParts.{MomentParts}
use Rattle.line_filter.specs.Growth.{Writes, WritesFront}
use Rattle.command_plan.specs.declared.command_line.Verb.{Verb}
use Rattle.command_plan.specs.declared.command_line.Verb.TheVariants.{Filter as ByRows}
use Rattle.odata_checked_filter.specs.Calls.{UsesNow}
use Rattle.odata_checked_filter.specs.Filter.{Filter, tree_of_filter}
use Rattle.odata_filter.specs.Run.{IsFirstMoment, IsRefusedLine, HasNoFilter, HasNoOption, Streams, WroteNothing, OverRows, Status, StatusSays, status_number, complete, without_filter, without_plan, without_device, without_memory}
use Rattle.command_plan.specs.declared.command_line.Plan.{Plan}
use Rattle.odata_filter.specs.declared.command.failure.Failure.{Failure}
use Rattle.odata_filter.specs.declared.command.failure.Failure.TheVariants.{RowsFile, Rows}
use Rattle.filter_runs.specs.declared.run_fault.RunFault.{RunFault}
pub use Rattle.odata_filter.specs.FailureStatus.{status_of, status_of_query, status_of_refusal, status_of_rows, status_of_schema}

-- what a failure over the rows says of them and of what was written, by what a fault says of their bytes and of a text
abbrev pub StopsOver : (List ℕ → List ℕ → RunFault → Type 0) → Failure → Streams → Type 0
StopsOver said (Rows fault) streams = OverRows streams (λ bytes text. said bytes text fault)
StopsOver said (RowsFile name) streams = WroteNothing streams
StopsOver said other streams = ⊥

-- what the end of a run over rows says of them and of what was written: of a fault that, and without rows nothing
abbrev pub EndsOver : (List ℕ → List ℕ → RunFault → Type 0) → Option RunFault → Streams → Type 0
EndsOver said (Some fault) streams = OverRows streams (λ bytes text. said bytes text fault)
EndsOver said None streams = WroteNothing streams

-- how a run ends so
abbrev pub status_of_end : Option RunFault → Status
status_of_end (Some fault) = status_of_rows fault
status_of_end None = without_device

-- what is known of bytes that were read whole
abbrev pub IsReadWhole : Option (Option (List ℕ)) → List ℕ → Type 0
IsReadWhole rows bytes = IsSomeAnd rows (λ known. IfSome known (λ all. bytes ≡ all))

-- what a failure says before it is reported: what its status says, but that at a refusal nothing was written yet
abbrev pub FailureSays : Status → Verb → Plan → List ℕ → Streams → Type 0
FailureSays without_filter verb plan document streams = HasNoFilter plan document × WroteNothing streams
FailureSays status verb plan document streams = StatusSays status verb plan document streams

-- what an answer says of the plan, of the rows and of what was written
abbrev pub AnswerSays : {X : Type 0} → Result X Failure → Verb → Plan → List ℕ → Streams → Type 0
AnswerSays (Ok done) = StatusSays complete
AnswerSays (Err failure) = FailureSays (status_of failure)

-- why a plan has no filter
abbrev pub LacksFilter : Status → Plan → List ℕ → Type 0
LacksFilter without_filter plan document = HasNoFilter plan document
LacksFilter without_plan plan document = HasNoOption plan document
LacksFilter without_memory plan document = Unit {0}
LacksFilter _ plan document = ⊥

-- what a failure to read or to write says: of a device or of memory
abbrev pub IsUnwritten : Status → Type 0
IsUnwritten without_device = Unit {0}
IsUnwritten without_memory = Unit {0}
IsUnwritten _ = ⊥

-- the moment that a plan gives, if it gives one
abbrev pub GivesMoment : Plan → Option MomentParts → Type 0
GivesMoment plan moment = MatchOption plan.now (moment ≡ None) (λ text. IsSomeAnd moment (MomentValue text.now))

-- the moment for a filter: the given one, or the first where none is given and the filter does not ask for it
abbrev pub IsMomentUnlessAsked : Filter → Option MomentParts → MomentParts → Type 0
IsMomentUnlessAsked filter given now =
    MatchOption given ((¬ UsesNow (tree_of_filter filter)) × IsFirstMoment now) (λ moment. now ≡ moment)

-- the verb reads no rows
abbrev pub ReadsNoRows : Verb → Type 0
ReadsNoRows ByRows = ⊥
ReadsNoRows verb = Unit {0}

-- a refusal is an answer of such a verb
pub record IsAnswerOf (verb : Verb) (status : Status) : Type 0 where
  pub reads_none : ReadsNoRows verb
  pub is_refusal : status ≡ without_filter

-- nothing was written, or a beginning of a text of which P holds
abbrev pub BeginsText : (List ℕ → Type 0) → Option (List ℕ) → Option (List ℕ) → Type 0
BeginsText P old new = Keeps old new ⊎ ((text : List ℕ) × P text × WritesFront old new text)

-- A refusal was an answer, and the program ends with this number: standard output took its line; or it did not, or
-- an allocation for the line failed.
abbrev pub IsAnswered : ℕ → Option (List ℕ) → Option (List ℕ) → Type 0
IsAnswered number old new =
    ((number ≡ 1) × Writes old new IsRefusedLine)
    ⊎ (((number ≡ 5) ⊎ (number ≡ 6)) × BeginsText IsRefusedLine old new)

-- A failure was reported, and the program ends with this number: as an answer, or else standard output stays as it is.
abbrev pub IsReported : ℕ → Status → Verb → Option (List ℕ) → Option (List ℕ) → Type 0
IsReported number status verb old new =
    (IsAnswerOf verb status × IsAnswered number old new)
    ⊎ ((¬ IsAnswerOf verb status) × (number ≡ status_number status) × Keeps old new)
