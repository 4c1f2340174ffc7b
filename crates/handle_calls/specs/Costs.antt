-- What a filter costs, and what it reads.
use Rattle.std.specs.Prelude.{◌≡◌, ◌++◌, ◌⊎◌, ℕ, List, [], ◌∷◌, length, Result, Ok, Err, MatchResult}
use Rattle.std.specs.List.{flat_map}
use Rattle.odata_checked_filter.specs.Filter.{Filter, tree_of_filter}
use Rattle.odata_checked_filter.specs.LambdaDepth.{lambda_depth}
use Rattle.odata_checked_filter.specs.PropertyPaths.{property_paths}
use Rattle.odata_signatures.specs.PreOrder.{pre_order}
use Rattle.call_handles.specs.Answers.{empty_answer}
use Rattle.handle_calls.specs.FilterCalls.{IsNoText}
use Rattle.call_handles.specs.Outcomes.{IsReported}
use Rattle.call_handles.specs.Texts.{IsTooSmall, IsWritten}
use Rattle.call_handles.specs.declared.answer.Answer.{Answer}
use Rattle.call_handles.specs.declared.call_fault.Fault.{Fault}
use Rattle.call_handles.specs.declared.handle.Handle.{Handle}

-- a number is reported, and nothing else
abbrev pub ReportsNumber : ℕ → Answer → ℕ → Type 0
ReportsNumber number answer status = (answer ≡ record empty_answer { number = number }) × (status ≡ 0)

-- how many nodes the filter's tree has
abbrev pub ReportsNodeCount : Handle → Answer → ℕ → Type 0
ReportsNodeCount (Handle.Filter filter) answer status =
    ReportsNumber (length (pre_order (tree_of_filter filter))) answer status
ReportsNodeCount handle answer status = IsReported Fault.OtherKind answer status

-- how many lambda operators stand in one another
abbrev pub ReportsLambdaDepth : Handle → Answer → ℕ → Type 0
ReportsLambdaDepth (Handle.Filter filter) answer status =
    ReportsNumber (lambda_depth (tree_of_filter filter)) answer status
ReportsLambdaDepth handle answer status = IsReported Fault.OtherKind answer status

-- texts, each followed by a line feed
abbrev pub line_of : List ℕ → List ℕ
line_of text = text ++ 10 ∷ []

abbrev pub lines_of : List (List ℕ) → List ℕ
lines_of texts = flat_map line_of texts

-- the text has the paths of the properties that the filter reads, and the number is how many there are
abbrev pub ArePathsOf : Filter → ℕ → List ℕ → Type 0
ArePathsOf filter count text =
    (count ≡ length (property_paths (tree_of_filter filter)))
    × (text ≡ lines_of (property_paths (tree_of_filter filter)))

abbrev pub ArePaths : Handle → ℕ → List ℕ → Type 0
ArePaths (Handle.Filter filter) count text = ArePathsOf filter count text
ArePaths handle count text = ⊥

-- so many lines are written whole, and how many and how long they are is reported; or how long they are
abbrev pub ReportsLines : ℕ → List ℕ → List ℕ → List ℕ → Answer → ℕ → Type 0
ReportsLines count text old new answer status =
    (IsWritten text old new × (answer ≡ record empty_answer { number = count; length = length text }) × (status ≡ 0))
    ⊎ (IsTooSmall text old new × IsReported (Fault.TooSmall (length text)) answer status)

abbrev pub ReportsLinesOrFault : Result (ℕ × List ℕ) Fault → List ℕ → List ℕ → Answer → ℕ → Type 0
ReportsLinesOrFault (Ok lines) old new answer status = ReportsLines lines.0 lines.1 old new answer status
ReportsLinesOrFault (Err fault) old new answer status = (new ≡ old) × IsReported fault answer status

-- the paths of the properties that the filter reads
pub record ReportsPaths (filter : Handle) (old new : List ℕ) (answer : Answer) (status : ℕ) : Type 0 where
  pub outcome : Result (ℕ × List ℕ) Fault
  pub right : MatchResult outcome (λ lines. ArePaths filter lines.0 lines.1) (IsNoText filter)
  pub reports : ReportsLinesOrFault outcome old new answer status
