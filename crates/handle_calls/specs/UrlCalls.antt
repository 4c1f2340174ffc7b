-- The result of checking the filter of a whole query.
use Rattle.std.specs.Prelude.{◌≡◌, ◌≢◌, ◌⊎◌, ℕ, List, length, Option, None, Some, Result, Ok, Err, MatchResult}
use Rattle.odata_queries.specs.Find.{FoundModel, IsFindFault, IsFoundIn}
use Rattle.odata_queries.specs.declared.find_fault.FindFault.{FindFault}
use Rattle.handle_calls.specs.FilterCalls.{IsFilterIn, IsNoFilter}
use Rattle.call_handles.specs.Kinds.{IsType}
use Rattle.call_handles.specs.Outcomes.{IsReported, Makes}
use Rattle.call_handles.specs.Texts.{IsTooSmall, IsWritten}
use Rattle.call_handles.specs.declared.answer.Answer.{Answer}
use Rattle.call_handles.specs.declared.call_fault.Fault.{Fault}
use Rattle.call_handles.specs.declared.handle.Handle.{Handle}
use Rattle.call_handles.specs.declared.owned.Owned.{Owned}

-- the query has this filter, and the handle is a type that it can be checked for
abbrev pub IsFoundFor : Handle → List ℕ → FoundModel → Type 0
IsFoundFor (Handle.Type held) query found = IsFoundIn query (Some found)
IsFoundFor given query found = ⊥

-- or why there is none
abbrev pub IsNotFound : Handle → List ℕ → Fault → Type 0
IsNotFound given query Fault.OtherKind = ¬ IsType given
IsNotFound (Handle.Type held) query Fault.NoFilter = IsFoundIn query None
IsNotFound (Handle.Type held) query Fault.Memory = Unit {0}
IsNotFound (Handle.Type held) query (Fault.Whole fault) = (fault ≢ FindFault.Memory) × IsFindFault query fault
IsNotFound given query fault = ⊥

-- added to an answer: the length of the filter's text, which is written where the buffer takes it, and where its option
-- and its value stand
pub record ReportsFound (found : FoundModel) (old new : List ℕ) (plain answer : Answer) : Type 0 where
  pub text : IsWritten found.text old new ⊎ IsTooSmall found.text old new
  pub reported : answer ≡ record plain {
    length = length found.text;
    piece_start = found.piece.start;
    piece_stop = found.piece.stop;
    value_start = found.value.start;
    value_stop = found.value.stop;
  }

-- the filter that was found is checked, and reported with what becomes of that
pub record ChecksFound
    (given : Handle) (found : FoundModel) (old new : List ℕ) (made : Option Handle) (answer : Answer) (status : ℕ)
    : Type 0 where
  pub plain : Answer
  pub makes : Makes (IsFilterIn given found.text) (IsNoFilter given found.text) made plain status
  pub reports : ReportsFound found old new plain answer

-- nothing is written where none was found
abbrev pub ChecksFoundOrNot :
    Handle → Result FoundModel Fault → List ℕ → List ℕ → Option Handle → Answer → ℕ → Type 0
ChecksFoundOrNot given (Ok found) old new made answer status = ChecksFound given found old new made answer status
ChecksFoundOrNot given (Err fault) old new made answer status =
    (new ≡ old) × (made ≡ None) × IsReported fault answer status

-- checking the filter of a whole query
pub record ChecksUrl
    (given : Handle) (query old new : List ℕ) (made : Owned) (answer : Answer) (status : ℕ) : Type 0 where
  pub outcome : Result FoundModel Fault
  pub right : MatchResult outcome (IsFoundFor given query) (IsNotFound given query)
  pub checks : ChecksFoundOrNot given outcome old new made.value answer status
