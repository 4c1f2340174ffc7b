-- How a text is written into the caller's buffer.
use Rattle.std.specs.Prelude.{◌≡◌, ◌<◌, ◌≤◌, ◌⊎◌, ◌++◌, ℕ, List, drop, length, Result, Ok, Err, MatchResult}
use Rattle.call_handles.specs.Answers.{empty_answer}
use Rattle.call_handles.specs.Outcomes.{IsReported}
use Rattle.call_handles.specs.declared.answer.Answer.{Answer}
use Rattle.call_handles.specs.declared.call_fault.Fault.{Fault}

-- the text stands at the front of the buffer, and what follows it is as it was
abbrev pub IsWritten : List ℕ → List ℕ → List ℕ → Type 0
IsWritten text old new = (length text ≤ length old) × (new ≡ text ++ drop (length text) old)

-- the buffer is smaller than the text, and as it was
abbrev pub IsTooSmall : List ℕ → List ℕ → List ℕ → Type 0
IsTooSmall text old new = (length old < length text) × (new ≡ old)

-- a text is written whole and its length reported, or how long it is; a fault is reported, and nothing written
abbrev pub Writes : Result (List ℕ) Fault → List ℕ → List ℕ → Answer → ℕ → Type 0
Writes (Ok text) old new answer status =
    (IsWritten text old new × (answer ≡ record empty_answer { length = length text }) × (status ≡ 0))
    ⊎ (IsTooSmall text old new × IsReported (Fault.TooSmall (length text)) answer status)
Writes (Err fault) old new answer status = (new ≡ old) × IsReported fault answer status

-- the text is right, and so is how it is written
pub record Reports
    (Right : List ℕ → Type 0) (Wrong : Fault → Type 0) (old new : List ℕ) (answer : Answer) (status : ℕ)
    : Type 0 where
  pub outcome : Result (List ℕ) Fault
  pub right : MatchResult outcome Right Wrong
  pub writes : Writes outcome old new answer status
