-- How the result of a call is reported: a handle that is made, or a fault.
use Rattle.std.specs.Prelude.{◌≡◌, ◌⊎◌, ℕ, Option, None, Some, Result, Ok, Err, MatchResult}
use Rattle.call_handles.specs.Answers.{empty_answer, fault_answer, fault_status}
use Rattle.call_handles.specs.declared.answer.Answer.{Answer}
use Rattle.call_handles.specs.declared.call_fault.Fault.{Fault}
use Rattle.call_handles.specs.declared.handle.Handle.{Handle}

-- the fault's status and numbers
abbrev pub IsReported : Fault → Answer → ℕ → Type 0
IsReported fault answer status = (answer ≡ fault_answer fault) × (status ≡ fault_status fault)

-- a handle is handed out with the status 0, or there was no memory for it; a fault is reported, and no handle handed
-- out
abbrev pub Gives : Result Handle Fault → Option Handle → Answer → ℕ → Type 0
Gives (Ok handle) made answer status =
    ((made ≡ Some handle) × (answer ≡ empty_answer) × (status ≡ 0))
    ⊎ ((made ≡ None) × IsReported Fault.Memory answer status)
Gives (Err fault) made answer status = (made ≡ None) × IsReported fault answer status

-- the outcome is right, and so is how it is reported
pub record Makes
    (Right : Handle → Type 0) (Wrong : Fault → Type 0) (made : Option Handle) (answer : Answer) (status : ℕ)
    : Type 0 where
  pub outcome : Result Handle Fault
  pub right : MatchResult outcome Right Wrong
  pub gives : Gives outcome made answer status
