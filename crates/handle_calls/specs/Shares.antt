-- Another owner of what a handle stands for.
use Rattle.std.specs.Prelude.{◌≡◌, ℕ}
use Rattle.call_handles.specs.Kinds.{HasOneOwner}
use Rattle.call_handles.specs.Outcomes.{Makes}
use Rattle.call_handles.specs.declared.answer.Answer.{Answer}
use Rattle.call_handles.specs.declared.call_fault.Fault.{Fault}
use Rattle.call_handles.specs.declared.handle.Handle.{Handle}
use Rattle.call_handles.specs.declared.owned.Owned.{Owned}

-- a handle of the same schema, type or filter
abbrev pub IsSame : Handle → Handle → Type 0
IsSame (Handle.Schema given) (Handle.Schema made) = made.schema.value ≡ given.schema.value
IsSame (Handle.Type given) (Handle.Type made) = made ≡ given
IsSame (Handle.Filter given) (Handle.Filter made) = made ≡ given
IsSame given made = ⊥

-- why there is none: it has one owner, or out of memory
abbrev pub IsNotShared : Handle → Fault → Type 0
IsNotShared given Fault.OtherKind = HasOneOwner given
IsNotShared given Fault.Memory = Unit {0}
IsNotShared given fault = ⊥

-- such a handle is handed out
pub record Shares (given : Handle) (made : Owned) (status : ℕ) : Type 0 where
  pub answer : Answer
  pub makes : Makes (IsSame given) (IsNotShared given) made.value answer status
