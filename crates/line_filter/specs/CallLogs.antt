-- What a device's log of its calls becomes with one more call, and what it says of a run. A call is a read, a write or a
-- flush.
use Rattle.std.specs.Prelude.{◌≡◌, ℕ, List, Option}
use Rattle.std.specs.Io.KnownBytes.{IsAtEnd}
use Rattle.line_filter.specs.declared.call_log.CallLog.{CallLog}

-- the log after one more call, which did its work and was no flush
abbrev pub after_work : CallLog → CallLog
after_work CallLog.Unlogged = CallLog.Unlogged
after_work CallLog.Unfailing = CallLog.Unfailing
after_work CallLog.Well = CallLog.Well
after_work CallLog.Flushed = CallLog.After
after_work CallLog.Failed = CallLog.After
after_work CallLog.After = CallLog.After

-- the log after one more call, a flush that did its work
abbrev pub after_flush : CallLog → CallLog
after_flush CallLog.Unlogged = CallLog.Unlogged
after_flush CallLog.Unfailing = CallLog.Unfailing
after_flush CallLog.Well = CallLog.Flushed
after_flush CallLog.Flushed = CallLog.After
after_flush CallLog.Failed = CallLog.After
after_flush CallLog.After = CallLog.After

-- the log after one more call, which failed; a device that never fails has no such call, since its log would change
abbrev pub after_failure : CallLog → CallLog
after_failure CallLog.Unlogged = CallLog.Unlogged
after_failure CallLog.Unfailing = CallLog.Failed
after_failure CallLog.Well = CallLog.Failed
after_failure CallLog.Flushed = CallLog.After
after_failure CallLog.Failed = CallLog.After
after_failure CallLog.After = CallLog.After

-- as far as the log says, each call did its work and none was a flush
abbrev pub IsWell : CallLog → Type 0
IsWell CallLog.Unlogged = Unit {0}
IsWell CallLog.Unfailing = Unit {0}
IsWell CallLog.Well = Unit {0}
IsWell CallLog.Flushed = ⊥
IsWell CallLog.Failed = ⊥
IsWell CallLog.After = ⊥

-- Each call of a run did its work, and none was a flush.
pub record StaysWell (old new : CallLog) : Type 0 where
  pub same : IsWell old → new ≡ old

-- A run flushed once, by its last call, and each call did its work.
pub record FlushesLast (old new : CallLog) : Type 0 where
  pub flushed : IsWell old → new ≡ after_flush old

-- The last call of a run failed; each call before it did its work, and none was a flush.
pub record FailsLast (old new : CallLog) : Type 0 where
  pub failed : IsWell old → new ≡ after_failure old

-- no call of such a device ever fails: each of its states reports so
abbrev pub NeverFails : {D : Type 0} → (D → CallLog) → Type 0
NeverFails calls = (device : _) → calls device ≡ CallLog.Unfailing

-- a call of such a reader fails only where no byte is left of it
abbrev pub FailsOnlyAtEnd : {R : Type 0} → (R → CallLog) → (R → Option (List ℕ)) → Type 0
FailsOnlyAtEnd calls remaining = (reader : _) → calls reader ≡ CallLog.Failed → IsAtEnd (remaining reader)
