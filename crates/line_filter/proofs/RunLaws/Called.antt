-- Which calls of its devices a run made by its end.
use Rattle.std.proofs.Common.{◌≡◌, ℕ, List, Option, Result, Ok, Err, sym, subst}
use Rattle.std.specs.Prelude.{MatchResult, IfErr}
use Rattle.line_filter.specs.declared.call_log.CallLog.{CallLog}
use Rattle.line_filter.specs.declared.run_stop.RunStop.{RunStop}
use Rattle.line_filter.specs.declared.tally.Tally.{Tally}
use Rattle.line_filter.specs.CallLogs.{StaysWell, FlushesLast}
use Rattle.line_filter.specs.LineSource.{LineSource}
use Rattle.line_filter.specs.LineStreams.{ReadsUntil, WritesUntil}
use Rattle.line_filter.specs.declared.line_reader.Course.{Course}
use Rattle.line_filter.specs.declared.line_reader.LineFault.{LineFault}
use Rattle.line_filter.specs.private.Reading.{ReadsOn}
use Rattle.line_filter.specs.Kept.{IsOfItem}
use Rattle.line_filter.specs.private.Walk.{Closes, Ends, IsUnwritten, fault_stop}
use Rattle.line_filter.proofs.DeviceLaws.Called.{stays_well_trans, fails_last_after, flushes_last_after}

pub IsOfItem-unwritten : {F : Type 0} (stop : RunStop F) → IsOfItem stop → IsUnwritten stop
IsOfItem-unwritten (RunStop.Fault line fault) of_item = tt
IsOfItem-unwritten (RunStop.TooLong line) of_item = tt
IsOfItem-unwritten (RunStop.Read line) of_item = absurd of_item
IsOfItem-unwritten RunStop.Write of_item = absurd of_item
IsOfItem-unwritten (RunStop.Memory line) of_item = tt

pub IsOfItem-all : {F : Type 0} (outcome : Result Tally (RunStop F)) → IfErr outcome IsOfItem → IfErr outcome IsUnwritten
IsOfItem-all (Ok tally) of_item = tt
IsOfItem-all (Err stop) of_item = IsOfItem-unwritten stop of_item

-- ---- the writer's

module _ {F : Type 0} (a b c : CallLog) (first : StaysWell a b) where
  unwritten_until : (stop : RunStop F) → IsUnwritten stop → StaysWell b c → WritesUntil a c stop
  unwritten_until (RunStop.Fault line fault) unwritten stays = stays_well_trans a b c first stays
  unwritten_until (RunStop.TooLong line) unwritten stays = stays_well_trans a b c first stays
  unwritten_until (RunStop.Read line) unwritten stays = stays_well_trans a b c first stays
  unwritten_until RunStop.Write unwritten stays = absurd unwritten
  unwritten_until (RunStop.Memory line) unwritten stays = stays_well_trans a b c first stays

  pub Closes-written : (outcome answer : Result Tally (RunStop F)) → IfErr outcome IsUnwritten → Closes outcome answer b c → Ends outcome answer
      → MatchResult answer (λ tally. FlushesLast a c) (λ s. WritesUntil a c s)
  Closes-written (Ok all) (Ok tally) unwritten calls ends = flushes_last_after a b c first calls
  Closes-written (Ok all) (Err s) unwritten calls ends = subst (λ (t : RunStop F). WritesUntil a c t) (sym ends) (fails_last_after a b c first calls)
  Closes-written (Err stop) answer unwritten calls ends =
      subst (λ (r : Result Tally (RunStop F)). MatchResult r (λ tally. FlushesLast a c) (λ s. WritesUntil a c s)) (sym ends) (unwritten_until stop unwritten calls)

-- ---- the reader's

abbrev Stays : {R : Type 0} → (R → CallLog) → LineSource R → LineSource R → Type 0
Stays calls old new = StaysWell (calls old.reader) (calls new.reader)

module _ {R F : Type 0} (calls : R → CallLog) (remaining : R → Option (List ℕ)) (old new : LineSource R) where
  pub reads_of_item : (stop : RunStop F) → IsOfItem stop → Stays calls old new → ReadsUntil calls remaining old new stop
  reads_of_item (RunStop.Fault line fault) of_item stays = stays
  reads_of_item (RunStop.TooLong line) of_item stays = stays
  reads_of_item (RunStop.Read line) of_item stays = absurd of_item
  reads_of_item RunStop.Write of_item stays = absurd of_item
  reads_of_item (RunStop.Memory line) of_item stays = stays

  pub Ends-read : (outcome answer : Result Tally (RunStop F)) → MatchResult outcome (λ tally. Stays calls old new) (λ s. ReadsUntil calls remaining old new s) → Ends outcome answer
      → MatchResult answer (λ tally. Stays calls old new) (λ s. ReadsUntil calls remaining old new s)
  Ends-read (Ok all) (Ok tally) reads ends = reads
  Ends-read (Ok all) (Err s) reads ends = subst (λ (t : RunStop F). ReadsUntil calls remaining old new t) (sym ends) reads
  Ends-read (Err stop) answer reads ends =
      subst (λ (r : Result Tally (RunStop F)). MatchResult r (λ tally. Stays calls old new) (λ s. ReadsUntil calls remaining old new s)) (sym ends) reads

-- a read that is reported as failed
pub reads_reported : {R : Type 0} (F : Type 0) (calls : R → CallLog) (remaining : R → Option (List ℕ)) (old new : LineSource R) (fault : LineFault) (line : ℕ)
    → new.course ≡ Course.Failed fault → ReadsOn calls remaining old new → ReadsUntil {F = F} calls remaining old new (fault_stop fault line)
reads_reported F calls remaining old new LineFault.TooLong line reported reads = reads.well (λ is. cc)
reads_reported F calls remaining old new LineFault.Read line reported reads = reads.unread reported
reads_reported F calls remaining old new LineFault.Memory line reported reads = reads.well (λ is. cc)
