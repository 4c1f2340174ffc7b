-- What a fault of a run says of its devices, by the stop that it reports.
use Rattle.std.proofs.Common.{◌≡◌, ◌≢◌, ◌<◌, ◌≤◌, ◌-◌, ◌^◌, ℕ, List, [], ◌++◌, length, Option, Some, None, Result, Err, IfSome, inl, inr, refl, sym, ◌∙◌, subst, arith}
use Rattle.std.specs.Prelude.{IfErr, MatchResult}
use Rattle.std.specs.Io.KnownBytes.{IsAtEnd}
use Rattle.edm_values.specs.MomentParts.{MomentParts}
use Rattle.odata_checked_filter.specs.Filter.{Filter}
use Rattle.row_judges.specs.RowJudgment.{JudgesRow}
use Rattle.line_filter.specs.Growth.{Writes}
use Rattle.line_filter.specs.Lines.{lines_of, text_of_lines}
use Rattle.line_filter.specs.declared.tally.Tally.{Tally}
use Rattle.line_filter.specs.declared.call_log.CallLog.{CallLog}
use Rattle.line_filter.specs.CallLogs.{FailsLast, FailsOnlyAtEnd, FlushesLast, NeverFails, StaysWell}
use Rattle.line_filter.specs.LineSource.{LineSource, left_of}
use Rattle.line_filter.specs.LineStreams.{LacksLine, ReadsUntil, WhyUnread, WritesUntil}
use Rattle.line_filter.specs.declared.line_reader.Course.{Course}
use Rattle.line_filter.specs.declared.line_reader.LineFault.{LineFault}
use Rattle.line_filter.specs.declared.run_stop.RunStop.{RunStop}
use Rattle.row_judges.specs.declared.bad_row.BadRow.{BadRow}
use Rattle.filter_runs.specs.declared.run_fault.RunFault.{RunFault}
use Rattle.filter_runs.specs.private.Collection.{IsUnjudgedBy}
use Rattle.filter_runs.specs.DeviceFaults.{ReadsUntilFault, StopsLines, WritesUntilFault, line_after}
use Rattle.filter_runs.proofs.RowLemmas.LineFeeds.{line_after_lines}
use Rattle.filter_runs.specs.RunStops.{run_stop}

module _ {R : Type 0} (calls : R → CallLog) (remaining : R → Option (List ℕ)) (old new : LineSource R) where
  abbrev reads : RunStop BadRow → Type 0
  reads stop = ReadsUntil calls remaining old new stop

  pub reads_until_fault : (fault : RunFault) (stop : RunStop BadRow) → run_stop fault ≡ Some stop → ReadsUntil calls remaining old new stop → ReadsUntilFault calls remaining old new fault
  reads_until_fault (RunFault.Json line) stop reported until = let same : RunStop.Fault line BadRow.NotJson ≡ stop = cc in subst reads (sym same) until
  reads_until_fault (RunFault.Row line fault) stop reported until = let same : RunStop.Fault line (BadRow.NoEntity fault) ≡ stop = cc in subst reads (sym same) until
  reads_until_fault (RunFault.Arithmetic line fault) stop reported until = let same : RunStop.Fault line (BadRow.NoValue fault) ≡ stop = cc in subst reads (sym same) until
  reads_until_fault (RunFault.LineTooLong line) stop reported until = let same : RunStop.TooLong line ≡ stop = cc in subst reads (sym same) until
  reads_until_fault RunFault.NotACollection stop reported until = absurd cc
  reads_until_fault (RunFault.Read line) stop reported until = let same : RunStop.Read line ≡ stop = cc in subst reads (sym same) until
  reads_until_fault RunFault.Write stop reported until = let same : RunStop.Write ≡ stop = cc in subst reads (sym same) until
  reads_until_fault (RunFault.Memory line) stop reported until = let same : RunStop.Memory line ≡ stop = cc in subst reads (sym same) until

module _ (old new : CallLog) where
  abbrev writes : RunStop BadRow → Type 0
  writes stop = WritesUntil old new stop

  pub writes_until_fault : (fault : RunFault) (stop : RunStop BadRow) → run_stop fault ≡ Some stop → WritesUntil old new stop → WritesUntilFault old new fault
  writes_until_fault (RunFault.Json line) stop reported until = let same : RunStop.Fault line BadRow.NotJson ≡ stop = cc in subst writes (sym same) until
  writes_until_fault (RunFault.Row line fault) stop reported until = let same : RunStop.Fault line (BadRow.NoEntity fault) ≡ stop = cc in subst writes (sym same) until
  writes_until_fault (RunFault.Arithmetic line fault) stop reported until = let same : RunStop.Fault line (BadRow.NoValue fault) ≡ stop = cc in subst writes (sym same) until
  writes_until_fault (RunFault.LineTooLong line) stop reported until = let same : RunStop.TooLong line ≡ stop = cc in subst writes (sym same) until
  writes_until_fault RunFault.NotACollection stop reported until = absurd cc
  writes_until_fault (RunFault.Read line) stop reported until = let same : RunStop.Read line ≡ stop = cc in subst writes (sym same) until
  writes_until_fault RunFault.Write stop reported until = let same : RunStop.Write ≡ stop = cc in subst writes (sym same) until
  writes_until_fault (RunFault.Memory line) stop reported until = let same : RunStop.Memory line ≡ stop = cc in subst writes (sym same) until

-- the writer was not called
pub no_writes : (calls : CallLog) → StaysWell calls calls
no_writes calls = record { same = λ well. refl }

pub unjudged_writes : (document : List ℕ) (calls : CallLog) (fault : RunFault) → IsUnjudgedBy document fault → WritesUntilFault calls calls fault
unjudged_writes document calls RunFault.NotACollection is = no_writes calls
unjudged_writes document calls (RunFault.Memory line) is = no_writes calls
unjudged_writes document calls (RunFault.Json line) is = absurd is
unjudged_writes document calls (RunFault.Row line fault) is = absurd is
unjudged_writes document calls (RunFault.Arithmetic line fault) is = absurd is
unjudged_writes document calls (RunFault.LineTooLong line) is = absurd is
unjudged_writes document calls (RunFault.Read line) is = absurd is
unjudged_writes document calls RunFault.Write is = absurd is

-- ---- devices that never fail

pub unfailing_write : FailsLast CallLog.Unfailing CallLog.Unfailing → ⊥
unfailing_write last = let same : CallLog.Unfailing ≡ CallLog.Failed = last.failed tt in absurd cc

read_out : (known : Option (List ℕ)) (bytes : List ℕ) (most : ℕ) → known ≡ Some bytes → IfSome known (λ all. most ≤ length all) → most ≤ length bytes
read_out known bytes most is out = subst (λ k. IfSome k (λ all. most ≤ length all)) is out

pub unfailing_read : {R : Type 0} (remaining : R → Option (List ℕ)) (old new : LineSource R) (bytes : List ℕ) → WhyUnread (λ reader. CallLog.Unfailing) remaining old new
    → remaining old.reader ≡ Some bytes → length bytes < old.unread → old.course ≡ Course.Failed LineFault.Read
unfailing_read remaining old new bytes (inl last) known few = absurd (unfailing_write last)
unfailing_read remaining old new bytes (inr (stays, inl out)) known few = let most = read_out (remaining old.reader) bytes old.unread known out.1 in absurd (omega arith)
unfailing_read remaining old new bytes (inr (stays, inr reported)) known few = reported

-- ---- what the type of a device says of each of its states

module _ {W : Type 0} (calls : W → CallLog) (old new : W) where
  written_never : (answer : Result Tally RunFault) → MatchResult answer (λ tally. FlushesLast (calls old) (calls new)) (λ fault. WritesUntilFault (calls old) (calls new) fault) → NeverFails calls
      → answer ≡ Err RunFault.Write → ⊥
  written_never answer writes never is =
      let last : FailsLast (calls old) (calls new) = subst (λ a. MatchResult a (λ tally. FlushesLast (calls old) (calls new)) (λ fault. WritesUntilFault (calls old) (calls new) fault)) is writes in
      unfailing_write (subst (FailsLast CallLog.Unfailing) (never new) (subst (λ k. FailsLast k (calls new)) (never old) last))

  pub never_unwritten : (answer : Result Tally RunFault) → MatchResult answer (λ tally. FlushesLast (calls old) (calls new)) (λ fault. WritesUntilFault (calls old) (calls new) fault) → NeverFails calls
      → answer ≢ Err RunFault.Write
  never_unwritten answer writes never is = written_never answer writes never is

-- a run over the lines of a reader from its first byte on
module _ {R : Type 0} (calls : R → CallLog) (remaining : R → Option (List ℕ)) (reader : R) (old new : LineSource R) (answer : Result Tally RunFault) (same : old.reader ≡ reader) (most : old.unread ≡ 2 ^ 63 - 1) (fresh : old.course ≡ Course.Open)
    (reads : MatchResult answer (λ tally. StaysWell (calls old.reader) (calls new.reader)) (λ fault. ReadsUntilFault calls remaining old new fault)) where
  unread_why : (line : ℕ) → answer ≡ Err (RunFault.Read line) → WhyUnread calls remaining old new
  unread_why line is = subst (λ a. MatchResult a (λ tally. StaysWell (calls old.reader) (calls new.reader)) (λ fault. ReadsUntilFault calls remaining old new fault)) is reads

  -- the last read failed, where the reader has fewer bytes than may be read
  failed_last : (bytes : List ℕ) → remaining reader ≡ Some bytes → length bytes < 2 ^ 63 - 1 → WhyUnread calls remaining old new → FailsLast (calls reader) (calls new.reader)
  failed_last bytes known few (inl last) = subst (λ r. FailsLast (calls r) (calls new.reader)) same last
  failed_last bytes known few (inr (stays, inl out)) =
      let all = subst (λ r. IfSome (remaining r) (λ all. old.unread ≤ length all)) same out.1 in
      let much = read_out (remaining reader) bytes old.unread known all in absurd (omega (arith, much, most, few))
  failed_last bytes known few (inr (stays, inr reported)) = absurd cc

  unread_at : (known : Option (List ℕ)) → remaining reader ≡ known → NeverFails calls → IfSome known (λ bytes. length bytes < 2 ^ 63 - 1 → (line : ℕ) → answer ≢ Err (RunFault.Read line))
  unread_at None known never = tt
  unread_at (Some bytes) known never = λ few line is.
      let last = failed_last bytes known few (unread_why line is) in
      unfailing_write (subst (FailsLast CallLog.Unfailing) (never new.reader) (subst (λ k. FailsLast k (calls new.reader)) (never reader) last))

  pub never_unread : NeverFails calls → IfSome (remaining reader) (λ bytes. length bytes < 2 ^ 63 - 1 → (line : ℕ) → answer ≢ Err (RunFault.Read line))
  never_unread never = unread_at (remaining reader) refl never

  module _ (filter : Filter) (now : MomentParts) (u v : Option (List ℕ)) where
    abbrev Stopped : List ℕ → RunFault → Type 0
    Stopped bytes fault = Writes u v (λ text. StopsLines filter now bytes new.waiting (remaining new.reader) text fault)

    read_all : (bytes text : List ℕ) (line : ℕ) → calls new.reader ≡ CallLog.Failed → FailsOnlyAtEnd calls remaining → LacksLine (JudgesRow filter now) bytes new.waiting (remaining new.reader) text line → line ≡ line_after bytes
    read_all bytes text line failed at_end lacks =
        let none : lacks.rest ≡ [] = subst IsAtEnd lacks.left (at_end new.reader failed) in
        let came = subst (λ (rest : List ℕ). bytes ≡ text_of_lines lacks.before ++ (new.waiting ++ rest)) none lacks.came in
        lacks.counted ∙ sym (line_after_lines bytes new.waiting lacks.before (lines_of (new.waiting ++ lacks.rest)) came lacks.lines lacks.unended)

    line_at : (known : Option (List ℕ)) → remaining reader ≡ known → IfErr answer (λ fault. IfSome known (λ bytes. Stopped bytes fault)) → FailsOnlyAtEnd calls remaining → calls reader ≡ CallLog.Well
        → IfSome known (λ bytes. length bytes < 2 ^ 63 - 1 → (line : ℕ) → answer ≡ Err (RunFault.Read line) → line ≡ line_after bytes)
    line_at None known stops at_end well = tt
    line_at (Some bytes) known stops at_end well = λ few line is.
        let (text, wrote, lacks) = subst (λ a. IfErr a (λ fault. Stopped bytes fault)) is stops in
        let last = subst (λ k. FailsLast k (calls new.reader)) well (failed_last bytes known few (unread_why line is)) in
        read_all bytes text line (last.failed tt) at_end lacks

    pub read_at_end : left_of remaining old ≡ remaining reader → IfErr answer (λ fault. IfSome (left_of remaining old) (λ bytes. Stopped bytes fault)) → FailsOnlyAtEnd calls remaining → calls reader ≡ CallLog.Well
        → IfSome (remaining reader) (λ bytes. length bytes < 2 ^ 63 - 1 → (line : ℕ) → answer ≡ Err (RunFault.Read line) → line ≡ line_after bytes)
    read_at_end left stops = line_at (remaining reader) refl (subst (λ known. IfErr answer (λ fault. IfSome known (λ bytes. Stopped bytes fault))) left stops)
