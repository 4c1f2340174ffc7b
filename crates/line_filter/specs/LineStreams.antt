-- What a run over the lines of a reader says of its devices: the line that did not come, and which calls were made.
use Rattle.std.specs.Prelude.{◌≡◌, ◌≢◌, ℕ, ◌+◌, ◌≤◌, List, ◌++◌, length, All, Option, Some, IfSome, ◌⊎◌}
use Rattle.line_filter.specs.declared.call_log.CallLog.{CallLog}
use Rattle.line_filter.specs.declared.line_reader.Course.{Course}
use Rattle.line_filter.specs.declared.line_reader.LineFault.{LineFault}
use Rattle.line_filter.specs.declared.run_stop.RunStop.{RunStop}
use Rattle.line_filter.specs.declared.tally.Tally.{Tally}
use Rattle.line_filter.specs.CallLogs.{StaysWell, FailsLast}
use Rattle.line_filter.specs.Kept.{Passes}
use Rattle.line_filter.specs.LineItems.{LineJudge, line_sieve}
use Rattle.line_filter.specs.Lines.{lines_of, longest_line, text_of_lines}
use Rattle.line_filter.specs.LineSource.{LineSource}

-- The line of this number did not come. What came of the bytes are the lines before it, each with its LF, and what
-- waits, which has none and is not too long; the reader still has the rest. None of those lines is at fault, and the
-- text is that of the kept ones.
pub record LacksLine {F : Type 0}
    (judge : LineJudge F) (bytes waiting : List ℕ) (known : Option (List ℕ)) (text : List ℕ) (number : ℕ) : Type 0 where
  pub before : List (List ℕ)
  pub rest : List ℕ
  pub tally : Tally
  pub left : known ≡ Some rest
  pub came : bytes ≡ text_of_lines before ++ (waiting ++ rest)
  pub lines : lines_of bytes ≡ before ++ lines_of (waiting ++ rest)
  pub unended : All (λ b. b ≢ 10) waiting
  pub short : length waiting ≤ longest_line
  pub counted : number ≡ length before + 1
  pub passes : Passes (line_sieve judge) before text tally

-- each read of a run did its work
abbrev pub ReadWell : {R : Type 0} → (R → CallLog) → LineSource R → LineSource R → Type 0
ReadWell calls old new = StaysWell (calls old.reader) (calls new.reader)

-- as many bytes were read as may be, so the reader had no fewer
abbrev pub IsReadOut : {R : Type 0} → (R → Option (List ℕ)) → LineSource R → LineSource R → Type 0
IsReadOut remaining old new = (new.unread ≡ 0) × IfSome (remaining old.reader) (λ bytes. old.unread ≤ length bytes)

-- Why no more was read: the last read failed; or each did its work, and as many bytes were read as may be, or it had
-- been reported before.
abbrev pub WhyUnread : {R : Type 0} → (R → CallLog) → (R → Option (List ℕ)) → LineSource R → LineSource R → Type 0
WhyUnread calls remaining old new =
    FailsLast (calls old.reader) (calls new.reader)
    ⊎ (ReadWell calls old new × (IsReadOut remaining old new ⊎ (old.course ≡ Course.Failed LineFault.Read)))

-- which reads a run made before this stop: a stop for a line that did not come says why, and before any other each did
-- its work
abbrev pub ReadsUntil :
    {R F : Type 0} → (R → CallLog) → (R → Option (List ℕ)) → LineSource R → LineSource R → RunStop F → Type 0
ReadsUntil calls remaining old new (RunStop.Read line) = WhyUnread calls remaining old new
ReadsUntil calls remaining old new (RunStop.Fault line fault) = ReadWell calls old new
ReadsUntil calls remaining old new (RunStop.TooLong line) = ReadWell calls old new
ReadsUntil calls remaining old new RunStop.Write = ReadWell calls old new
ReadsUntil calls remaining old new (RunStop.Memory line) = ReadWell calls old new

-- which writes a run made before this stop: the last one failed, or each did its work and none was a flush
abbrev pub WritesUntil : {F : Type 0} → CallLog → CallLog → RunStop F → Type 0
WritesUntil old new RunStop.Write = FailsLast old new
WritesUntil old new (RunStop.Fault line fault) = StaysWell old new
WritesUntil old new (RunStop.TooLong line) = StaysWell old new
WritesUntil old new (RunStop.Read line) = StaysWell old new
WritesUntil old new (RunStop.Memory line) = StaysWell old new
