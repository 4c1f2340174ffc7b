-- What a fault of a run over rows says of its devices.
use Rattle.std.specs.Prelude.{◌≡◌, ◌≢◌, ◌==◌, ◌≤◌, ℕ, ◌+◌, List, ◌++◌, All, Option, IsSomeAnd, count_by, length}
use Rattle.edm_values.specs.MomentParts.{MomentParts}
use Rattle.line_filter.specs.declared.call_log.CallLog.{CallLog}
use Rattle.line_filter.specs.declared.tally.Tally.{Tally}
use Rattle.line_filter.specs.CallLogs.{StaysWell, FailsLast}
use Rattle.line_filter.specs.Kept.{Passes, StopsWith}
use Rattle.line_filter.specs.LineItems.{line_sieve}
use Rattle.line_filter.specs.Lines.{lines_of, longest_line, text_of_lines}
use Rattle.line_filter.specs.LineSource.{LineSource}
use Rattle.line_filter.specs.LineStreams.{LacksLine, ReadWell, WhyUnread}
use Rattle.odata_checked_filter.specs.Filter.{Filter}
use Rattle.filter_runs.specs.declared.run_fault.RunFault.{RunFault}
use Rattle.row_judges.specs.RowJudgment.{JudgesRow, rows_of}
use Rattle.filter_runs.specs.RunStops.{run_stop}

-- the stop that a fault reports of the lines of a reader, of which this waits and which has that left; where a line did
-- not come, it is the line of that number
abbrev pub StopsLines : Filter → MomentParts → List ℕ → List ℕ → Option (List ℕ) → List ℕ → RunFault → Type 0
StopsLines filter now bytes waiting known text fault =
    IsSomeAnd (run_stop fault)
    (StopsWith (rows_of filter now bytes) (LacksLine (JudgesRow filter now) bytes waiting known) text)

-- A read of the line of this number failed. What came of the bytes are the lines before it, each with its LF, and then
-- the beginning of that line, which has none and is not too long; the rest was not read. None of those lines is at
-- fault, and the text is that of the kept ones.
pub record LacksRow (filter : Filter) (now : MomentParts) (bytes text : List ℕ) (line : ℕ) : Type 0 where
  pub before : List (List ℕ)
  pub begun : List ℕ
  pub rest : List ℕ
  pub tally : Tally
  pub came : bytes ≡ text_of_lines before ++ (begun ++ rest)
  pub lines : lines_of bytes ≡ before ++ lines_of (begun ++ rest)
  pub unended : All (λ b. b ≢ 10) begun
  pub short : length begun ≤ longest_line
  pub counted : line ≡ length before + 1
  pub passes : Passes (line_sieve (JudgesRow filter now)) before text tally

-- the line after so many LFs, counted from 1
abbrev pub line_after : List ℕ → ℕ
line_after bytes = count_by (λ b. b == 10) bytes + 1

-- which reads a run made before this fault: Read says why no more was read, and before any other each did its work
abbrev pub ReadsUntilFault :
    {R : Type 0} → (R → CallLog) → (R → Option (List ℕ)) → LineSource R → LineSource R → RunFault → Type 0
ReadsUntilFault calls remaining old new (RunFault.Read line) = WhyUnread calls remaining old new
ReadsUntilFault calls remaining old new (RunFault.Json line) = ReadWell calls old new
ReadsUntilFault calls remaining old new (RunFault.Row line fault) = ReadWell calls old new
ReadsUntilFault calls remaining old new (RunFault.Arithmetic line fault) = ReadWell calls old new
ReadsUntilFault calls remaining old new (RunFault.LineTooLong line) = ReadWell calls old new
ReadsUntilFault calls remaining old new RunFault.NotACollection = ReadWell calls old new
ReadsUntilFault calls remaining old new RunFault.Write = ReadWell calls old new
ReadsUntilFault calls remaining old new (RunFault.Memory line) = ReadWell calls old new

-- which calls of its writer a run made before this fault: at Write the last one failed, before any other each did its
-- work and none was a flush
abbrev pub WritesUntilFault : CallLog → CallLog → RunFault → Type 0
WritesUntilFault old new RunFault.Write = FailsLast old new
WritesUntilFault old new (RunFault.Json line) = StaysWell old new
WritesUntilFault old new (RunFault.Row line fault) = StaysWell old new
WritesUntilFault old new (RunFault.Arithmetic line fault) = StaysWell old new
WritesUntilFault old new (RunFault.LineTooLong line) = StaysWell old new
WritesUntilFault old new RunFault.NotACollection = StaysWell old new
WritesUntilFault old new (RunFault.Read line) = StaysWell old new
WritesUntilFault old new (RunFault.Memory line) = StaysWell old new
