-- The lines so far passed, there are no more of them than bytes, and no more rows or kept rows than lines. The judge
-- still says the same, and the calls of both devices did their work.
use Rattle.std.proofs.Common.{◌≡◌, ◌+◌, ◌≤◌, []}
use Rattle.line_filter.specs.LineItems.{SaysTheSame}
use Rattle.line_filter.specs.LineSource.{left_of, IsOver}
use Rattle.line_filter.specs.CallLogs.{StaysWell}
use Rattle.line_filter.specs.private.Giving.{bytes_to_come}
use Rattle.line_filter.specs.private.Reading.{IsUnread, ReadsWell}
use Rattle.line_filter.proofs.RunLaws.Streams.{HasCome}
use Rattle.line_filter.proofs.stream.judge_stream.Given as goal

abbrev pub invariant-loop-fault : goal.invariant-loop-fault
invariant-loop-fault g l = (l.lines + bytes_to_come l.reader ≤ bytes_to_come l.initial.reader)
    × (l.tally.rows ≤ l.lines) × (l.tally.kept ≤ l.lines)
    × SaysTheSame (g.J.Judge.says l.initial.judge) (g.J.Judge.says l.judge)
    × HasCome (g.J.Judge.says l.initial.judge) (left_of g.R.Read.remaining l.initial.reader) (left_of g.R.Read.remaining l.reader) (IsOver l.reader → ⊥)
    (g.T.Writes.contents l.initial.out) (g.T.Writes.contents l.out) l.held.items l.lines l.tally
    × ReadsWell g.S.Reads.calls g.R.Read.remaining l.initial.reader l.reader
    × StaysWell (g.T.Writes.calls l.initial.out) (g.T.Writes.calls l.out)
    × (IsUnread l.reader → l.held.items ≡ [])

abbrev pub decreases-loop-fault : goal.decreases-loop-fault
decreases-loop-fault g l = bytes_to_come l.reader
