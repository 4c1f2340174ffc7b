-- What is left is left, only what was open was read, where no whole line waited, and what was held back is written or
-- held back. The calls did their work, but for a read that is reported, and nothing is held back then.
use Rattle.std.proofs.Common.{◌≡◌, ◌⊎◌, []}
use Rattle.std.specs.Io.KnownBytes.{Keeps}
use Rattle.line_filter.specs.declared.line_reader.Course.{Course}
use Rattle.line_filter.specs.LineSource.{left_of, IsNoWholeLine}
use Rattle.line_filter.specs.private.Giving.{bytes_to_come, line_to_come}
use Rattle.line_filter.specs.CallLogs.{StaysWell}
use Rattle.line_filter.specs.private.HeldBack.{WritesBut}
use Rattle.line_filter.specs.private.Reading.{IsUnread, ReadsOn}
use Rattle.line_filter.proofs.stream.next_line.Given as goal

abbrev pub invariant-loop-next : goal.invariant-loop-next
invariant-loop-next g l = Keeps (left_of g.R.Read.remaining l.initial.reader) (left_of g.R.Read.remaining l.reader)
    × (bytes_to_come l.reader ≡ bytes_to_come l.initial.reader)
    × ((l.reader ≡ l.initial.reader) ⊎ (l.initial.reader.course ≡ Course.Open))
    × WritesBut (g.T.Writes.contents l.initial.out) (g.T.Writes.contents l.out) l.held.items l.initial.held.items
    × ReadsOn g.S.Reads.calls g.R.Read.remaining l.initial.reader l.reader
    × StaysWell (g.T.Writes.calls l.initial.out) (g.T.Writes.calls l.out)
    × (IsUnread l.reader → (IsUnread l.initial.reader → l.initial.held.items ≡ []) → l.held.items ≡ [])
    × (IsNoWholeLine l.reader.waiting → IsNoWholeLine l.initial.reader.waiting)

abbrev pub decreases-loop-next : goal.decreases-loop-next
decreases-loop-next g l = line_to_come l.reader
