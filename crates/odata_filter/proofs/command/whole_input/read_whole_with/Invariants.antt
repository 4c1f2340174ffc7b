-- What the reader gave so far are the bytes, each read did its work, and there is room for one read.
use Rattle.std.proofs.Common.{◌-◌, ◌^◌, ◌<◌, ◌≤◌, length, vec_len}
use Rattle.std.specs.Io.KnownBytes.{Consumes}
use Rattle.line_filter.specs.CallLogs.{StaysWell}
use Rattle.odata_filter.proofs.command.whole_input.read_whole_with.Given as goal

abbrev pub invariant-loop-count : goal.invariant-loop-count
invariant-loop-count g l = (0 < length l.buffer.items) × (length l.buffer.items ≤ 65536)
    × Consumes (g.R.Read.remaining l.fn.reader) (g.R.Read.remaining l.reader) l.bytes.items
    × StaysWell (g.S.Reads.calls l.fn.reader) (g.S.Reads.calls l.reader)

abbrev pub decreases-loop-count : goal.decreases-loop-count
decreases-loop-count g l = 2 ^ 63 - vec_len l.bytes
