-- The lines so far passed, and there are no more of them than bytes. The judge still says the same.
use Rattle.std.proofs.Common.{◌+◌, ◌<◌, ◌≤◌, [], Some, length}
use Rattle.line_filter.specs.LineItems.{SaysTheSame}
use Rattle.line_filter.proofs.LineLaws.Walked.{HasPassed}
use Rattle.line_filter.proofs.lines_in_memory.filter_bytes.Given as goal

abbrev pub invariant-loop-rest : goal.invariant-loop-rest
invariant-loop-rest g l = (l.lines + length l.rest ≤ length l.bytes)
    × SaysTheSame (g.J.Judge.says l.initial.judge) (g.J.Judge.says l.judge)
    × HasPassed (g.J.Judge.says l.initial.judge) l.bytes l.rest (0 < length l.rest) (Some l.initial.out.items) (Some l.out.items) [] l.lines l.tally

abbrev pub decreases-loop-rest : goal.decreases-loop-rest
decreases-loop-rest g l = length l.rest
