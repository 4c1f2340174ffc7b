-- What is left is left, only what was open was read, and only where no whole line waited.
use Rattle.std.proofs.Common.{◌≡◌, ◌⊎◌}
use Rattle.std.specs.Io.KnownBytes.{Keeps}
use Rattle.line_filter.specs.declared.line_reader.Course.{Course}
use Rattle.line_filter.specs.LineSource.{left_of, IsNoWholeLine}
use Rattle.line_filter.specs.private.Giving.{bytes_to_come, line_to_come}
use Rattle.line_filter.proofs.line_reader.LineReader.advance.Given as goal

abbrev pub invariant-loop-next : goal.invariant-loop-next
invariant-loop-next g l = Keeps (left_of g.R.Read.remaining l.initial.self) (left_of g.R.Read.remaining l.self)
    × (bytes_to_come l.self ≡ bytes_to_come l.initial.self)
    × ((l.self ≡ l.initial.self) ⊎ (l.initial.self.course ≡ Course.Open))
    × (IsNoWholeLine l.self.waiting → IsNoWholeLine l.initial.self.waiting)

abbrev pub decreases-loop-next : goal.decreases-loop-next
decreases-loop-next g l = line_to_come l.self
