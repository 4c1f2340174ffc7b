-- What is gone from the rest was written.
use Rattle.std.proofs.Common.{◌≡◌, ℕ, List, ◌++◌, length}
use Rattle.std.specs.Io.KnownBytes.{Appends}
use Rattle.line_filter.specs.CallLogs.{StaysWell}
use Rattle.line_filter.proofs.output.write_out.Given as goal

abbrev pub invariant-loop-rest : goal.invariant-loop-rest
invariant-loop-rest g l = (done : List ℕ) × (l.bytes ≡ done ++ l.rest) × Appends (g.T.Writes.contents l.initial.out) (g.T.Writes.contents l.out) done
    × StaysWell (g.T.Writes.calls l.initial.out) (g.T.Writes.calls l.out)

abbrev pub decreases-loop-rest : goal.decreases-loop-rest
decreases-loop-rest g l = length l.rest
