use Rattle.std.proofs.Common.{◌≡◌, ◌≤◌, length, arith, ap, subst}
use Rattle.std.specs.Prelude.{slice_range}
use Rattle.std.specs.Str.{IsAscii}
use Rattle.line_filter.specs.private.Waits.{Waits}
use Rattle.line_filter.proofs.BufferLaws.Ranges.{range_ascii}
use Rattle.line_filter.proofs.buffer.Buffer.is_line_ascii.Goals as goal

pub returns : goal.returns
returns c seen =
    let b = c.self.inside in
    let i = c.self.invariant in
    let within : b.line_end ≤ length b.bytes.items = omega (arith, i.line_within, i.within) in
    subst IsAscii (ap (λ (w : Waits). w.line) c.self.view_is) (range_ascii b.bytes.items b.line b.line_end within (i.line_ascii seen))
