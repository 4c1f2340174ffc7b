use Rattle.std.proofs.Common.{◌≡◌, ◌<◌, ◌≤◌, ◌+◌, length, drop, arith, ap, sym, ◌∙◌, subst, rules}
use Rattle.std.specs.Prelude.{slice_range}
use Rattle.line_filter.specs.private.Waits.{Waits}
use Rattle.line_filter.proofs.BufferLaws.Ranges.{range-drop, range-length}
use Rattle.line_filter.proofs.buffer.Buffer.give_line.Goals as goal

pub returns-clause-waiting : goal.returns-clause-waiting
returns-clause-waiting c =
    let b = c.self.inside in
    let is : slice_range b.bytes.items b.start b.filled ≡ c.args.self.now.waiting = ap (λ (w : Waits). w.waiting) c.self.view_is in
    let within : b.filled ≤ length b.bytes.items = search rules in
    let short : c.args.count < length (slice_range b.bytes.items b.start b.filled) = subst (λ l. c.args.count < length l) (sym is) c.requires in
    let fits : b.start + (c.args.count + 1) ≤ b.filled = omega (arith, range-length b.bytes.items b.start b.filled within) in
    let one : b.start + c.args.count + 1 ≡ b.start + (c.args.count + 1) = omega arith in
    ap (λ k. slice_range b.bytes.items k b.filled) one ∙ sym (range-drop b.bytes.items b.start b.filled (c.args.count + 1) fits) ∙ ap (drop (c.args.count + 1)) is
