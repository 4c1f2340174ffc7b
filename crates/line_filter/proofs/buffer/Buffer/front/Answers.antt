use Rattle.std.proofs.Common.{◌≡◌, ◌≤◌, ◌-◌, length, take, drop, arith, ap, sym, ◌∙◌}
use Rattle.std.proofs.lemmas.List.{take_rest}
use Rattle.std.specs.Prelude.{slice_range}
use Rattle.line_filter.specs.private.Waits.{Waits}
use Rattle.line_filter.proofs.BufferLaws.Ranges.{range-length}
use Rattle.line_filter.proofs.buffer.Buffer.front.Goals as goal

pub returns : goal.returns
returns c =
    let b = c.self.inside in
    let i = c.self.invariant in
    let s = c.as_slice.result.now in
    let within : b.line_end ≤ length b.bytes.items = omega (arith, i.line_within, i.within) in
    let is : slice_range b.bytes.items b.line b.line_end ≡ c.args.self.now.line = ap (λ (w : Waits). w.line) c.self.view_is in
    let long : length c.args.self.now.line ≡ b.line_end - b.line = ap length (sym is) ∙ range-length b.bytes.items b.line b.line_end within in
    let whole : slice_range s b.line (length s) ≡ drop b.line b.bytes.items = take_rest s b.line ∙ ap (drop b.line) c.as_slice.ensures.value in
    ap (λ n. take n (slice_range s b.line (length s))) long ∙ ap (take (b.line_end - b.line)) whole ∙ is
