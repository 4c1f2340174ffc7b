use Rattle.std.proofs.Common.{◌≡◌, ◌≤◌, ◌+◌, ℕ, List, ◌++◌, length, take, drop, arith, ap, ◌∙◌, length-drop, length-take-le}
use Rattle.std.specs.Prelude.{slice_range}
use Rattle.std.proofs.lemmas.List.{take_at}
use Rattle.line_filter.specs.private.Waits.{Waits}
use Rattle.line_filter.proofs.BufferLaws.Ranges.{range-grown}
use Rattle.line_filter.proofs.buffer.Buffer.fill.Goals as goal

pub returns-clause-ok : goal.returns-clause-ok
returns-clause-ok g c =
    let b = c.self.inside in
    let i = c.self.invariant in
    let bytes = c.read_at.new.bytes in
    let n = c.in_ok-count.count in
    let is : slice_range b.bytes.items b.start b.filled ≡ c.args.self.now.waiting = ap (λ (w : Waits). w.waiting) c.self.view_is in
    let long : length bytes ≡ b.bytes.len = c.read_at.ensures.len ∙ c.as_mut_slice-bytes.ensures.len in
    let front : take b.filled bytes ≡ take b.filled b.bytes.items = c.read_at.ensures.front ∙ ap (take b.filled) c.as_mut_slice-bytes.ensures.value in
    let same = take_at bytes (drop (length bytes) b.bytes.items) b.bytes.len long in
    let order : b.start ≤ b.filled = omega (arith, i.started, i.in_order) in
    let fits : b.filled + n ≤ c.min-stop.result = c.in_ok-count.ensures.fits in
    let within : n ≤ length (drop b.filled bytes) = omega (arith, length-drop b.filled bytes, c.min-stop.ensures) in (
      take n (drop b.filled bytes),
      ap (λ (l : List ℕ). slice_range l b.start (b.filled + n)) same ∙ range-grown b.bytes.items bytes b.start b.filled n front order
          ∙ ap (λ (l : List ℕ). l ++ take n (drop b.filled bytes)) is,
      length-take-le n (drop b.filled bytes) within,
      c.in_ok-count.ensures.ok,
    )
