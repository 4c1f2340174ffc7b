use Rattle.std.proofs.Common.{◌-◌, ℕ, List, ap, subst, take}
use Rattle.odata_functions.specs.private.Blanks.{EndsBlank}
use Rattle.odata_functions.proofs.texts.Blanks.{more_at_end}
use Rattle.odata_functions.proofs.white_space.blank_end.Goals as goal

pub loop-width-preserved : goal.loop-width-preserved
loop-width-preserved c =
    let l = c.loop-width in
    let at = l.at - l.width in
    let next = c.end_width-width-in-loop-width in (
      more_at_end c.args.text.now l.at l.width c.utf8.text l.invariant.0 (l.invariant.1 c.loop-width-test.true),
      λ some. subst (λ (b : List ℕ). EndsBlank b next.result) (ap (take at) c.as_bytes-bytes.ensures.value) (next.ensures some),
    )
