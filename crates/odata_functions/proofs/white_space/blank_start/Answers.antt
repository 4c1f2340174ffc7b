use Rattle.std.proofs.Common.{◌+◌, ◌∙◌, ℕ, List, ap, drop, subst}
use Rattle.std.proofs.lemmas.List.{take_rest}
use Rattle.odata_functions.specs.private.Blanks.{BeginsBlank}
use Rattle.odata_functions.proofs.texts.Blanks.{more_at_start, none_at_start}
use Rattle.odata_functions.proofs.white_space.blank_start.Goals as goal

pub loop-width-init : goal.loop-width-init
loop-width-init c = (
  none_at_start c.args.text.now c.utf8.text,
  λ some. subst (λ (l : List ℕ). BeginsBlank l c.start_width-width.result) c.as_bytes-bytes.ensures.value (c.start_width-width.ensures some),
)

pub loop-width-preserved : goal.loop-width-preserved
loop-width-preserved c =
    let l = c.loop-width in
    let at = l.at + l.width in
    let next = c.start_width-width-in-loop-width in (
      more_at_start c.args.text.now l.at l.width l.invariant.0 (l.invariant.1 c.loop-width-test.true),
      λ some. subst (λ (b : List ℕ). BeginsBlank b next.result) (take_rest c.as_bytes-bytes.result.now at ∙ ap (drop at) c.as_bytes-bytes.ensures.value) (next.ensures some),
    )
