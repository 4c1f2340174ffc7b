use Rattle.std.proofs.Common.{ℕ, List, subst}
use Rattle.std.specs.Str.{IsTrimStart}
use Rattle.odata_functions.proofs.texts.Blanks.{start_after}
use Rattle.odata_functions.proofs.white_space.without_start.Goals as goal

pub returns : goal.returns
returns c =
    start_after c.args.text.now c.trim_start.result.now c.blank_start.result c.blank_start.ensures
    (subst (λ (l : List ℕ). IsTrimStart l c.trim_start.result.now) c.range_from.ensures.value c.trim_start.ensures.value)
