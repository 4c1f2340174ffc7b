use Rattle.std.proofs.Common.{◌∙◌, ℕ, List, subst}
use Rattle.std.specs.Str.{IsTrimEnd}
use Rattle.odata_functions.proofs.texts.Blanks.{end_after}
use Rattle.odata_functions.proofs.texts.Searches.{front_slice}
use Rattle.odata_functions.proofs.white_space.without_end.Goals as goal

pub returns : goal.returns
returns c =
    end_after c.args.text.now c.trim_end.result.now c.blank_end.result c.blank_end.ensures
    (subst (λ (l : List ℕ). IsTrimEnd l c.trim_end.result.now) (c.range.ensures.value ∙ front_slice c.args.text.now c.blank_end.result) c.trim_end.ensures.value)
