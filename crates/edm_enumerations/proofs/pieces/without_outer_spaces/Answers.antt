use Rattle.std.proofs.Common.{◌∙◌, ap}
use Rattle.edm_enumerations.specs.Spaces.{without_trailing_spaces}
use Rattle.edm_enumerations.proofs.Trimming.{trim_start_spaces, trim_end_spaces}
use Rattle.edm_enumerations.proofs.pieces.without_outer_spaces.Goals as goal

pub returns : goal.returns
returns c =
    trim_end_spaces c.trim_start_matches.result.now c.trim_end_matches.result.now c.trim_end_matches.ensures.matches
    ∙ ap without_trailing_spaces (trim_start_spaces c.args.piece.now c.trim_start_matches.result.now c.trim_start_matches.ensures.matches)
