use Rattle.odata_text.proofs.Common.{[], ◌∷◌, PassesTests, OffsetMark, Sign}
use Rattle.odata_text.proofs.spellings.Times.{clock_pattern, offset-reach}
use Rattle.odata_text.proofs.spellings.Sequences.{reach-either}
use Rattle.odata_text.proofs.time.offset_length.Goals as goal

pub returns : goal.returns
returns c =
    offset-reach c.longer.result c.args.rest.now
    (reach-either (PassesTests (OffsetMark ∷ [])) (PassesTests (Sign ∷ clock_pattern)) c.args.rest.now _ _ _ c.pattern_length-mark.ensures c.pattern_length-clock.ensures c.longer.ensures)
