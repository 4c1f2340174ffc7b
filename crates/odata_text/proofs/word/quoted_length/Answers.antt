use Rattle.odata_text.proofs.Common.{take_rest, IsStringSpelling, IsLeftOutName}
use Rattle.odata_text.proofs.spellings.Parts.{name_text}
use Rattle.odata_text.proofs.spellings.Sequences.{pair-reach}
use Rattle.odata_text.proofs.word.quoted_length.Goals as goal

pub returns : goal.returns
returns c =
    pair-reach IsLeftOutName IsStringSpelling name_text c.args.rest.now _ _ _ _ (take_rest c.args.rest.now c.left_out_name_length-name.result)
    c.left_out_name_length-name.ensures c.string_length-text.ensures c.both_length.ensures
