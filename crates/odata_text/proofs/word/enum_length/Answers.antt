use Rattle.odata_text.proofs.Common.{IsStringSpelling, IsDottedWord}
use Rattle.odata_text.proofs.spellings.Parts.{word_text}
use Rattle.odata_text.proofs.spellings.Sequences.{left_of, pair-reach}
use Rattle.odata_text.proofs.word.enum_length.Goals as goal

pub returns : goal.returns
returns c =
    pair-reach IsDottedWord IsStringSpelling word_text c.args.rest.now _ _ _ _ (left_of c.args.rest.now c.as_bytes.result.now c.dotted_length-word.result c.as_bytes.ensures.value)
    c.dotted_length-word.ensures c.string_length-text.ensures c.both_length.ensures
