use Rattle.odata_text.proofs.spellings.Words.{reach-dotted, reach-undotted}
use Rattle.odata_text.proofs.word.dotted_length.Goals as goal

pub returns-then-identifier_length-word : goal.returns-then-identifier_length-word
returns-then-identifier_length-word c =
    reach-dotted c.args.rest.now c.identifier_length.result c.word_length-word.result c.identifier_length.ensures.reach c.word_length-word.ensures.reach c.if-identifier_length-word.true

pub returns : goal.returns
returns c =
    reach-undotted c.args.rest.now c.identifier_length.result c.word_length-word.result c.identifier_length.ensures.reach c.word_length-word.ensures.reach c.if-identifier_length-word.false
