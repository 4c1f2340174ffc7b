use Rattle.odata_text.proofs.Common.{arith, refl}
use Rattle.odata_text.specs.declared.plain.TheConstants.{FLAGS}
use Rattle.odata_text.specs.private.PlainTokens.{word_goes_on}
use Rattle.odata_text.proofs.characters.ByteTables.{from_table}
use Rattle.odata_text.proofs.plain.word_goes_on.Goals as goal

pub returns : goal.returns
returns c = from_table FLAGS 4 word_goes_on c.args.byte (omega arith) refl
