use Rattle.odata_text.proofs.Common.{arith, refl}
use Rattle.odata_text.specs.declared.plain.TheConstants.{FLAGS}
use Rattle.odata_text.specs.private.PlainTokens.{number_goes_on}
use Rattle.odata_text.proofs.characters.ByteTables.{from_table}
use Rattle.odata_text.proofs.plain.number_goes_on.Goals as goal

pub returns : goal.returns
returns c = from_table FLAGS 15 number_goes_on c.args.byte (omega arith) refl
