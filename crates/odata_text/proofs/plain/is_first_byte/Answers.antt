use Rattle.odata_text.proofs.Common.{arith, refl}
use Rattle.odata_text.specs.declared.plain.TheConstants.{FLAGS}
use Rattle.odata_text.specs.private.PlainTokens.{is_first_byte}
use Rattle.odata_text.proofs.characters.ByteTables.{from_table}
use Rattle.odata_text.proofs.plain.is_first_byte.Goals as goal

pub returns : goal.returns
returns c = from_table FLAGS 1 is_first_byte c.args.byte (omega arith) refl
