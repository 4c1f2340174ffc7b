use Rattle.odata_text.proofs.characters.IdentifierBytes.{letters-identifier}
use Rattle.odata_text.proofs.printing_laws.letters_are_an_identifier.Goals as goal

pub returns : goal.returns
returns c = letters-identifier
