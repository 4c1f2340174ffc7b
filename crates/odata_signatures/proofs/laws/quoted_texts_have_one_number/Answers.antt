use Rattle.odata_signatures.proofs.types.Quoted.{one_number}
use Rattle.odata_signatures.proofs.laws.quoted_texts_have_one_number.Goals as goal

pub returns : goal.returns
returns c = one_number c.texts_have_one_value.ensures
