use Rattle.std.proofs.Common.{pos}
use Rattle.edm_enumerations.specs.EnumerationValue.{pieces_of}
use Rattle.edm_enumerations.proofs.Joining.{JoinsTo-same}
use Rattle.edm_enumerations.proofs.laws.texts_have_one_value.Goals as goal

pub returns : goal.returns
returns c = λ e text m n first second.
    JoinsTo-same c.texts_have_one_value.ensures.int e (pieces_of text) (pos 0) m n first.joined second.joined
