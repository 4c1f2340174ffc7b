use Rattle.edm_values.proofs.literals.Guids.{GuidValue-spelling}
use Rattle.edm_values.proofs.laws.guids_read_back.Goals as goal

pub returns : goal.returns
returns c = λ guid len small. GuidValue-spelling guid len small
