use Rattle.edm_values.proofs.literals.Ints.{IntValue-spelling}
use Rattle.edm_values.proofs.laws.ints_read_back.Goals as goal

pub returns : goal.returns
returns c = λ n fits. IntValue-spelling n fits
