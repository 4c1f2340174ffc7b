use Rattle.edm_values.proofs.moments.MomentSpellings.{MomentValue-spelling, IsMomentSpelling-value}
use Rattle.edm_values.proofs.laws.moments_read_back.Goals as goal

pub returns-clause-value : goal.returns-clause-value
returns-clause-value c = λ m within. MomentValue-spelling m within

pub returns-clause-spelled : goal.returns-clause-spelled
returns-clause-spelled c = λ text m value. IsMomentSpelling-value text m value
