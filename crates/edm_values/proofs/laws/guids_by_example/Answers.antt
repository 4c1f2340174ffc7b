use Rattle.std.proofs.Common.{refl}
use Rattle.uuid.proofs.OnLiterals.{uuid_on_literals}
use Rattle.edm_values.specs.WorkedLiterals.{counting_bytes}
use Rattle.edm_values.proofs.literals.Guids.{GuidValue-parsed}
use Rattle.edm_values.proofs.laws.guids_by_example.Goals as goal

pub returns-clause-read : goal.returns-clause-read
unfolding uuid_on_literals
returns-clause-read c = GuidValue-parsed _ counting_bytes refl
