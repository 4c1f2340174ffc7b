use Rattle.edm_entities.proofs.FitLemmas.FitsHasType.{moment_spelled, sixteen_bytes}
use Rattle.edm_entities.proofs.laws.spelled_values_lie_within.Goals as goal

pub returns-clause-moments : goal.returns-clause-moments
returns-clause-moments c = moment_spelled

pub returns-clause-guids : goal.returns-clause-guids
returns-clause-guids c = sixteen_bytes
