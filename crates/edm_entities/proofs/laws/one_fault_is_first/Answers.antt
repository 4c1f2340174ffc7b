use Rattle.edm_entities.proofs.FitLemmas.OneFirstFault.{one_first_fault}
use Rattle.edm_entities.proofs.laws.one_fault_is_first.Goals as goal

pub returns : goal.returns
returns c = one_first_fault
