use Rattle.edm_entities.proofs.FitLemmas.RowFaultRefuses.{fault_refuses}
use Rattle.edm_entities.proofs.laws.what_has_a_fault_fits_nothing.Goals as goal

pub returns : goal.returns
returns c = fault_refuses
