use Rattle.edm_entities.proofs.FitLemmas.FitsHasType.{fits_has_type}
use Rattle.edm_entities.proofs.laws.what_fits_has_its_type.Goals as goal

pub returns : goal.returns
returns c = fits_has_type
