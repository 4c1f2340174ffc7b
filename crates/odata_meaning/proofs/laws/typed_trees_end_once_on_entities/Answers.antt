use Rattle.odata_meaning.proofs.meaning.OneOutcome.{ends_on_entities}
use Rattle.odata_meaning.proofs.laws.typed_trees_end_once_on_entities.Goals as goal

pub returns : goal.returns
returns c = ends_on_entities c.typed_trees_end_once.ensures c.what_fits_has_its_type.ensures
