use Rattle.odata_meaning.proofs.meaning.OneOutcome.{ends_at_on_entities}
use Rattle.odata_meaning.proofs.laws.entities_end_once_at_paths.Goals as goal

pub returns : goal.returns
returns c = ends_at_on_entities c.typed_trees_end_once_at_paths.ensures c.values_have_types_at_paths.ensures.fits
