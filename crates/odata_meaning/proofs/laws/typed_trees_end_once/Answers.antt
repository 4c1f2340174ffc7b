use Rattle.odata_meaning.proofs.meaning.OneOutcome.{ends_once}
use Rattle.odata_meaning.proofs.laws.typed_trees_end_once.Goals as goal

pub returns : goal.returns
returns c = ends_once c.typed_trees_end_once_at_paths.ensures
