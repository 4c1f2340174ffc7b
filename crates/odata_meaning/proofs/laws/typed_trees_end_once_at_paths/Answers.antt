use Rattle.odata_meaning.proofs.meaning.ProgressAtPaths.{ends_once_at}
use Rattle.odata_meaning.proofs.laws.typed_trees_end_once_at_paths.Goals as goal

pub returns : goal.returns
returns c = ends_once_at c.laws_below.ensures.one c.laws_below.ensures.some c.laws_below.ensures.promotes
