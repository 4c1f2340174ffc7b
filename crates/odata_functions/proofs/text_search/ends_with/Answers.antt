use Rattle.odata_functions.proofs.texts.Searches.{ends}
use Rattle.odata_functions.proofs.text_search.ends_with.Goals as goal

pub returns : goal.returns
returns c = ends c.args.text.now c.args.part.now c.utf8.text c.utf8.part c.ends_with.result c.ends_with.ensures.cases
