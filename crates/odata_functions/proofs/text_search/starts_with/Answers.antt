use Rattle.odata_functions.proofs.texts.Searches.{starts}
use Rattle.odata_functions.proofs.text_search.starts_with.Goals as goal

pub returns : goal.returns
returns c = starts c.args.text.now c.args.part.now c.utf8.text c.utf8.part c.starts_with.result c.starts_with.ensures.cases
