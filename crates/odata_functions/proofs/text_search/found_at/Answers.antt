use Rattle.odata_functions.proofs.texts.Searches.{found}
use Rattle.odata_functions.proofs.text_search.found_at.Goals as goal

pub returns : goal.returns
returns c = found c.args.text.now c.args.part.now c.utf8.text c.utf8.part c.find.result c.find.ensures.cases
