use Rattle.odata_queries.proofs.queries.FindLoops.{same_as_alone}
use Rattle.odata_queries.proofs.find_laws.same_text_as_alone.Goals as goal

pub returns : goal.returns
returns c = same_as_alone
