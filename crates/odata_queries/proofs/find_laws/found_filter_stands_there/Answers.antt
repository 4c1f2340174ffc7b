use Rattle.odata_queries.proofs.queries.Places.{found_placed}
use Rattle.odata_queries.proofs.find_laws.found_filter_stands_there.Goals as goal

pub returns : goal.returns
returns c = found_placed
