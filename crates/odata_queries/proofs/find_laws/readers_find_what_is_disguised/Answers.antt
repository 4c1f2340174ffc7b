use Rattle.odata_queries.proofs.readers.Hidden.{disguised_read}
use Rattle.odata_queries.proofs.find_laws.readers_find_what_is_disguised.Goals as goal

pub returns : goal.returns
returns c = disguised_read
