use Rattle.odata_queries.proofs.readers.Found.{no_other}
use Rattle.odata_queries.proofs.find_laws.no_reader_finds_another.Goals as goal

pub returns : goal.returns
returns c = no_other
