use Rattle.odata_queries.proofs.queries.Queries.{no_fault, one_fault, one_filter}
use Rattle.odata_queries.proofs.query_laws.one_query_reading.Goals as goal

pub returns : goal.returns
returns c = record { filter = one_filter; fault = one_fault; not_both = λ query filter fault asked faulty. no_fault query filter asked fault faulty }
