use Rattle.odata_queries.proofs.queries.WorkedQueries.{escaped-filter, paged-fault}
use Rattle.odata_queries.proofs.query_laws.queries_by_example.Goals as goal

pub returns : goal.returns
returns c = record { escaped = escaped-filter; paged = paged-fault }
