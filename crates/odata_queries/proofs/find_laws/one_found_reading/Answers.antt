use Rattle.odata_queries.proofs.queries.Finds.{no_find_fault, one_find_fault, one_found}
use Rattle.odata_queries.proofs.find_laws.one_found_reading.Goals as goal

pub returns : goal.returns
returns c = record { found = one_found; fault = one_find_fault; not_both = λ query found fault asked faulty. no_find_fault query found asked fault faulty }
