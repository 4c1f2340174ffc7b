use Rattle.std.proofs.Common.{option_map, string_bytes}
use Rattle.odata_queries.proofs.Common.{◌≡◌, length, map}
use Rattle.odata_queries.proofs.queries.QueryLoops.{IsReadSoFar}
use Rattle.odata_queries.proofs.query.filter_of_query.Given as goal

abbrev pub invariant-loop-option : goal.invariant-loop-option
invariant-loop-option l = IsReadSoFar (map (λ o. o.now) l.yielded) l.start (option_map string_bytes l.filter) × (l.number ≡ length l.yielded)
