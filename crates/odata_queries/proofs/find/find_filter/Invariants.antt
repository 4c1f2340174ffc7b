use Rattle.std.proofs.Common.{option_map}
use Rattle.odata_queries.proofs.Common.{◌≡◌, length, map}
use Rattle.odata_queries.specs.Find.{found_model}
use Rattle.odata_queries.proofs.queries.FindLoops.{IsFoundSoFar}
use Rattle.odata_queries.proofs.find.find_filter.Given as goal

abbrev pub invariant-loop-piece : goal.invariant-loop-piece
invariant-loop-piece l = IsFoundSoFar (map (λ o. o.now) l.yielded) l.start (option_map found_model l.filter) × (l.number ≡ length l.yielded)
