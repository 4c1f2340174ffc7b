use Rattle.std.specs.List.{list_any}
use Rattle.odata_queries.proofs.Common.{◌≡◌, false, map}
use Rattle.odata_queries.specs.Disguise.{hides_filter}
use Rattle.odata_queries.proofs.disguise.part_hides.Given as goal

abbrev pub invariant-loop-part : goal.invariant-loop-part
invariant-loop-part l = list_any hides_filter (map (λ part. part.now) l.yielded) ≡ false
