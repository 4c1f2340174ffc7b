use Rattle.odata_queries.proofs.Common.{◌≡◌, ◌++◌, drop}
use Rattle.odata_queries.specs.Disguise.{shortened}
use Rattle.odata_queries.proofs.escapes.shortened.Given as goal

abbrev pub invariant-loop-place : goal.invariant-loop-place
invariant-loop-place l = l.bytes.items ++ shortened l.skipped (drop l.place l.text) ≡ shortened 0 l.text
