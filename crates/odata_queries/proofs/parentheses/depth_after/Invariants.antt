use Rattle.odata_queries.proofs.Common.{◌≡◌, ◌≤◌, drop}
use Rattle.odata_queries.specs.Disguise.{depth_after}
use Rattle.odata_queries.proofs.parentheses.depth_after.Given as goal

abbrev pub invariant-loop-byte : goal.invariant-loop-byte
invariant-loop-byte l = (depth_after l.depth (drop l.byte-index l.text) ≡ depth_after 0 l.text) × (l.depth ≤ l.byte-index)
