use Rattle.odata_queries.proofs.Common.{◌≡◌, ◌≤◌, ◌||◌, drop}
use Rattle.odata_queries.specs.Disguise.{has_misplaced}
use Rattle.odata_queries.proofs.parentheses.has_misplaced.Given as goal

abbrev pub invariant-loop-byte : goal.invariant-loop-byte
invariant-loop-byte l = ((l.misplaced || has_misplaced l.depth l.before (drop l.byte-index l.text)) ≡ has_misplaced 0 0 l.text) × (l.depth ≤ l.byte-index)
