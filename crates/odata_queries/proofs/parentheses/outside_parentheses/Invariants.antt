use Rattle.odata_queries.proofs.Common.{◌≡◌, ◌≤◌, ◌++◌, drop}
use Rattle.odata_queries.specs.Disguise.{outside}
use Rattle.odata_queries.proofs.parentheses.outside_parentheses.Given as goal

abbrev pub invariant-loop-byte : goal.invariant-loop-byte
invariant-loop-byte l = (l.bytes.items ++ outside l.depth (drop l.byte-index l.text) ≡ outside 0 l.text) × (l.depth ≤ l.byte-index)
