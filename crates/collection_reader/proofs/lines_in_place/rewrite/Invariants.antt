use Rattle.std.proofs.Common.{◌-◌, ◌≤◌}
use Rattle.collection_reader.specs.private.ItemText.{HasRoom, scanned}
use Rattle.collection_reader.specs.private.Written.{IsWritten}
use Rattle.collection_reader.proofs.lines_in_place.rewrite.Given as goal

-- the lines of the bytes before the offset are written, and there is room for the others
abbrev pub invariant-loop-from : goal.invariant-loop-from
invariant-loop-from l =
    (l.from ≤ l.count) × IsWritten (scanned l.fn.document) l.fn.bytes l.bytes (scanned l.document) l.window.to l.window.kept l.from
    × HasRoom l.document (l.count - l.from)

abbrev pub decreases-loop-from : goal.decreases-loop-from
decreases-loop-from l = l.count - l.from
