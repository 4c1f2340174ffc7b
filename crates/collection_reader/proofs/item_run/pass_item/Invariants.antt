use Rattle.std.proofs.Common.{◌-◌, ◌≤◌, length}
use Rattle.std.specs.Prelude.{slice_range}
use Rattle.collection_reader.specs.private.ItemRuns.{PassesTo}
use Rattle.collection_reader.proofs.item_run.pass_item.Given as goal

-- the bytes before the offset are passed
abbrev pub invariant-loop-end : goal.invariant-loop-end
invariant-loop-end l =
    (l.from ≤ l.end) × (l.end ≤ length l.bytes) × PassesTo l.depth l.in_text (slice_range l.bytes l.from l.end) l.nested l.is_text

abbrev pub decreases-loop-end : goal.decreases-loop-end
decreases-loop-end l = length l.bytes - l.end
