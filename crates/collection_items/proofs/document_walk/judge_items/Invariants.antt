-- The items before the offset were judged, and the judge says no more than it did.
use Rattle.std.proofs.Common.{◌-◌, length}
use Rattle.collection_items.specs.JudgedItems.{SaysNoMore}
use Rattle.collection_items.proofs.WalkSteps.{JudgedUpTo}
use Rattle.collection_items.proofs.document_walk.judge_items.Given as goal

abbrev pub invariant-items : goal.invariant-items
invariant-items g l =
    JudgedUpTo (g.J.JudgesItems.says l.initial.judge) l.document l.from l.place l.flags.items
    × SaysNoMore (g.J.JudgesItems.says l.initial.judge) (g.J.JudgesItems.says l.judge)

abbrev pub decreases-items : goal.decreases-items
decreases-items g l = length l.document - l.place
