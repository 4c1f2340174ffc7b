use Rattle.std.proofs.Common.{◌-◌, length}
use Rattle.sql_draft.proofs.PathKinds.{WayDown}
use Rattle.sql_draft.proofs.paths.lowest_of.Given as goal

abbrev pub invariant-loop-at : goal.invariant-loop-at
invariant-loop-at l = record { way : WayDown l.context.checked.now l.place l.at }

abbrev pub decreases-loop-at : goal.decreases-loop-at
decreases-loop-at l = length l.context.checked.now.list.nodes - l.at
