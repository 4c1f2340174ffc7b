use Rattle.std.proofs.Common.{◌-◌}
use Rattle.sql_forms.proofs.answers.AlongAnswers.{ItemsSoFar}
use Rattle.sql_forms.proofs.list_forms.items_of.Given as goal

abbrev pub invariant-loop-at : goal.invariant-loop-at
invariant-loop-at l = record { so : ItemsSoFar l.context.checked.now l.context.ranges.now l.place l.at l.stop l.items.items }

abbrev pub decreases-loop-at : goal.decreases-loop-at
decreases-loop-at l = l.stop - l.at
