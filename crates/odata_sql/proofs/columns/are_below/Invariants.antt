use Rattle.odata_sql.proofs.OwnSlots.{AreBelowTo}
use Rattle.odata_sql.proofs.columns.are_below.Given as goal

abbrev pub invariant-loop-at : goal.invariant-loop-at
invariant-loop-at l = AreBelowTo l.nodes l.count l.at
