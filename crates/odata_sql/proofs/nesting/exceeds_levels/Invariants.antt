use Rattle.odata_sql.proofs.LevelsFound.{AreLevelsTo}
use Rattle.odata_sql.proofs.nesting.exceeds_levels.Given as goal

abbrev pub invariant-loop-at : goal.invariant-loop-at
invariant-loop-at l = AreLevelsTo l.nodes l.at l.before l.around.items
