use Rattle.sql_tree.specs.PathText.{IsStepOf}
use Rattle.sql_tree.specs.TableModel.{table_in}
use Rattle.sql_tree.proofs.Elements.{LeftAll}
use Rattle.sql_tree.proofs.there.are_steps.Given as goal

abbrev pub invariant-loop-step : goal.invariant-loop-step
invariant-loop-step l = LeftAll (IsStepOf (table_in l.table)) l.steps l.step-index
