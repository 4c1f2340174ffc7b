use Rattle.std.proofs.Common.{inr}
use Rattle.line_filter.specs.Kept.{LineClass}
use Rattle.line_filter.proofs.item_indexes.item_outcome.Goals as goal

pub returns-in-Ok : goal.returns-in-Ok
returns-in-Ok g c = inr (LineClass.judged c.in-Ok.judgment, c.in-Ok.ensures, c.outcome_of.ensures)
