use Rattle.std.proofs.Common.{length, refl}
use Rattle.std.proofs.lemmas.Option.{slice_get_read}
use Rattle.sql_tree.specs.PathText.{IsStepOf}
use Rattle.sql_tree.specs.TableModel.{table_in}
use Rattle.sql_tree.proofs.Elements.{left_end, left_first, left_not, left_on}
use Rattle.sql_tree.proofs.there.are_steps.Goals as goal

pub loop-step-init : goal.loop-step-init
loop-step-init c = left_first (IsStepOf (table_in c.args.table.now)) c.args.steps.now

pub loop-step-preserved : goal.loop-step-preserved
loop-step-preserved c =
    let steps = c.args.steps.now in
    let at = slice_get_read steps (length steps) c.loop-step.step-index c.step-item.result refl c.loop-step-test.true c.step-item.is in
    left_on (IsStepOf (table_in c.args.table.now)) steps c.loop-step.step-index c.step-item.result at c.loop-step.invariant (c.is_step.ensures.0 c.if-not-is_step.false)

pub returns-then-not-is_step : goal.returns-then-not-is_step
returns-then-not-is_step c =
    let steps = c.args.steps.now in
    let at = slice_get_read steps (length steps) c.loop-step.step-index c.step-item.result refl c.loop-step-test.true c.step-item.is in
    left_not (IsStepOf (table_in c.args.table.now)) steps c.loop-step.step-index c.step-item.result at c.loop-step.invariant c.is_step.result c.is_step.ensures
    c.if-not-is_step.true

pub returns : goal.returns
returns c =
    left_end (IsStepOf (table_in c.args.table.now)) c.args.steps.now c.loop-step.step-index c.loop-step-test.false c.loop-step.invariant
