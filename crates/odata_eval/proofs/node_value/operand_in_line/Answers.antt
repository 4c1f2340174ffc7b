use Rattle.std.proofs.Common.{◌+◌, ◌<◌, arith}
use Rattle.filter_context.proofs.Operands.{operand_inside}
use Rattle.odata_eval.proofs.walking.ItemSteps.{stop_further}
use Rattle.odata_eval.proofs.walking.NodeWays.{first_operand, operand_lies, rest_operands}
use Rattle.odata_eval.proofs.node_value.operand_in_line.Goals as goal

pub stop_of-stop-requires : goal.stop_of-stop-requires
stop_of-stop-requires c =
    operand_inside c.args.context.now (c.args.outer + 1) (first_operand c.args.context.now (c.args.outer + 1) c.args.index c.requires.operands (omega arith))

pub loop-stop-init : goal.loop-stop-init
loop-stop-init c = record {
  operands = c.requires.operands;
  further = omega arith;
  before = omega arith;
  stops = c.stop_of-stop.ensures;
}

pub stop_of-stop-requires-in-loop-stop : goal.stop_of-stop-requires-in-loop-stop
stop_of-stop-requires-in-loop-stop c =
    let l = c.loop-stop in
    let rest = rest_operands c.args.context.now l.child l.stop c.args.index l.invariant.operands l.invariant.before l.invariant.stops in
    operand_inside c.args.context.now l.stop (first_operand c.args.context.now l.stop c.args.index rest (omega arith))

pub loop-stop-preserved : goal.loop-stop-preserved
loop-stop-preserved c =
    let l = c.loop-stop in
    let later : l.child < l.stop = stop_further c.args.context.now l.child l.stop (first_operand c.args.context.now l.child c.args.index l.invariant.operands l.invariant.before) l.invariant.stops in
    record {
      operands = rest_operands c.args.context.now l.child l.stop c.args.index l.invariant.operands l.invariant.before l.invariant.stops;
      further = omega arith;
      before = omega arith;
      stops = c.stop_of-stop-in-loop-stop.ensures;
    }

pub loop-stop-smaller : goal.loop-stop-smaller
loop-stop-smaller c =
    let l = c.loop-stop in
    let later : l.child < l.stop = stop_further c.args.context.now l.child l.stop (first_operand c.args.context.now l.child c.args.index l.invariant.operands l.invariant.before) l.invariant.stops in
    omega arith

pub returns : goal.returns
returns c =
    let l = c.loop-stop in (
      operand_lies c.args.context.now l.child l.stop c.args.index
          (first_operand c.args.context.now l.child c.args.index l.invariant.operands l.invariant.before) l.invariant.stops l.invariant.before (omega arith),
      l.invariant.further,
    )
