use Rattle.std.proofs.Common.{◌≡◌, ◌<◌, ◌+◌, length, rules, slice_get}
use Rattle.odata_checked_filter.specs.declared.checked_node.CheckedNode.{CheckedNode}
use Rattle.odata_checked_filter.specs.declared.checked_node.NodeKind.{NodeKind}
use Rattle.odata_syntax.specs.declared.binary_operator.BinaryOperator.{BinaryOperator}
use Rattle.odata_eval.proofs.walking.AndChains.{left_side}
use Rattle.filter_context.proofs.Parts.{part_inside, there_found}
use Rattle.filter_context.proofs.Operands.{operand_inside}
use Rattle.odata_eval.proofs.kept_operands.kept_compared_at.Goals as goal

pub overflow_add-place : goal.overflow_add-place
overflow_add-place c =
    let within : c.args.place < length c.args.context.now.list.nodes = part_inside c.args.context.now c.args.place c.requires.stands in
    let same = c.nodes-nodes.ensures in
    search rules

pub node-requires : goal.node-requires
node-requires c = operand_inside c.args.context.now (c.args.place + 1) (left_side c.args.context.now c.args.place (BinaryOperator.Comparison c.args.comparison) c.requires.here c.requires.stands)

pub step_compared_at-requires : goal.step_compared_at-requires
step_compared_at-requires c = record {
  stands = c.requires.stands;
  here = c.requires.here;
  step = there_found (λ (f : CheckedNode). f.kind ≡ NodeKind.Member c.in-Member.slot) (slice_get c.args.context.now.list.nodes (c.args.place + 1)) c.node.result.now c.node.ensures c.in-Member.is;
}

pub length_compared_at-requires : goal.length_compared_at-requires
length_compared_at-requires c = record {
  stands = c.requires.stands;
  here = c.requires.here;
  call = there_found (λ (f : CheckedNode). f.kind ≡ NodeKind.Call c.in-Call.function) (slice_get c.args.context.now.list.nodes (c.args.place + 1)) c.node.result.now c.node.ensures c.in-Call.is;
}

pub returns-in-Member : goal.returns-in-Member
returns-in-Member c = c.step_compared_at.ensures

pub returns-in-Length : goal.returns-in-Length
returns-in-Length c = c.length_compared_at.ensures
