use Rattle.std.proofs.Common.{◌<◌, ◌+◌, length, rules}
use Rattle.odata_eval.proofs.walking.Leaves.{property_right}
use Rattle.filter_context.proofs.Operands.{operand_inside}
use Rattle.odata_eval.proofs.kept_terms.right_of_property.Goals as goal

pub overflow_add-result : goal.overflow_add-result
overflow_add-result c =
    let within : c.args.place + 1 < length c.args.context.now.list.nodes = operand_inside c.args.context.now (c.args.place + 1) c.requires.stands in
    let same = c.nodes-nodes.ensures in
    search rules

pub returns : goal.returns
returns c = property_right c.args.context.now c.args.place c.args.slot c.requires.here c.requires.stands
