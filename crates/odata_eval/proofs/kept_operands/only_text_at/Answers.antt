use Rattle.std.proofs.Common.{◌<◌, length, rules, ◌+◌}
use Rattle.filter_context.proofs.Operands.{tree_operand}
use Rattle.filter_context.proofs.Parts.{part_inside, some_weaker}
use Rattle.odata_eval.proofs.walking.TextArguments.{first_stands, only_text}
use Rattle.odata_eval.proofs.kept_operands.only_text_at.Goals as goal

pub stop_of-own_stop-requires : goal.stop_of-own_stop-requires
stop_of-own_stop-requires c = part_inside c.args.context.now c.args.place c.requires.stands

pub overflow_add-place : goal.overflow_add-place
overflow_add-place c =
    let within : c.args.place < length c.args.context.now.list.nodes = part_inside c.args.context.now c.args.place c.requires.stands in
    let same = c.nodes-nodes.ensures in
    search rules

pub stop_of-requires : goal.stop_of-requires
stop_of-requires c =
    part_inside c.args.context.now (c.args.place + 1)
    (first_stands c.args.context.now c.calls_have_one_type.ensures.named c.args.place c.args.function c.requires.here c.stop_of-own_stop.result c.stop_of-own_stop.ensures c.requires.stands)

pub kept_text_at-requires : goal.kept_text_at-requires
kept_text_at-requires c =
    tree_operand c.args.context.now (c.args.place + 1)
    (first_stands c.args.context.now c.calls_have_one_type.ensures.named c.args.place c.args.function c.requires.here c.stop_of-own_stop.result c.stop_of-own_stop.ensures c.requires.stands)

pub returns : goal.returns
returns c =
    some_weaker c.kept_text_at.result
    (λ given answers.
    only_text c.args.context.now c.calls_have_one_type.ensures.named c.args.place c.args.function c.requires.here c.stop_of-own_stop.result c.stop_of-own_stop.ensures c.requires.stands c.ends_once.ensures
    c.stop_of.result c.stop_of.ensures c.if-stop_of-own_stop.false given.now answers)
    c.kept_text_at.ensures
