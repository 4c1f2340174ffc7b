use Rattle.std.proofs.Common.{◌≡◌, inl, inr, slice_get}
use Rattle.odata_checked_filter.specs.declared.checked_node.CheckedNode.{CheckedNode}
use Rattle.odata_checked_filter.specs.declared.checked_node.NodeKind.{NodeKind}
use Rattle.filter_context.proofs.Parts.{some_weaker, there_found}
use Rattle.filter_context.proofs.Operands.{operand_inside, tree_of_kind}
use Rattle.odata_eval.proofs.kept_operands.kept_at.Goals as goal

pub node-requires : goal.node-requires
node-requires c = operand_inside c.args.context.now c.args.place c.requires

pub step_at-requires : goal.step_at-requires
step_at-requires c =
    let here = there_found (λ (f : CheckedNode). f.kind ≡ NodeKind.Member c.in-Member.slot) (slice_get c.args.context.now.list.nodes c.args.place) c.node.result.now c.node.ensures c.in-Member.is in
    record { stands = tree_of_kind c.args.context.now c.args.place (NodeKind.Member c.in-Member.slot) tt here c.requires; here = here }

pub returns-in-Member-clause-answers : goal.returns-in-Member-clause-answers
returns-in-Member-clause-answers c = c.step_at.ensures.answers

pub returns-in-Member-clause-path : goal.returns-in-Member-clause-path
returns-in-Member-clause-path c =
    some_weaker c.step_at.result
    (λ value leaf. inr (c.in-Member.slot, there_found (λ (f : CheckedNode). f.kind ≡ NodeKind.Member c.in-Member.slot) (slice_get c.args.context.now.list.nodes c.args.place) c.node.result.now c.node.ensures c.in-Member.is, leaf))
    c.step_at.ensures.base

pub found_at-requires : goal.found_at-requires
found_at-requires c = record { stands = c.requires }

pub returns-in_default-clause-answers : goal.returns-in_default-clause-answers
returns-in_default-clause-answers c = c.found_at.ensures.answers

pub returns-in_default-clause-path : goal.returns-in_default-clause-path
returns-in_default-clause-path c = some_weaker c.found_at.result (λ value leaf. inl leaf) c.found_at.ensures.leaf
