use Rattle.std.proofs.Common.{◌≡◌, refl, slice_get}
use Rattle.odata_checked_filter.specs.declared.checked_node.CheckedNode.{CheckedNode}
use Rattle.odata_checked_filter.specs.declared.checked_node.NodeKind.{NodeKind}
use Rattle.filter_context.specs.declared.walk_class.WalkClass.{WalkClass}
use Rattle.odata_eval.proofs.walking.Leaves.{variable_answers, variable_within}
use Rattle.filter_context.proofs.Parts.{there_found}
use Rattle.filter_context.proofs.Spines.{kind_walks}
use Rattle.filter_context.proofs.Operands.{operand_inside}
use Rattle.odata_eval.proofs.kept_operands.found_at.Goals as goal

pub node-requires : goal.node-requires
node-requires c = operand_inside c.args.context.now c.args.place c.requires.stands

pub variable-requires : goal.variable-requires
variable-requires c = variable_within c.args.context.now c.args.place c.in-Variable.level (there_found (λ (f : CheckedNode). f.kind ≡ NodeKind.Variable c.in-Variable.level) (slice_get c.args.context.now.list.nodes c.args.place) c.node.result.now c.node.ensures c.in-Variable.is) c.requires.stands

pub returns-in-Variable-clause-answers : goal.returns-in-Variable-clause-answers
returns-in-Variable-clause-answers c = variable_answers c.args.context.now c.args.place c.in-Variable.level (there_found (λ (f : CheckedNode). f.kind ≡ NodeKind.Variable c.in-Variable.level) (slice_get c.args.context.now.list.nodes c.args.place) c.node.result.now c.node.ensures c.in-Variable.is) c.variable.result.now c.variable.ensures

pub returns-in-Variable-clause-leaf : goal.returns-in-Variable-clause-leaf
returns-in-Variable-clause-leaf c = kind_walks c.args.context.now.list c.args.place (NodeKind.Variable c.in-Variable.level) WalkClass.Leaf refl (there_found (λ (f : CheckedNode). f.kind ≡ NodeKind.Variable c.in-Variable.level) (slice_get c.args.context.now.list.nodes c.args.place) c.node.result.now c.node.ensures c.in-Variable.is)
