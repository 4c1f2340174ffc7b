use Rattle.std.proofs.Common.{◌≡◌, refl, slice_get}
use Rattle.odata_checked_filter.specs.declared.checked_node.CheckedNode.{CheckedNode}
use Rattle.odata_checked_filter.specs.declared.checked_node.NodeKind.{NodeKind}
use Rattle.filter_context.specs.declared.walk_class.WalkClass.{WalkClass}
use Rattle.odata_eval.proofs.walking.Leaves.{literal_answers, literal_within, property_answers, property_within}
use Rattle.filter_context.proofs.Parts.{there_found}
use Rattle.filter_context.proofs.Spines.{kind_walks}
use Rattle.filter_context.proofs.Operands.{operand_inside}
use Rattle.odata_eval.proofs.kept_operands.plain_at.Goals as goal

pub node-requires : goal.node-requires
node-requires c = operand_inside c.args.context.now c.args.place c.requires.stands

pub property-requires : goal.property-requires
property-requires c = property_within c.args.context.now c.args.place c.in-Property.slot (there_found (λ (f : CheckedNode). f.kind ≡ NodeKind.Property c.in-Property.slot) (slice_get c.args.context.now.list.nodes c.args.place) c.node.result.now c.node.ensures c.in-Property.is) c.requires.stands

pub returns-in-Property-clause-answers : goal.returns-in-Property-clause-answers
returns-in-Property-clause-answers c = property_answers c.args.context.now c.args.place c.in-Property.slot (there_found (λ (f : CheckedNode). f.kind ≡ NodeKind.Property c.in-Property.slot) (slice_get c.args.context.now.list.nodes c.args.place) c.node.result.now c.node.ensures c.in-Property.is) c.property.result.now c.property.ensures

pub returns-in-Property-clause-leaf : goal.returns-in-Property-clause-leaf
returns-in-Property-clause-leaf c = kind_walks c.args.context.now.list c.args.place (NodeKind.Property c.in-Property.slot) WalkClass.Leaf refl (there_found (λ (f : CheckedNode). f.kind ≡ NodeKind.Property c.in-Property.slot) (slice_get c.args.context.now.list.nodes c.args.place) c.node.result.now c.node.ensures c.in-Property.is)

pub literal-requires : goal.literal-requires
literal-requires c = literal_within c.args.context.now c.args.place c.in-Literal.kind c.in-Literal.value (there_found (λ (f : CheckedNode). f.kind ≡ NodeKind.Literal c.in-Literal.kind c.in-Literal.value) (slice_get c.args.context.now.list.nodes c.args.place) c.node.result.now c.node.ensures c.in-Literal.is) c.requires.stands

pub returns-in-Literal-clause-answers : goal.returns-in-Literal-clause-answers
returns-in-Literal-clause-answers c = literal_answers c.args.context.now c.args.place c.in-Literal.kind c.in-Literal.value (there_found (λ (f : CheckedNode). f.kind ≡ NodeKind.Literal c.in-Literal.kind c.in-Literal.value) (slice_get c.args.context.now.list.nodes c.args.place) c.node.result.now c.node.ensures c.in-Literal.is) c.literal.result.now c.literal.ensures

pub returns-in-Literal-clause-leaf : goal.returns-in-Literal-clause-leaf
returns-in-Literal-clause-leaf c = kind_walks c.args.context.now.list c.args.place (NodeKind.Literal c.in-Literal.kind c.in-Literal.value) WalkClass.Leaf refl (there_found (λ (f : CheckedNode). f.kind ≡ NodeKind.Literal c.in-Literal.kind c.in-Literal.value) (slice_get c.args.context.now.list.nodes c.args.place) c.node.result.now c.node.ensures c.in-Literal.is)
