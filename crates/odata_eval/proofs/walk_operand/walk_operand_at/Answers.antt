use Rattle.std.proofs.Common.{◌≡◌, refl}
use Rattle.odata_checked_filter.specs.declared.checked_node.CheckedNode.{CheckedNode}
use Rattle.odata_checked_filter.specs.declared.checked_node.NodeKind.{NodeKind}
use Rattle.odata_eval.proofs.walking.Leaves.{literal_answers, literal_within, property_answers, property_within, variable_answers, variable_within}
use Rattle.filter_context.proofs.Parts.{there_found}
use Rattle.filter_context.specs.declared.walk_class.WalkClass.{WalkClass}
use Rattle.filter_context.proofs.Spines.{kind_walks}
use Rattle.filter_context.proofs.Operands.{operand_inside}
use Rattle.odata_eval.proofs.walk_operand.walk_operand_at.Goals as goal

pub returns-in-Property : goal.returns-in-Property
returns-in-Property c =
    let here = there_found (λ (f : CheckedNode). f.kind ≡ NodeKind.Property c.in-Property.slot) _ c.node.result.now c.node.ensures c.in-Property.is in (
      property_answers c.args.context.now c.args.place c.in-Property.slot
          (there_found (λ (f : CheckedNode). f.kind ≡ NodeKind.Property c.in-Property.slot) _ c.node.result.now c.node.ensures c.in-Property.is)
          c.property.result.now c.property.ensures,
      kind_walks c.args.context.now.list c.args.place (NodeKind.Property c.in-Property.slot) WalkClass.Leaf refl here,
    )

pub literal-requires : goal.literal-requires
literal-requires c =
    literal_within c.args.context.now c.args.place _ c.in-Literal.value
    (there_found (λ (f : CheckedNode). f.kind ≡ NodeKind.Literal _ c.in-Literal.value) _ c.node.result.now c.node.ensures c.in-Literal.is) c.requires.stands

pub returns-in-Literal : goal.returns-in-Literal
returns-in-Literal c =
    let here = there_found (λ (f : CheckedNode). f.kind ≡ NodeKind.Literal _ c.in-Literal.value) _ c.node.result.now c.node.ensures c.in-Literal.is in (
      literal_answers c.args.context.now c.args.place _ c.in-Literal.value
          (there_found (λ (f : CheckedNode). f.kind ≡ NodeKind.Literal _ c.in-Literal.value) _ c.node.result.now c.node.ensures c.in-Literal.is)
          c.literal.result.now c.literal.ensures,
      kind_walks c.args.context.now.list c.args.place (NodeKind.Literal _ c.in-Literal.value) WalkClass.Leaf refl here,
    )

pub node-requires : goal.node-requires
node-requires c = operand_inside c.args.context.now c.args.place c.requires.stands

pub property-requires : goal.property-requires
property-requires c =
    property_within c.args.context.now c.args.place c.in-Property.slot
    (there_found (λ (f : CheckedNode). f.kind ≡ NodeKind.Property c.in-Property.slot) _ c.node.result.now c.node.ensures c.in-Property.is) c.requires.stands

pub variable-requires : goal.variable-requires
variable-requires c =
    variable_within c.args.context.now c.args.place c.in-Variable.level
    (there_found (λ (f : CheckedNode). f.kind ≡ NodeKind.Variable c.in-Variable.level) _ c.node.result.now c.node.ensures c.in-Variable.is) c.requires.stands

pub returns-in-Variable : goal.returns-in-Variable
returns-in-Variable c =
    let here = there_found (λ (f : CheckedNode). f.kind ≡ NodeKind.Variable c.in-Variable.level) _ c.node.result.now c.node.ensures c.in-Variable.is in (
      variable_answers c.args.context.now c.args.place c.in-Variable.level
          (there_found (λ (f : CheckedNode). f.kind ≡ NodeKind.Variable c.in-Variable.level) _ c.node.result.now c.node.ensures c.in-Variable.is)
          c.variable.result.now c.variable.ensures,
      kind_walks c.args.context.now.list c.args.place (NodeKind.Variable c.in-Variable.level) WalkClass.Leaf refl here,
    )
