use Rattle.std.proofs.Common.{◌≡◌, ◌∙◌, ap, slice_get}
use Rattle.odata_checked_filter.specs.declared.checked_node.CheckedNode.{CheckedNode}
use Rattle.odata_checked_filter.specs.declared.checked_node.NodeKind.{NodeKind}
use Rattle.odata_syntax.specs.declared.binary_operator.BinaryOperator.{BinaryOperator}
use Rattle.odata_signatures.specs.ExprTypes.{IsBooleanOrNull}
use Rattle.odata_eval.proofs.walking.AndChains.{kept_answers}
use Rattle.odata_eval.proofs.walking.KeptValues.{value_kept}
use Rattle.odata_eval.proofs.walking.Leaves.{property_answers, property_within}
use Rattle.filter_context.proofs.Parts.{part_inside, there_found}
use Rattle.odata_eval.proofs.walking.Readings.{truth_values}
use Rattle.filter_context.proofs.Spines.{typed_part}
use Rattle.filter_context.proofs.Operands.{tree_operand}
use Rattle.odata_eval.proofs.kept_terms.kept_truth_at.Goals as goal

pub node-requires : goal.node-requires
node-requires c = part_inside c.args.context.now c.args.place (typed_part c.args.context.now c.args.place IsBooleanOrNull c.requires.stands)

pub property-requires : goal.property-requires
property-requires c =
    property_within c.args.context.now c.args.place c.in-Property.slot
    (there_found (λ (f : CheckedNode). f.kind ≡ NodeKind.Property c.in-Property.slot) (slice_get c.args.context.now.list.nodes c.args.place) c.node.result.now c.node.ensures c.in-Property.is)
    (tree_operand c.args.context.now c.args.place (typed_part c.args.context.now c.args.place IsBooleanOrNull c.requires.stands))

pub kept_truth-requires : goal.kept_truth-requires
kept_truth-requires c =
    value_kept c.args.context.now c.args.place c.property.result.now
    (property_answers c.args.context.now c.args.place c.in-Property.slot
    (there_found (λ (f : CheckedNode). f.kind ≡ NodeKind.Property c.in-Property.slot) (slice_get c.args.context.now.list.nodes c.args.place) c.node.result.now c.node.ensures c.in-Property.is)
    c.property.result.now c.property.ensures)
    truth_values c.ends_once.ensures c.requires.stands

pub returns-in-Property : goal.returns-in-Property
returns-in-Property c =
    kept_answers c.args.context.now c.args.place c.property.result.now
    (property_answers c.args.context.now c.args.place c.in-Property.slot
    (there_found (λ (f : CheckedNode). f.kind ≡ NodeKind.Property c.in-Property.slot) (slice_get c.args.context.now.list.nodes c.args.place) c.node.result.now c.node.ensures c.in-Property.is)
    c.property.result.now c.property.ensures)
    c.kept_truth.result c.kept_truth.ensures

pub compared_with_literal-requires : goal.compared_with_literal-requires
compared_with_literal-requires c = record {
  stands = typed_part c.args.context.now c.args.place IsBooleanOrNull c.requires.stands;
  here = there_found (λ (f : CheckedNode). f.kind ≡ NodeKind.Binary (BinaryOperator.Comparison c.in-Comparison.comparison)) (slice_get c.args.context.now.list.nodes c.args.place) c.node.result.now c.node.ensures
      (c.in-Binary.is ∙ ap NodeKind.Binary c.in-Comparison.is);
}

pub returns-in-Comparison : goal.returns-in-Comparison
returns-in-Comparison c = c.compared_with_literal.ensures
