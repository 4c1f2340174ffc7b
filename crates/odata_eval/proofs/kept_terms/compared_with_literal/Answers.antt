use Rattle.std.proofs.Common.{◌≡◌, ◌<◌, ◌+◌, length, rules, slice_get}
use Rattle.odata_checked_filter.specs.declared.checked_node.CheckedNode.{CheckedNode}
use Rattle.odata_checked_filter.specs.declared.checked_node.NodeKind.{NodeKind}
use Rattle.odata_syntax.specs.declared.binary_operator.BinaryOperator.{BinaryOperator}
use Rattle.odata_eval.proofs.walking.AndChains.{left_side}
use Rattle.odata_eval.proofs.walking.Compared.{kept_compared, may_compare_kept}
use Rattle.odata_eval.proofs.walking.Leaves.{literal_answers, literal_within, property_answers, property_within}
use Rattle.filter_context.proofs.Extents.{right_part}
use Rattle.filter_context.proofs.Operands.{operand_inside}
use Rattle.filter_context.proofs.Parts.{part_inside, there_found}
use Rattle.odata_eval.proofs.kept_terms.compared_with_literal.Goals as goal

pub overflow_add-place : goal.overflow_add-place
overflow_add-place c =
    let within : c.args.place < length c.args.context.now.list.nodes = part_inside c.args.context.now c.args.place c.requires.stands in
    let same = c.nodes-nodes.ensures in
    search rules

pub node-requires : goal.node-requires
node-requires c = operand_inside c.args.context.now (c.args.place + 1) (left_side c.args.context.now c.args.place (BinaryOperator.Comparison c.args.comparison) c.requires.here c.requires.stands)

pub node-requires-2 : goal.node-requires-2
node-requires-2 c = operand_inside c.args.context.now c.right_of_property-right_place.result (right_part c.args.context.now c.args.place (BinaryOperator.Comparison c.args.comparison) c.requires.here c.requires.stands c.right_of_property-right_place.result c.right_of_property-right_place.ensures)

pub property-left-requires : goal.property-left-requires
property-left-requires c =
    property_within c.args.context.now (c.args.place + 1) c.in-Property.slot
    (there_found (λ (f : CheckedNode). f.kind ≡ NodeKind.Property c.in-Property.slot) (slice_get c.args.context.now.list.nodes (c.args.place + 1)) c.node.result.now c.node.ensures c.in-Property.is)
    (left_side c.args.context.now c.args.place (BinaryOperator.Comparison c.args.comparison) c.requires.here c.requires.stands)

pub right_of_property-right_place-requires : goal.right_of_property-right_place-requires
right_of_property-right_place-requires c = record {
  stands = left_side c.args.context.now c.args.place (BinaryOperator.Comparison c.args.comparison) c.requires.here c.requires.stands;
  here = there_found (λ (f : CheckedNode). f.kind ≡ NodeKind.Property c.in-Property.slot) (slice_get c.args.context.now.list.nodes (c.args.place + 1)) c.node.result.now c.node.ensures c.in-Property.is;
}

pub literal-right-requires : goal.literal-right-requires
literal-right-requires c =
    literal_within c.args.context.now c.right_of_property-right_place.result c.in-Literal.kind c.in-Literal.value
    (there_found (λ (f : CheckedNode). f.kind ≡ NodeKind.Literal c.in-Literal.kind c.in-Literal.value) (slice_get c.args.context.now.list.nodes c.right_of_property-right_place.result) c.node-2.result.now c.node-2.ensures c.in-Literal.is)
    (right_part c.args.context.now c.args.place (BinaryOperator.Comparison c.args.comparison) c.requires.here c.requires.stands c.right_of_property-right_place.result c.right_of_property-right_place.ensures)

pub compare_kept-requires : goal.compare_kept-requires
compare_kept-requires c =
    let left = property_answers c.args.context.now (c.args.place + 1) c.in-Property.slot
    (there_found (λ (f : CheckedNode). f.kind ≡ NodeKind.Property c.in-Property.slot) (slice_get c.args.context.now.list.nodes (c.args.place + 1)) c.node.result.now c.node.ensures c.in-Property.is) c.property-left.result.now c.property-left.ensures in
    let right = literal_answers c.args.context.now c.right_of_property-right_place.result c.in-Literal.kind c.in-Literal.value
    (there_found (λ (f : CheckedNode). f.kind ≡ NodeKind.Literal c.in-Literal.kind c.in-Literal.value) (slice_get c.args.context.now.list.nodes c.right_of_property-right_place.result) c.node-2.result.now c.node-2.ensures c.in-Literal.is) c.literal-right.result.now c.literal-right.ensures in
    may_compare_kept c.args.context.now c.args.place c.args.comparison c.requires.here c.right_of_property-right_place.result c.right_of_property-right_place.ensures c.property-left.result.now c.literal-right.result.now left right c.ends_once.ensures c.comparisons_are_decided.ensures.any_contents c.requires.stands

pub returns : goal.returns
returns c =
    let left = property_answers c.args.context.now (c.args.place + 1) c.in-Property.slot
    (there_found (λ (f : CheckedNode). f.kind ≡ NodeKind.Property c.in-Property.slot) (slice_get c.args.context.now.list.nodes (c.args.place + 1)) c.node.result.now c.node.ensures c.in-Property.is) c.property-left.result.now c.property-left.ensures in
    let right = literal_answers c.args.context.now c.right_of_property-right_place.result c.in-Literal.kind c.in-Literal.value
    (there_found (λ (f : CheckedNode). f.kind ≡ NodeKind.Literal c.in-Literal.kind c.in-Literal.value) (slice_get c.args.context.now.list.nodes c.right_of_property-right_place.result) c.node-2.result.now c.node-2.ensures c.in-Literal.is) c.literal-right.result.now c.literal-right.ensures in
    kept_compared c.args.context.now c.args.place c.args.comparison c.requires.here c.right_of_property-right_place.result c.right_of_property-right_place.ensures c.property-left.result.now c.literal-right.result.now left right c.ends_once.ensures c.comparisons_are_decided.ensures.any_contents c.requires.stands c.compare_kept.result c.compare_kept.ensures
