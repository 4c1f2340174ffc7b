use Rattle.std.proofs.Common.{◌≡◌, ◌∙◌, ◌<◌, ap, length, rules, slice_get}
use Rattle.odata_checked_filter.specs.declared.checked_node.CheckedNode.{CheckedNode}
use Rattle.odata_checked_filter.specs.declared.checked_node.NodeKind.{NodeKind}
use Rattle.odata_syntax.specs.declared.binary_operator.BinaryOperator.{BinaryOperator}
use Rattle.odata_signatures.specs.ExprTypes.{IsBooleanOrNull}
use Rattle.filter_context.proofs.Parts.{part_inside, there_found}
use Rattle.filter_context.proofs.Spines.{typed_part}
use Rattle.odata_eval.proofs.and_chain.plain_term_at.Goals as goal

pub returns-in-Some : goal.returns-in-Some
returns-in-Some c = c.in-Some.ensures

pub node-requires : goal.node-requires
node-requires c = part_inside c.args.context.now c.args.place (typed_part c.args.context.now c.args.place IsBooleanOrNull c.requires.stands)

pub overflow_add-place : goal.overflow_add-place
overflow_add-place c =
    let within : c.args.place < length c.args.context.now.list.nodes = part_inside c.args.context.now c.args.place (typed_part c.args.context.now c.args.place IsBooleanOrNull c.requires.stands) in
    let same = c.nodes-nodes.ensures in
    search rules

pub compared_with_literal-requires : goal.compared_with_literal-requires
compared_with_literal-requires c = record {
  stands = typed_part c.args.context.now c.args.place IsBooleanOrNull c.requires.stands;
  here = there_found (λ (f : CheckedNode). f.kind ≡ NodeKind.Binary (BinaryOperator.Comparison c.in-Comparison.comparison)) (slice_get c.args.context.now.list.nodes c.args.place) c.node.result.now c.node.ensures
      (c.in-Binary.is ∙ ap NodeKind.Binary c.in-Comparison.is);
}

pub arithmetic_compared_at-requires : goal.arithmetic_compared_at-requires
arithmetic_compared_at-requires c = record {
  stands = typed_part c.args.context.now c.args.place IsBooleanOrNull c.requires.stands;
  here = there_found (λ (f : CheckedNode). f.kind ≡ NodeKind.Binary (BinaryOperator.Comparison c.in-Comparison.comparison)) (slice_get c.args.context.now.list.nodes c.args.place) c.node.result.now c.node.ensures
      (c.in-Binary.is ∙ ap NodeKind.Binary c.in-Comparison.is);
  numeric = c.is_class_at.ensures.0 c.if-is_class_at.true;
}

pub returns-then-is_class_at : goal.returns-then-is_class_at
returns-then-is_class_at c = c.arithmetic_compared_at.ensures
