use Rattle.std.proofs.Common.{◌+◌, arith}
use Rattle.odata_syntax.specs.declared.binary_operator.BinaryOperator.{BinaryOperator}
use Rattle.odata_eval.proofs.walking.AndChains.{left_side}
use Rattle.odata_eval.proofs.walking.Compared.{kept_compared, may_compare_kept}
use Rattle.filter_context.proofs.Extents.{right_further, right_part, right_there}
use Rattle.filter_context.proofs.Operands.{tree_of_kind}
use Rattle.odata_checked_filter.specs.declared.checked_node.NodeKind.{NodeKind}
use Rattle.odata_eval.proofs.kept_operands.step_compared_at.Goals as goal

pub right_of-right_place-requires : goal.right_of-right_place-requires
right_of-right_place-requires c = right_there c.args.context.now c.args.place (BinaryOperator.Comparison c.args.comparison) c.requires.here c.requires.stands

pub overflow_add-place : goal.overflow_add-place
overflow_add-place c =
    let behind = right_further c.args.context.now c.args.place (BinaryOperator.Comparison c.args.comparison) c.requires.here c.requires.stands c.right_of-right_place.result c.right_of-right_place.ensures in
    omega (arith, behind, c.right_of-right_place.type_inv)

pub step_at-requires : goal.step_at-requires
step_at-requires c = record {
  stands = tree_of_kind c.args.context.now (c.args.place + 1) (NodeKind.Member c.args.slot) tt c.requires.step
      (left_side c.args.context.now c.args.place (BinaryOperator.Comparison c.args.comparison) c.requires.here c.requires.stands);
  here = c.requires.step;
}

pub kept_at-requires : goal.kept_at-requires
kept_at-requires c = right_part c.args.context.now c.args.place (BinaryOperator.Comparison c.args.comparison) c.requires.here c.requires.stands c.right_of-right_place.result c.right_of-right_place.ensures

pub compare_kept-requires : goal.compare_kept-requires
compare_kept-requires c =
    let here = c.requires.here in
    may_compare_kept c.args.context.now c.args.place c.args.comparison here c.right_of-right_place.result c.right_of-right_place.ensures c.in-Some.left.now c.in-Some-kept_at.right.now
    c.in-Some.ensures.answers c.in-Some-kept_at.ensures.answers c.ends_once.ensures c.comparisons_are_decided.ensures.any_contents c.requires.stands

pub returns : goal.returns
returns c =
    let here = c.requires.here in
    kept_compared c.args.context.now c.args.place c.args.comparison here c.right_of-right_place.result c.right_of-right_place.ensures c.in-Some.left.now c.in-Some-kept_at.right.now
    c.in-Some.ensures.answers c.in-Some-kept_at.ensures.answers c.ends_once.ensures c.comparisons_are_decided.ensures.any_contents c.requires.stands c.compare_kept.result c.compare_kept.ensures
