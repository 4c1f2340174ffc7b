use Rattle.std.proofs.Common.{◌+◌, arith}
use Rattle.odata_syntax.specs.declared.binary_operator.BinaryOperator.{BinaryOperator}
use Rattle.odata_eval.proofs.walking.AndChains.{left_side}
use Rattle.odata_eval.proofs.walking.Compared.{numbers_compared}
use Rattle.filter_context.proofs.Extents.{right_further, right_part, right_there}
use Rattle.filter_context.proofs.Operands.{tree_of_kind}
use Rattle.odata_checked_filter.specs.declared.checked_node.NodeKind.{NodeKind}
use Rattle.odata_eval.proofs.kept_operands.length_compared_at.Goals as goal

pub right_of-right_place-requires : goal.right_of-right_place-requires
right_of-right_place-requires c = right_there c.args.context.now c.args.place (BinaryOperator.Comparison c.args.comparison) c.requires.here c.requires.stands

pub overflow_add-place : goal.overflow_add-place
overflow_add-place c =
    let behind = right_further c.args.context.now c.args.place (BinaryOperator.Comparison c.args.comparison) c.requires.here c.requires.stands c.right_of-right_place.result c.right_of-right_place.ensures in
    omega (arith, behind, c.right_of-right_place.type_inv)

pub length_at-requires : goal.length_at-requires
length_at-requires c = record {
  stands = tree_of_kind c.args.context.now (c.args.place + 1) (NodeKind.Call c.args.function) tt c.requires.call
      (left_side c.args.context.now c.args.place (BinaryOperator.Comparison c.args.comparison) c.requires.here c.requires.stands);
  here = c.requires.call;
}

pub found_number_at-requires : goal.found_number_at-requires
found_number_at-requires c = record {
  stands = right_part c.args.context.now c.args.place (BinaryOperator.Comparison c.args.comparison) c.requires.here c.requires.stands c.right_of-right_place.result c.right_of-right_place.ensures;
}

pub returns : goal.returns
returns c =
    let here = c.requires.here in
    numbers_compared c.args.context.now c.args.place c.args.comparison here c.right_of-right_place.result c.right_of-right_place.ensures c.in-Some.left c.in-Some-found_number_at.right c.compare_numbers.result
    c.in-Some.ensures c.in-Some-found_number_at.ensures.answers c.compare_numbers.ensures
