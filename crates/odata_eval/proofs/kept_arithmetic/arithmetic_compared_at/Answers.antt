use Rattle.std.proofs.Common.{◌≡◌, ℕ, ◌<◌, ◌≤◌, ◌+◌, ◌-◌, Ok, arith, length, rules, subst}
use Rattle.odata_syntax.specs.declared.binary_operator.BinaryOperator.{BinaryOperator}
use Rattle.filter_context.specs.declared.walk_class.WalkClass.{WalkClass}
use Rattle.filter_context.specs.private.Place.{IsClassAt, PartStands}
use Rattle.odata_eval.specs.private.WalkAnswer.{AnswersNumber}
use Rattle.odata_eval.proofs.walking.AndChains.{left_side}
use Rattle.odata_eval.proofs.walking.Compared.{numbers_compared}
use Rattle.filter_context.proofs.Extents.{right_part, right_there}
use Rattle.filter_context.proofs.Operands.{operand_inside, tree_of_class}
use Rattle.filter_context.proofs.Spines.{at_top, part_down, with_first}
use Rattle.odata_eval.proofs.kept_arithmetic.arithmetic_compared_at.Goals as goal

pub right_of-right_place-requires : goal.right_of-right_place-requires
right_of-right_place-requires c = right_there c.args.context.now c.args.place (BinaryOperator.Comparison c.args.comparison) c.requires.here c.requires.stands

pub found_number_at-requires : goal.found_number_at-requires
found_number_at-requires c = record {
  stands = right_part c.args.context.now c.args.place (BinaryOperator.Comparison c.args.comparison) c.requires.here c.requires.stands c.right_of-right_place.result c.right_of-right_place.ensures;
}

pub overflow_add-top : goal.overflow_add-top
overflow_add-top c =
    let within : c.args.place + 1 < length c.args.context.now.list.nodes = operand_inside c.args.context.now (c.args.place + 1) (left_side c.args.context.now c.args.place (BinaryOperator.Comparison c.args.comparison) c.requires.here c.requires.stands) in
    let same = c.nodes-nodes.ensures in
    search rules

pub overflow_add-top-2 : goal.overflow_add-top-2
overflow_add-top-2 c =
    let within : c.args.place + 1 < length c.args.context.now.list.nodes = operand_inside c.args.context.now (c.args.place + 1) (left_side c.args.context.now c.args.place (BinaryOperator.Comparison c.args.comparison) c.requires.here c.requires.stands) in
    let same = c.nodes-nodes.ensures in
    search rules

pub found_number_at-requires-2 : goal.found_number_at-requires-2
found_number_at-requires-2 c =
    let left : PartStands c.args.context.now (c.args.place + 1) =
    tree_of_class c.args.context.now (c.args.place + 1) WalkClass.Numeric (λ leaf. cc) c.requires.numeric
    (left_side c.args.context.now c.args.place (BinaryOperator.Comparison c.args.comparison) c.requires.here c.requires.stands) in
    record {
      stands = part_down c.args.context.now WalkClass.Numeric (λ leaf. cc) (c.args.place + 1) c.spine_bottom-bottom.result (omega (arith, c.spine_bottom-bottom.ensures.below)) left
          (with_first (IsClassAt c.args.context.now.list WalkClass.Numeric) (c.args.place + 1) c.spine_bottom-bottom.result c.requires.numeric c.spine_bottom-bottom.ensures.spine);
    }

pub calculation_at-requires : goal.calculation_at-requires
calculation_at-requires c =
    let l = c.loop-at in
    let left : PartStands c.args.context.now (c.args.place + 1) =
    tree_of_class c.args.context.now (c.args.place + 1) WalkClass.Numeric (λ leaf. cc) c.requires.numeric
    (left_side c.args.context.now c.args.place (BinaryOperator.Comparison c.args.comparison) c.requires.here c.requires.stands) in
    let above : c.args.place + 1 < l.at = omega arith in
    let within : l.at ≤ c.spine_bottom-bottom.result = l.invariant.within in
    let e : l.at ≡ l.at - 1 + 1 = omega arith in
    let spine = with_first (IsClassAt c.args.context.now.list WalkClass.Numeric) (c.args.place + 1) c.spine_bottom-bottom.result c.requires.numeric c.spine_bottom-bottom.ensures.spine in
    record {
      stands = tree_of_class c.args.context.now (l.at - 1) WalkClass.Numeric (λ leaf. cc) (spine (l.at - 1) (omega arith) (omega arith))
          (part_down c.args.context.now WalkClass.Numeric (λ leaf. cc) (c.args.place + 1) (l.at - 1) (omega arith) left (λ i before from. spine i (omega arith) from));
      left = subst (λ (k : ℕ). AnswersNumber c.args.context.now k (Ok l.number)) e l.invariant.answers;
    }

pub loop-at-preserved : goal.loop-at-preserved
loop-at-preserved c =
    let l = c.loop-at in
    let within : l.at ≤ c.spine_bottom-bottom.result = l.invariant.within in
    record {
      above = omega arith;
      within = omega arith;
      answers = c.in-Some-calculation_at.ensures;
    }

pub returns : goal.returns
returns c =
    let here = c.requires.here in
    let left : AnswersNumber c.args.context.now (c.args.place + 1) (Ok c.loop-at.number) =
    at_top (λ k. AnswersNumber c.args.context.now k (Ok c.loop-at.number)) c.loop-at.at (c.args.place + 1) c.loop-at.invariant.above (omega arith) c.loop-at.invariant.answers in
    numbers_compared c.args.context.now c.args.place c.args.comparison here c.right_of-right_place.result c.right_of-right_place.ensures c.loop-at.number c.in-Some.right c.compare_numbers.result
    left c.in-Some.ensures.answers c.compare_numbers.ensures
