use Rattle.std.proofs.Common.{◌≡◌, subst, slice_get, ℤ, Option, Result}
use Rattle.odata_checked_filter.specs.declared.checked_node.CheckedNode.{CheckedNode}
use Rattle.odata_checked_filter.specs.declared.checked_node.NodeKind.{NodeKind}
use Rattle.odata_filter_operations.specs.declared.eval_fault.EvalFault.{EvalFault}
use Rattle.odata_syntax.specs.declared.binary_operator.BinaryOperator.{BinaryOperator}
use Rattle.odata_eval.specs.private.WalkAnswer.{AnswersNumber}
use Rattle.odata_meaning.specs.private.LawsBelow.{Promotes}
use Rattle.filter_context.proofs.Extents.{right_part, right_there}
use Rattle.filter_context.proofs.Parts.{part_inside, there_found}
use Rattle.odata_eval.proofs.walking.WalkSteps.{calculation_answers, numbers_there}
use Rattle.odata_eval.proofs.kept_arithmetic.calculation_at.Goals as goal

pub node-node-requires : goal.node-node-requires
node-node-requires c = part_inside c.args.context.now c.args.place c.requires.stands

pub right_of-right_place-requires : goal.right_of-right_place-requires
right_of-right_place-requires c =
    let here = there_found (λ (f : CheckedNode). f.kind ≡ NodeKind.Binary (BinaryOperator.Arithmetic c.in-Some.operator)) (slice_get c.args.context.now.list.nodes c.args.place) c.node-node.result.now c.node-node.ensures c.in-Some.ensures.some in
    right_there c.args.context.now c.args.place (BinaryOperator.Arithmetic c.in-Some.operator) here c.requires.stands

pub found_number_at-requires : goal.found_number_at-requires
found_number_at-requires c =
    let here = there_found (λ (f : CheckedNode). f.kind ≡ NodeKind.Binary (BinaryOperator.Arithmetic c.in-Some.operator)) (slice_get c.args.context.now.list.nodes c.args.place) c.node-node.result.now c.node-node.ensures c.in-Some.ensures.some in
    record {
      stands = right_part c.args.context.now c.args.place (BinaryOperator.Arithmetic c.in-Some.operator) here c.requires.stands c.right_of-right_place.result c.right_of-right_place.ensures;
    }

pub calculated-requires : goal.calculated-requires
calculated-requires c =
    let here = there_found (λ (f : CheckedNode). f.kind ≡ NodeKind.Binary (BinaryOperator.Arithmetic c.in-Some.operator)) (slice_get c.args.context.now.list.nodes c.args.place) c.node-node.result.now c.node-node.ensures c.in-Some.ensures.some in
    let promotes : Promotes = record { left = c.operands_lie_within_promotion.ensures.left; right = c.operands_lie_within_promotion.ensures.right; negation = c.operands_lie_within_promotion.ensures.negation; three = c.operands_lie_within_promotion.ensures.three } in
    numbers_there c.args.context.now c.args.place c.in-Some.operator here c.right_of-right_place.result c.right_of-right_place.ensures c.args.left c.in-Some-found_number_at.right
    c.requires.left c.in-Some-found_number_at.ensures.answers c.node-node.result.now c.node-node.ensures c.ends_once.ensures promotes c.requires.stands

pub returns-then-is_some : goal.returns-then-is_some
returns-then-is_some c =
    let here = there_found (λ (f : CheckedNode). f.kind ≡ NodeKind.Binary (BinaryOperator.Arithmetic c.in-Some.operator)) (slice_get c.args.context.now.list.nodes c.args.place) c.node-node.result.now c.node-node.ensures c.in-Some.ensures.some in
    let given : AnswersNumber c.args.context.now c.args.place c.calculated.result =
    calculation_answers c.args.context.now c.args.place c.in-Some.operator here c.right_of-right_place.result c.right_of-right_place.ensures c.args.left c.in-Some-found_number_at.right
    c.requires.left c.in-Some-found_number_at.ensures.answers c.node-node.result.now c.node-node.ensures c.calculated.result c.trees_have_one_type.ensures c.calculated.ensures in
    subst (λ (r : Result (Option ℤ) EvalFault). AnswersNumber c.args.context.now c.args.place r) c.in-Ok.is given
