use Rattle.std.proofs.Common.{inl, sym, subst, length}
use Rattle.odata_signatures.specs.ExprTypes.{IsBooleanOrNull}
use Rattle.odata_signatures.specs.TypeView.{expr_type}
use Rattle.odata_signatures.specs.declared.edm_type.EdmType.{EdmType}
use Rattle.odata_typing.proofs.placed.Listed.{not_true}
use Rattle.odata_typing.proofs.stacks.Contexts.{whole_list_run}
use Rattle.odata_typing.proofs.untypable.Wholes.{first_fault, no_truth, some_place, whole_judged, whole_put}
use Rattle.odata_typing.proofs.checker.judge_nodes.Goals as goal

pub checked_nodes-requires-clause-run : goal.checked_nodes-requires-clause-run
checked_nodes-requires-clause-run c = whole_list_run c.args.context.now c.requires.context

pub type_at-requires : goal.type_at-requires
type_at-requires c =
    let context = c.args.context.now in
    let judged = whole_judged context c.args.walk.now c.checked_nodes.new.walk c.checked_nodes.result c.requires.context c.requires.scope c.checked_nodes.ensures in
    let put = rw c.if-checked_nodes.true at judged in
    some_place context c.checked_nodes.new.walk _ _ put.stands

pub returns-then-is_truth-clause-stands : goal.returns-then-is_truth-clause-stands
returns-then-is_truth-clause-stands c =
    let context = c.args.context.now in
    let judged = whole_judged context c.args.walk.now c.checked_nodes.new.walk c.checked_nodes.result c.requires.context c.requires.scope c.checked_nodes.ensures in
    let put = rw c.if-checked_nodes.true at judged in
    whole_put context c.args.walk.now c.checked_nodes.new.walk c.requires.ready put

pub returns-then-is_truth-clause-truth : goal.returns-then-is_truth-clause-truth
returns-then-is_truth-clause-truth c = λ found at.
    let schema = c.args.context.now.schema.now in
    subst (λ (t : EdmType). IsBooleanOrNull (expr_type schema t)) (c.type_at.ensures found at)
    ((c.is_truth.ensures schema).0 c.if-is_truth.true)

pub returns-else-is_truth-clause-fault : goal.returns-else-is_truth-clause-fault
returns-else-is_truth-clause-fault c =
    let context = c.args.context.now in
    let schema = context.schema.now in
    let walk = c.checked_nodes.new.walk in
    let judged = whole_judged context c.args.walk.now walk c.checked_nodes.result c.requires.context c.requires.scope c.checked_nodes.ensures in
    let put = rw c.if-checked_nodes.true at judged in
    no_truth schema context.filtered_type _ walk (length context.text.now) c.not_boolean.result
    (whole_put context c.args.walk.now walk c.requires.ready put) c.not_boolean.ensures
    (λ found at truth. not_true c.is_truth.result c.if-is_truth.false ((c.is_truth.ensures schema).1 (subst (λ (t : EdmType). IsBooleanOrNull (expr_type schema t)) (sym (c.type_at.ensures found at)) truth)))

pub returns-in-Some-clause-fault : goal.returns-in-Some-clause-fault
returns-in-Some-clause-fault c =
    let context = c.args.context.now in
    let judged = whole_judged context c.args.walk.now c.checked_nodes.new.walk c.checked_nodes.result c.requires.context c.requires.scope c.checked_nodes.ensures in
    let found = rw c.if-checked_nodes.false at judged in
    inl (first_fault c.checked_nodes.new.walk.fault c.in-Some.fault _ c.in-Some.is found)
