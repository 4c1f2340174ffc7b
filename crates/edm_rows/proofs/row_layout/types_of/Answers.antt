use Rattle.std.proofs.Common.{◌≡◌, List, inr, Some, slice_get, subst}
use Rattle.edm_row_plans.specs.declared.type_plan.TypePlan.{TypePlan}
use Rattle.edm_rows.proofs.RowSteps.{types_of_plan}
use Rattle.edm_rows.proofs.row_layout.types_of.Goals as goal

pub returns-in-Some-row_types-clause-types : goal.returns-in-Some-row_types-clause-types
returns-in-Some-row_types-clause-types c =
    let root = c.in-Some.ensures in
    let first = c.in-Some._root.now in
    inr (types_of_plan c.args.schema.now c.args.plan.now c.in-Some-row_types.types.items first c.in-Some-row_types.ensures.planned (subst (λ (l : List TypePlan). slice_get l 0 ≡ Some first) c.as_slice.ensures.value root.at) root.of_type root.of_node c.if-not-plan.false)
