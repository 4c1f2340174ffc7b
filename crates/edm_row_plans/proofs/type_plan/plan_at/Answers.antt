use Rattle.std.proofs.Common.{length, refl, arith}
use Rattle.std.proofs.lemmas.Option.{slice_get_read}
use Rattle.edm_row_plans.proofs.PlanLemmas.{plan_there}
use Rattle.edm_row_plans.proofs.type_plan.plan_at.Goals as goal

pub returns-then-are_same_nodes-clause-at : goal.returns-then-are_same_nodes-clause-at
returns-then-are_same_nodes-clause-at c =
    let plans = c.args.plans.now in
    slice_get_read plans (length plans) c.args.place c.index-plans-place.result refl (omega arith) c.index-plans-place.is

pub returns-then-are_same_nodes-clause-plan : goal.returns-then-are_same_nodes-clause-plan
returns-then-are_same_nodes-clause-plan c schema steps are =
    let plans = c.args.plans.now in
    let plan = c.index-plans-place.result in
    plan_there schema steps plans c.args.place plan are (slice_get_read plans (length plans) c.args.place plan refl (omega arith) c.index-plans-place.is)
