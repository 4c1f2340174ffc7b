use Rattle.edm_row_plans.specs.Plans.{ArePlans}
use Rattle.edm_row_plans.proofs.type_plan.type_plans.Given as goal

abbrev pub invariant-loop-place : goal.invariant-loop-place
invariant-loop-place l = ArePlans l.schema l.expansion l.plans.items
