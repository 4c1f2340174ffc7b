use Rattle.edm_row_plans.proofs.type_plan.type_plan.Goals as goal

pub returns-in-Some : goal.returns-in-Some
returns-in-Some c = record { distinct = c.slots.ensures.distinct; planned = c.in-Some.ensures }
