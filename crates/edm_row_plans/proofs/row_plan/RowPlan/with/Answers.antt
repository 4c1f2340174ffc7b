use Rattle.edm_row_plans.proofs.row_plan.RowPlan.with.Goals as goal

pub returns-clause-schema : goal.returns-clause-schema
returns-clause-schema c = record { held = c.requires; plans = c.type_plans-plans.ensures }
