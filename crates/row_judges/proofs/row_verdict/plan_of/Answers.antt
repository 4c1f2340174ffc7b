use Rattle.std.proofs.Common.{inl, inr, sym, ◌∙◌, subst, ⊎_elim}
use Rattle.csdl_schema.specs.SchemaModel.{HoldsType}
use Rattle.edm_row_plans.specs.Plans.{IsPlanOf}
use Rattle.row_judges.proofs.row_verdict.plan_of.Goals as goal

pub new-requires : goal.new-requires
new-requires c = subst (λ schema. HoldsType schema c.filtered_type.result) (sym c.schema.ensures) c.filtered_type.ensures.held

pub returns-clause-schema : goal.returns-clause-schema
returns-clause-schema c = subst (λ schema. IsPlanOf schema c.new.result) c.schema.ensures c.new.ensures.schema

pub returns-clause-type_id : goal.returns-clause-type_id
returns-clause-type_id c = c.new.ensures.type_id ∙ c.filtered_type.ensures.same

pub returns-clause-whole : goal.returns-clause-whole
returns-clause-whole c whole = c.new.ensures.whole whole ∙ c.expansion.ensures.same

pub returns-clause-expansion : goal.returns-clause-expansion
returns-clause-expansion c = ⊎_elim (λ same. inl (same ∙ c.expansion.ensures.same)) (λ none. inr none) c.new.ensures.expansion
