use Rattle.std.proofs.Common.{◌≡◌, ◌⊎◌, false, List, sym, ◌∙◌, subst, IsTrue}
use Rattle.csdl_schema.specs.ExpansionView.{StepModel, paths_in}
use Rattle.csdl_schema.specs.PathSet.{PropertyPath}
use Rattle.edm_row_plans.specs.Plans.{IsPlanOf}
use Rattle.row_judges.proofs.row_verdict.row_layout_of.Goals as goal

pub new-requires : goal.new-requires
new-requires c = subst (λ schema. IsPlanOf schema c.plan_of.result) (sym c.requires) c.plan_of.ensures.schema

pub returns-clause-layout : goal.returns-clause-layout
returns-clause-layout c =
    let new = c.new.ensures in
    record {
      schema = new.schema ∙ c.requires;
      type_id = new.type_id ∙ c.plan_of.ensures.type_id;
      whole = λ whole. new.expansion ∙ c.plan_of.ensures.whole (sym new.whole ∙ whole);
    }

pub returns-clause-expansion : goal.returns-clause-expansion
returns-clause-expansion c =
    subst (λ (steps : List StepModel). (steps ≡ c.args.checked.now.expansion) ⊎ ((path : PropertyPath) → paths_in steps path ≡ false)) (sym c.new.ensures.expansion) c.plan_of.ensures.expansion

pub returns-clause-unexpanded : goal.returns-clause-unexpanded
returns-clause-unexpanded c none = subst IsTrue (sym c.new.ensures.whole) (c.plan_of.ensures.unexpanded none)
