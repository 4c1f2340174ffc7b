use Rattle.std.proofs.Common.{sym, ◌∙◌, subst}
use Rattle.edm_row_plans.specs.Plans.{IsPlanOf}
use Rattle.row_judges.proofs.filter_rows.FilterRows.of.Goals as goal

pub new-type_rows-requires : goal.new-type_rows-requires
new-type_rows-requires c = subst (λ schema. IsPlanOf schema c.plan_of.result) (sym c.requires) c.plan_of.ensures.schema

pub keep_filtered-requires : goal.keep_filtered-requires
keep_filtered-requires c =
    let new = c.new-type_rows.ensures in
    record {
      schema = new.schema ∙ c.requires;
      type_id = new.type_id ∙ c.plan_of.ensures.type_id;
      whole = λ whole. new.expansion ∙ c.plan_of.ensures.whole (sym new.whole ∙ whole);
    }
