use Rattle.std.proofs.Common.{List, sym, ap, ◌∙◌, subst, IfSome}
use Rattle.csdl_schema.specs.ExpansionView.{StepModel, paths_in}
use Rattle.edm_entities.specs.Row.{Row}
use Rattle.odata_checked_filter.specs.Filter.{tree_of_filter}
use Rattle.odata_eval.specs.CostsOn.{KeepsBound}
use Rattle.odata_meaning.specs.MeansOn.{IsTheOutcome}
use Rattle.odata_eval.specs.VerdictView.{outcome_reported}
use Rattle.row_judges.specs.RowCosts.{ReportsRowWithin}
use Rattle.row_judges.proofs.RowLemmas.RowsInPlace.{held_within}
use Rattle.row_judges.proofs.bounded_judge.BoundedJudge.judge_held.Goals as goal

pub judge_entity-requires : goal.judge_entity-requires
judge_entity-requires c =
    let is = c.entity-entity.ensures in
    record {
      schema = ap (λ (r : Row). r.schema) is ∙ c.requires.rows.schema;
      type_id = ap (λ (r : Row). r.type_id) is ∙ c.requires.rows.type_id;
      expansion = λ path. ap (λ (r : Row). paths_in r.expansion path) is ∙ ap (λ (steps : List StepModel). paths_in steps path) (c.requires.rows.whole c.requires.whole);
    }

pub returns : goal.returns
returns c line read =
    let filter = c.args.self.now.checked.now in
    let now = c.args.self.now.moment.now in
    let most = c.args.self.now.most in
    let answer = c.judge_entity.result in
    let is = c.entity-entity.ensures in
    subst (ReportsRowWithin filter now line most) (sym c.reported.ensures)
    (held_within filter now c.args.rows.now c.requires.rows c.requires.whole line most answer read
    (subst (λ (r : Row). IfSome (outcome_reported answer) (IsTheOutcome r now (tree_of_filter filter))) is c.judge_entity.ensures.outcome)
    (subst (λ (r : Row). KeepsBound r now (tree_of_filter filter) most answer) is c.judge_entity.ensures.bound))
