use Rattle.std.proofs.Common.{List, sym, ap, ◌∙◌, subst, IfSome}
use Rattle.csdl_schema.specs.ExpansionView.{StepModel, paths_in}
use Rattle.edm_entities.specs.Row.{Row}
use Rattle.odata_checked_filter.specs.Filter.{tree_of_filter}
use Rattle.odata_meaning.specs.MeansOn.{IsTheOutcome}
use Rattle.odata_eval.specs.VerdictView.{reported_outcome}
use Rattle.row_judges.proofs.RowLemmas.RowsInPlace.{held_reported}
use Rattle.row_judges.proofs.row_judge.RowJudge.answer_held.Goals as goal

pub evaluate_with-requires : goal.evaluate_with-requires
evaluate_with-requires c =
    let is = c.entity-entity.ensures in
    record {
      whole = c.requires.tests;
      one_schema = sym (ap (λ (r : Row). r.schema) is ∙ c.requires.rows.schema);
      one_type = sym (ap (λ (r : Row). r.type_id) is ∙ c.requires.rows.type_id);
      covers = λ path needed. (ap (λ (r : Row). paths_in r.expansion path) is ∙ ap (λ (steps : List StepModel). paths_in steps path) (c.requires.rows.whole c.requires.whole)) ∙ needed;
    }

pub returns : goal.returns
returns c json read =
    let filter = c.args.self.now.checked.now in
    let now = c.args.self.now.moment.now in
    let answer = c.evaluate_with.result in
    held_reported filter now c.args.rows.now c.requires.rows c.requires.whole json answer read
    (subst (λ (r : Row). IfSome (reported_outcome answer) (IsTheOutcome r now (tree_of_filter filter))) c.entity-entity.ensures c.evaluate_with.ensures.outcome)
