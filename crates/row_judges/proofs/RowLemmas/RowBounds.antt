-- From what is known of an entity within a bound to what is reported about its row.
use Rattle.std.proofs.Common.{ℕ, List, Option, Some, None, Result, Ok, Err, IfSome}
use Rattle.serde_json.specs.Data.{Data}
use Rattle.edm_values.specs.MomentParts.{MomentParts}
use Rattle.csdl_schema.specs.JsonText.{IsJsonOf}
use Rattle.edm_entities.specs.Row.{Row}
use Rattle.odata_checked_filter.specs.Filter.{Filter, tree_of_filter}
use Rattle.odata_filter_operations.specs.declared.eval_fault.EvalFault.{EvalFault}
use Rattle.odata_eval.specs.CostsOn.{KeepsBound}
use Rattle.odata_meaning.specs.MeansOn.{IsTheOutcome}
use Rattle.odata_eval.specs.VerdictView.{outcome_reported}
use Rattle.odata_eval.specs.declared.verdict.Verdict.{Verdict}
use Rattle.edm_entities.specs.declared.text_fault.TextFault.{TextFault}
use Rattle.row_judges.specs.RowAnswer.{ReportsRow}
use Rattle.row_judges.specs.RowCosts.{ReportsRowWithin}
use Rattle.row_judges.specs.private.BadTexts.{bad_text}
use Rattle.row_judges.specs.declared.bad_row.BadRow.{BadRow}
use Rattle.row_judges.proofs.RowLemmas.BoundedValues.{ReportsValueWithin}
use Rattle.row_judges.specs.private.ValueAnswer.{answer_reported}
use Rattle.row_judges.proofs.RowLemmas.CostsBut.{IsRowCosting, cost_of_row}
use Rattle.row_judges.proofs.RowLemmas.RowJudges.{row_reported}
use Rattle.row_judges.proofs.RowLemmas.RowsBut.{answer_but}

-- the filter's answer to the entity is what is reported about the JSON
pub answer_within_row : (filter : Filter) (now : MomentParts) (json : Data) (row : Row) (most : ℕ) (answer : Result (Option Verdict) EvalFault) → IsRowCosting filter now json row
    → IfSome (outcome_reported answer) (IsTheOutcome row now (tree_of_filter filter)) → KeepsBound row now (tree_of_filter filter) most answer
    → ReportsValueWithin filter now json most (answer_reported answer)
answer_within_row filter now json row most (Ok (Some verdict)) is_row reported bound =
    (answer_but filter now json row (Ok verdict) is_row.reported reported, (bound.cost, cost_of_row filter now json row most (Ok (Some verdict)) is_row bound, bound.within))
answer_within_row filter now json row most (Ok None) is_row reported bound =
    (bound.cost, cost_of_row filter now json row most (Ok None) is_row bound, bound.within)
answer_within_row filter now json row most (Err EvalFault.Overflow) is_row reported bound = λ known. (
  answer_but filter now json row (Err EvalFault.Overflow) is_row.reported reported known,
  (bound.cost, cost_of_row filter now json row most (Err EvalFault.Overflow) is_row bound, bound.within),
)
answer_within_row filter now json row most (Err EvalFault.DivideByZero) is_row reported bound = λ known. (
  answer_but filter now json row (Err EvalFault.DivideByZero) is_row.reported reported known,
  (bound.cost, cost_of_row filter now json row most (Err EvalFault.DivideByZero) is_row bound, bound.within),
)
answer_within_row filter now json row most (Err EvalFault.Memory) is_row reported bound = λ known. absurd cc

-- what is reported about the JSON that a row is, is reported about the row
pub row_within : (filter : Filter) (now : MomentParts) (row : List ℕ) (json : Data) (most : ℕ) (answer : Result (Option Verdict) BadRow) → IsJsonOf row json
    → ReportsValueWithin filter now json most answer → ReportsRowWithin filter now row most answer
row_within filter now row json most (Ok (Some verdict)) is reports =
    (row_reported filter now row json (Ok verdict) is reports.0, record { json = json; is_json = is; cost_is = reports.1 })
row_within filter now row json most (Ok None) is reports = record { json = json; is_json = is; cost_is = reports }
row_within filter now row json most (Err (BadRow.NoValue fault)) is reports = λ known. (
  row_reported filter now row json (Err (BadRow.NoValue fault)) is (λ k. (reports k).0) known,
  record { json = json; is_json = is; cost_is = (reports known).1 },
)
row_within filter now row json most (Err BadRow.NotJson) is reports = row_reported filter now row json (Err BadRow.NotJson) is reports
row_within filter now row json most (Err (BadRow.NoEntity fault)) is reports = row_reported filter now row json (Err (BadRow.NoEntity fault)) is reports

-- so is what is wrong with its text
pub text_within : (filter : Filter) (now : MomentParts) (row : List ℕ) (most : ℕ) (fault : TextFault)
    → ReportsRow filter now row (Err (bad_text fault)) → ReportsRowWithin filter now row most (Err (bad_text fault))
text_within filter now row most TextFault.NotJson reports = reports
text_within filter now row most (TextFault.NoEntity fault) reports = reports
