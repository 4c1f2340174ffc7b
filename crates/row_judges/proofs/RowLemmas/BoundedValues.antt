-- What is reported about a JSON value within a bound.
use Rattle.std.specs.Prelude.{◌<◌, ◌≤◌, ℕ, Option, Some, None, Result, Ok, Err, IsFalse}
use Rattle.serde_json.specs.Data.{Data}
use Rattle.edm_values.specs.MomentParts.{MomentParts}
use Rattle.line_filter.specs.declared.judge.Judgment.{Judgment}
use Rattle.odata_checked_filter.specs.Filter.{Filter}
use Rattle.odata_eval.specs.declared.verdict.Verdict.{Verdict}
use Rattle.row_judges.specs.RowAnswer.{is_memory}
use Rattle.row_judges.specs.RowCosts.{CostIs}
use Rattle.row_judges.specs.RowJudgment.{JudgesValue}
use Rattle.row_judges.specs.declared.bad_row.BadRow.{BadRow}
use Rattle.row_judges.specs.private.ValueAnswer.{ReportsValue}

abbrev pub ReportsValueWithin : Filter → MomentParts → Data → ℕ → Result (Option Verdict) BadRow → Type 0
ReportsValueWithin filter now json most (Ok (Some verdict)) =
    ReportsValue filter now json (Ok verdict) × CostIs filter now json (λ cost. cost ≤ most)
ReportsValueWithin filter now json most (Ok None) = CostIs filter now json (λ cost. most < cost)
ReportsValueWithin filter now json most (Err (BadRow.NoValue fault)) =
    IsFalse (is_memory (BadRow.NoValue fault))
    → JudgesValue filter now json (Judgment.Fault (BadRow.NoValue fault)) × CostIs filter now json (λ cost. cost ≤ most)
ReportsValueWithin filter now json most (Err other) = ReportsValue filter now json (Err other)
