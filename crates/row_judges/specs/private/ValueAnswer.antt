-- What is reported about a JSON value, by a filter's answer to it. Private clauses alone cite these.
use Rattle.std.specs.Prelude.{Result, Ok, Err, IsFalse}
use Rattle.serde_json.specs.Data.{Data}
use Rattle.edm_values.specs.MomentParts.{MomentParts}
use Rattle.line_filter.specs.declared.judge.Judgment.{Judgment}
use Rattle.odata_checked_filter.specs.Filter.{Filter}
use Rattle.odata_filter_operations.specs.Outcome.{gives}
use Rattle.odata_eval.specs.VerdictView.{verdict_val}
use Rattle.odata_filter_operations.specs.declared.eval_fault.EvalFault.{EvalFault}
use Rattle.odata_eval.specs.declared.verdict.Verdict.{Verdict}
use Rattle.row_judges.specs.RowAnswer.{is_memory}
use Rattle.row_judges.specs.RowJudgment.{HasOutcome, JudgesValue}
use Rattle.row_judges.specs.declared.bad_row.BadRow.{BadRow}

-- its verdict, which is the filter's one outcome on what it fits, or what is wrong with it; running out of memory says
-- nothing
abbrev pub ReportsValue : Filter → MomentParts → Data → Result Verdict BadRow → Type 0
ReportsValue filter now json (Ok verdict) = HasOutcome filter now json (gives (verdict_val verdict))
ReportsValue filter now json (Err bad) = IsFalse (is_memory bad) → JudgesValue filter now json (Judgment.Fault bad)

-- what a filter's answer to an entity reports, within a bound or without one
abbrev pub answer_reported : {Found : Type 0} → Result Found EvalFault → Result Found BadRow
answer_reported (Ok found) = Ok found
answer_reported (Err fault) = Err (BadRow.NoValue fault)
