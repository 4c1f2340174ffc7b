-- What is reported about a row that is judged by itself (OData JSON Format 4.01, sections 4.5 and 7; OData URL
-- Conventions 4.01, section 5.1.1).
use Rattle.std.specs.Prelude.{◌≡◌, ◌<◌, ℕ, List, [], length, slice_get, unwrap_or, Bool, true, false, Option, Some, None, Result, Ok, Err, IsTrue, IsFalse, if◌then◌else◌}
use Rattle.serde_json.specs.Data.{Data}
use Rattle.edm_values.specs.MomentParts.{MomentParts}
use Rattle.csdl_schema.specs.JsonText.{IsJsonOf}
use Rattle.edm_rows.specs.RowReading.{Names}
use Rattle.edm_entities.specs.declared.row_fault.RowFault.{RowFault}
use Rattle.edm_rows.specs.RowLayout.{LayoutOfRows}
use Rattle.line_filter.specs.declared.judge.Judgment.{Judgment}
use Rattle.odata_checked_filter.specs.Filter.{Filter}
use Rattle.odata_filter_operations.specs.Outcome.{gives}
use Rattle.odata_filter_operations.specs.declared.eval_fault.EvalFault.{EvalFault}
use Rattle.odata_eval.specs.VerdictView.{verdict_val}
use Rattle.odata_eval.specs.declared.verdict.Verdict.{Verdict}
use Rattle.row_judges.specs.RowJudgment.{HasOutcome, JudgesRow}
use Rattle.row_judges.specs.RowsOnce.{AreSameJudgment}
use Rattle.row_judges.specs.declared.bad_row.BadRow.{BadRow}

-- the filter's list has none of these names at a node
pub record PassesNone (filter : Filter) (Passed : Names) : Type 0 where
  pub unnamed :
      (place : ℕ) → place < length filter.list.nodes → ¬ Passed (unwrap_or (slice_get filter.list.texts place) [])
  pub spelled : ¬ Passed []

-- the layout is of the filter's schema and type, and a whole one has that expanded which the filter needs
pub record IsLayoutOfFilter (filter : Filter) (layout : LayoutOfRows) : Type 0 where
  pub schema : layout.schema ≡ filter.schema
  pub type_id : layout.type_id ≡ filter.filtered
  pub whole : layout.is_whole ≡ true → layout.expansion ≡ filter.expansion

-- the row is a JSON value that fits, and the verdict is the filter's one outcome on it
pub record HasVerdict (filter : Filter) (now : MomentParts) (row : List ℕ) (verdict : Verdict) : Type 0 where
  pub json : Data
  pub is_json : IsJsonOf row json
  pub outcome : HasOutcome filter now json (gives (verdict_val verdict))

-- an allocation failed while the row was read or judged
abbrev pub is_memory : BadRow → Bool
is_memory (BadRow.NoEntity RowFault.Memory) = true
is_memory (BadRow.NoValue EvalFault.Memory) = true
is_memory _ = false

-- what is reported about a row: its verdict, or what is wrong with it, which is what is said of a line at fault;
-- running out of memory says nothing
abbrev pub ReportsRow : Filter → MomentParts → List ℕ → Result Verdict BadRow → Type 0
ReportsRow filter now row (Ok verdict) = HasVerdict filter now row verdict
ReportsRow filter now row (Err bad) = IsFalse (is_memory bad) → JudgesRow filter now row (Judgment.Fault bad)

-- what is said of the row as a line: it is kept where the verdict is true; nothing when out of memory
abbrev pub judgment_reported : Result Verdict BadRow → Option (Judgment BadRow)
judgment_reported (Ok Verdict.True) = Some Judgment.Kept
judgment_reported (Ok Verdict.False) = Some Judgment.LeftOut
judgment_reported (Ok Verdict.Null) = Some Judgment.LeftOut
judgment_reported (Err bad) = if is_memory bad then None else Some (Judgment.Fault bad)

-- the same verdict, or the same fault; running out of memory goes with any
abbrev pub AreSameAnswer : Result Verdict BadRow → Result Verdict BadRow → Type 0
AreSameAnswer (Ok v) (Ok w) = v ≡ w
AreSameAnswer (Ok v) (Err g) = IsTrue (is_memory g)
AreSameAnswer (Err f) (Ok w) = IsTrue (is_memory f)
AreSameAnswer (Err f) (Err g) =
    IsFalse (is_memory f) → IsFalse (is_memory g) → AreSameJudgment (Judgment.Fault f) (Judgment.Fault g)
