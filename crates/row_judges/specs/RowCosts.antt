-- What a filter costs on a row, and what is reported about a row within a bound (OData JSON Format 4.01, sections 4.5
-- and 7; OData URL Conventions 4.01, section 5.1.1).
use Rattle.std.specs.Prelude.{◌≡◌, ◌<◌, ◌≤◌, ℕ, List, [], Option, Some, None, Result, Ok, Err, IsFalse}
use Rattle.serde_json.specs.Data.{Data}
use Rattle.edm_values.specs.MomentParts.{MomentParts}
use Rattle.edm_values.specs.Val.{Val}
use Rattle.csdl_schema.specs.JsonText.{IsJsonOf}
use Rattle.csdl_schema.specs.SchemaModel.{slots_of, type_name_at}
use Rattle.line_filter.specs.Kept.{Items}
use Rattle.line_filter.specs.LineItems.{lines}
use Rattle.line_filter.specs.declared.judge.Judgment.{Judgment}
use Rattle.edm_entities.specs.Fits.{Fits}
use Rattle.odata_checked_filter.specs.Filter.{Filter, slots_for_filter, tree_of_filter}
use Rattle.odata_meaning.specs.Costs.{Costs}
use Rattle.odata_eval.specs.declared.verdict.Verdict.{Verdict}
use Rattle.row_judges.specs.RowAnswer.{HasVerdict, ReportsRow, is_memory}
use Rattle.row_judges.specs.RowJudgment.{JudgesRow}
use Rattle.row_judges.specs.declared.bad_row.BadRow.{BadRow}
use Rattle.row_judges.specs.declared.bounded_line_judge.BoundedFault.{BoundedFault}

-- what a filter costs on a value of its type
abbrev pub FilterCosts : Filter → MomentParts → Val → ℕ → Type 0
FilterCosts filter now value =
    Costs (slots_of filter.schema) (type_name_at filter.schema filter.filtered) now value [] (tree_of_filter filter)

-- the JSON fits a value, and on that value the filter has this cost and no other
pub record HasCost (filter : Filter) (now : MomentParts) (json : Data) (cost : ℕ) : Type 0 where
  pub value : Val
  pub fits : Fits (slots_for_filter filter) (type_name_at filter.schema filter.filtered) json value
  pub related : FilterCosts filter now value cost
  pub only : (other : ℕ) → FilterCosts filter now value other → other ≡ cost

-- it has a cost of which this holds
abbrev pub CostIs : Filter → MomentParts → Data → (ℕ → Type 0) → Type 0
CostIs filter now json Holds = (cost : ℕ) × HasCost filter now json cost × Holds cost

-- so it is with the JSON that the row is
pub record RowCostIs (filter : Filter) (now : MomentParts) (row : List ℕ) (Holds : ℕ → Type 0) : Type 0 where
  pub json : Data
  pub is_json : IsJsonOf row json
  pub cost_is : CostIs filter now json Holds

-- a verdict, or a fault of arithmetic, only where the cost is within the bound; none only where it is not; what is no
-- entity has no cost; running out of memory says nothing
abbrev pub ReportsRowWithin : Filter → MomentParts → List ℕ → ℕ → Result (Option Verdict) BadRow → Type 0
ReportsRowWithin filter now row most (Ok (Some verdict)) =
    HasVerdict filter now row verdict × RowCostIs filter now row (λ cost. cost ≤ most)
ReportsRowWithin filter now row most (Ok None) = RowCostIs filter now row (λ cost. most < cost)
ReportsRowWithin filter now row most (Err (BadRow.NoValue fault)) =
    IsFalse (is_memory (BadRow.NoValue fault))
    → JudgesRow filter now row (Judgment.Fault (BadRow.NoValue fault)) × RowCostIs filter now row (λ cost. cost ≤ most)
ReportsRowWithin filter now row most (Err other) = ReportsRow filter now row (Err other)

-- what is said of a row as a line within a bound: that it is kept, left out, or at fault, where the cost is within the
-- bound or there is none; that it is too costly, where the cost is above
abbrev pub JudgesRowWithin : Filter → MomentParts → ℕ → List ℕ → Judgment BoundedFault → Type 0
JudgesRowWithin filter now most line Judgment.Kept =
    JudgesRow filter now line Judgment.Kept × RowCostIs filter now line (λ cost. cost ≤ most)
JudgesRowWithin filter now most line Judgment.LeftOut =
    JudgesRow filter now line Judgment.LeftOut × RowCostIs filter now line (λ cost. cost ≤ most)
JudgesRowWithin filter now most line (Judgment.Fault (BoundedFault.Row (BadRow.NoValue fault))) =
    JudgesRow filter now line (Judgment.Fault (BadRow.NoValue fault)) × RowCostIs filter now line (λ cost. cost ≤ most)
JudgesRowWithin filter now most line (Judgment.Fault (BoundedFault.Row bad)) =
    JudgesRow filter now line (Judgment.Fault bad)
JudgesRowWithin filter now most line (Judgment.Fault BoundedFault.TooCostly) =
    RowCostIs filter now line (λ cost. most < cost)

-- the lines of the bytes as rows, each judged by the filter within a bound
abbrev pub rows_within : Filter → MomentParts → ℕ → List ℕ → Items (List ℕ) BoundedFault
rows_within filter now most bytes = lines (JudgesRowWithin filter now most) bytes
