-- What a filter says of a row, a line of JSON (OData JSON Format 4.01, sections 4.5 and 7; OData URL Conventions 4.01,
-- section 5.1.1).
use Rattle.std.specs.Prelude.{◌≡◌, ◌≢◌, ℕ, List, [], Bool, true, false, Some}
use Rattle.serde_json.specs.Data.{Data}
use Rattle.edm_values.specs.MomentParts.{MomentParts}
use Rattle.edm_values.specs.Val.{Val, boolean}
use Rattle.csdl_schema.specs.JsonText.{IsJsonOf, IsNoJson}
use Rattle.csdl_schema.specs.SchemaModel.{slots_of, type_name_at}
use Rattle.line_filter.specs.Kept.{Items}
use Rattle.line_filter.specs.LineItems.{lines}
use Rattle.line_filter.specs.declared.judge.Judgment.{Judgment}
use Rattle.row_judges.specs.declared.bad_row.BadRow.{BadRow}
use Rattle.edm_entities.specs.Fits.{Fits}
use Rattle.edm_entities.specs.RowFaults.{IsRowFault}
use Rattle.odata_meaning.specs.Means.{Means}
use Rattle.odata_filter_operations.specs.Outcome.{Outcome, gives}
use Rattle.odata_filter_operations.specs.FaultView.{fault_outcome}
use Rattle.odata_checked_filter.specs.Filter.{Filter, slots_for_filter, tree_of_filter}

-- what a filter evaluates to on a value of its type
abbrev pub FilterMeans : Filter → MomentParts → Val → Outcome → Type 0
FilterMeans filter now value =
    Means (slots_of filter.schema) (type_name_at filter.schema filter.filtered) now value [] (tree_of_filter filter)

-- the JSON fits a value, and on that value the filter has this outcome and no other
pub record HasOutcome (filter : Filter) (now : MomentParts) (json : Data) (outcome : Outcome) : Type 0 where
  pub value : Val
  pub fits : Fits (slots_for_filter filter) (type_name_at filter.schema filter.filtered) json value
  pub related : FilterMeans filter now value outcome
  pub only : (other : Outcome) → FilterMeans filter now value other → other ≡ outcome

-- a row is kept where its outcome is true, left out at any other value, and at fault where it fits nothing or has no
-- value
abbrev pub JudgesValue : Filter → MomentParts → Data → Judgment BadRow → Type 0
JudgesValue filter now json Judgment.Kept = HasOutcome filter now json (gives (boolean true))
JudgesValue filter now json Judgment.LeftOut =
    (value : Val) × ((value ≢ boolean true) × HasOutcome filter now json (gives value))
JudgesValue filter now json (Judgment.Fault BadRow.NotJson) = ⊥
JudgesValue filter now json (Judgment.Fault (BadRow.NoEntity fault)) =
    IsRowFault (slots_for_filter filter) (type_name_at filter.schema filter.filtered) json fault
JudgesValue filter now json (Judgment.Fault (BadRow.NoValue fault)) =
    (outcome : Outcome) × ((fault_outcome fault ≡ Some outcome) × HasOutcome filter now json outcome)

-- a row that is kept or left out
abbrev pub judgment_where : {F : Type 0} → Bool → Judgment F
judgment_where true = Judgment.Kept
judgment_where false = Judgment.LeftOut

-- the line is a JSON value, of which that is said
pub record JudgesJson (filter : Filter) (now : MomentParts) (line : List ℕ) (judgment : Judgment BadRow) : Type 0 where
  pub json : Data
  pub is_json : IsJsonOf line json
  pub judged : JudgesValue filter now json judgment

-- what a filter says of a line that is neither too long nor blank
abbrev pub JudgesRow : Filter → MomentParts → List ℕ → Judgment BadRow → Type 0
JudgesRow filter now line Judgment.Kept = JudgesJson filter now line Judgment.Kept
JudgesRow filter now line Judgment.LeftOut = JudgesJson filter now line Judgment.LeftOut
JudgesRow filter now line (Judgment.Fault BadRow.NotJson) = IsNoJson line
JudgesRow filter now line (Judgment.Fault (BadRow.NoEntity fault)) =
    JudgesJson filter now line (Judgment.Fault (BadRow.NoEntity fault))
JudgesRow filter now line (Judgment.Fault (BadRow.NoValue fault)) =
    JudgesJson filter now line (Judgment.Fault (BadRow.NoValue fault))

-- the lines of the bytes as rows, each judged by the filter
abbrev pub rows_of : Filter → MomentParts → List ℕ → Items (List ℕ) BadRow
rows_of filter now bytes = lines (JudgesRow filter now) bytes
