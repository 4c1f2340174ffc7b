-- What a filter and the filter of its canonical text keep of rows (OData URL Conventions 4.01, section 5.1.1).
use Rattle.std.specs.Prelude.{◌≡◌, ◌↔◌, ℕ, List, Result}
use Rattle.serde_json.specs.Data.{Data}
use Rattle.edm_values.specs.MomentParts.{MomentParts}
use Rattle.edm_values.specs.Val.{Val}
use Rattle.odata_syntax.specs.CanonicalText.{IsCanonicalText}
use Rattle.edm_entities.specs.Row.{Row}
use Rattle.odata_checked_filter.specs.Filter.{Filter, tree_of_filter}
use Rattle.odata_filter_operations.specs.Outcome.{Outcome}
use Rattle.odata_eval.specs.declared.verdict.Verdict.{Verdict}
use Rattle.line_filter.specs.Kept.{Filters}
use Rattle.line_filter.specs.declared.judge.Judgment.{Judgment}
use Rattle.line_filter.specs.declared.tally.Tally.{Tally}
use Rattle.filter_runs.specs.Collection.{OfCollection, StopsCollection}
use Rattle.odata_filter.specs.Headline.{IsCheckedOf, IsEntityFor}
use Rattle.row_judges.specs.RowAnswer.{ReportsRow}
use Rattle.row_judges.specs.RowJudgment.{FilterMeans, JudgesRow, JudgesValue, rows_of}
use Rattle.filter_runs.specs.RunStops.{StopsBy}
use Rattle.row_judges.specs.declared.bad_row.BadRow.{BadRow}
use Rattle.filter_runs.specs.declared.run_fault.RunFault.{RunFault}

-- `check` accepts the text as the first filter, and the canonical text of that as the second, for the same type of the
-- same schema
pub record IsCheckedAgain (text printed : List ℕ) (filter again : Filter) : Type 0 where
  pub of_text : IsCheckedOf text filter
  pub canonical : IsCanonicalText (tree_of_filter filter) printed
  pub of_printed : IsCheckedOf printed again
  pub one_schema : again.schema ≡ filter.schema
  pub one_type : again.filtered ≡ filter.filtered

-- P of each two such filters
abbrev pub OfBoth : (Filter → Filter → Type 0) → Type 0
OfBoth P = (text printed : List ℕ) (filter again : Filter) → IsCheckedAgain text printed filter again → P filter again

-- an entity that has all expanded which the one needs has all which the other needs
abbrev pub HaveSameEntities : Filter → Filter → Type 0
HaveSameEntities filter again = (row : Row) → IsEntityFor filter row ↔ IsEntityFor again row

-- on each value they have the same outcomes
abbrev pub HaveSameOutcomes : Filter → Filter → Type 0
HaveSameOutcomes filter again =
    (now : MomentParts) (value : Val) (outcome : Outcome)
    → FilterMeans filter now value outcome ↔ FilterMeans again now value outcome

-- they judge alike each row as a line, each JSON value, and each row by itself
abbrev pub SaySameOfRows : Filter → Filter → Type 0
SaySameOfRows filter again =
    (now : MomentParts) (row : List ℕ) (said : Judgment BadRow)
    → JudgesRow filter now row said ↔ JudgesRow again now row said

-- of each JSON value they say the same
abbrev pub SaySameOfValues : Filter → Filter → Type 0
SaySameOfValues filter again =
    (now : MomentParts) (json : Data) (said : Judgment BadRow)
    → JudgesValue filter now json said ↔ JudgesValue again now json said

-- of each row by itself they have the same answers
abbrev pub AnswerRowsAlike : Filter → Filter → Type 0
AnswerRowsAlike filter again =
    (now : MomentParts) (row : List ℕ) (answer : Result Verdict BadRow)
    → ReportsRow filter now row answer ↔ ReportsRow again now row answer

-- of every input they keep the same lines and count the same
abbrev pub KeepSameLines : Filter → Filter → Type 0
KeepSameLines filter again =
    (now : MomentParts) (bytes written : List ℕ) (tally : Tally)
    → Filters (rows_of filter now bytes) written tally ↔ Filters (rows_of again now bytes) written tally

-- of every input they stop at the same fault, after the same text
abbrev pub StopAlike : Filter → Filter → Type 0
StopAlike filter again =
    (now : MomentParts) (bytes written : List ℕ) (fault : RunFault)
    → StopsBy (rows_of filter now bytes) written fault ↔ StopsBy (rows_of again now bytes) written fault

-- likewise of every collection
abbrev pub KeepSameItems : Filter → Filter → Type 0
KeepSameItems filter again =
    (now : MomentParts) (document written : List ℕ) (tally : Tally)
    → OfCollection filter now document (λ items. Filters items written tally)
    ↔ OfCollection again now document (λ items. Filters items written tally)

-- likewise of every collection
abbrev pub StopCollectionsAlike : Filter → Filter → Type 0
StopCollectionsAlike filter again =
    (now : MomentParts) (document written : List ℕ) (fault : RunFault)
    → StopsCollection filter now document written fault ↔ StopsCollection again now document written fault
