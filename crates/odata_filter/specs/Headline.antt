-- What is claimed of filters as a whole: what one that `check` accepts says of entities and keeps of lines, and what it
-- means that a text is refused (OData URL Conventions 4.01, section 5.1.1).
use Rattle.std.specs.Prelude.{◌≡◌, ◌≢◌, ◌⊎◌, ◌↔◌, ◌≤◌, ℕ, List, [], ◌∷◌, length, true, Option, Some, IfSome, Result, Err}
use Rattle.serde_json.specs.Data.{Data}
use Rattle.edm_values.specs.MomentParts.{IsMoment, MomentParts}
use Rattle.edm_values.specs.Val.{Val, null, boolean}
use Rattle.csdl_schema.specs.ExpansionView.{paths_in}
use Rattle.csdl_schema.specs.JsonText.{IsJsonOf}
use Rattle.csdl_schema.specs.PathSet.{Covers}
use Rattle.csdl_schema.specs.SchemaModel.{Slots, slots_of, type_name_at}
use Rattle.edm_entities.specs.Fits.{Fits}
use Rattle.edm_entities.specs.Row.{Row, IsEntity, value_of}
use Rattle.odata_signatures.specs.HasTyping.{HasTyping, HasNoTyping, IsRefusal}
use Rattle.odata_signatures.specs.declared.refusal.Refusal.{Refusal}
use Rattle.odata_checked_filter.specs.Filter.{Filter, HasNeededPaths, slots_for_filter, tree_of_filter}
use Rattle.odata_meaning.specs.MeansOn.{IsTheOutcome}
use Rattle.odata_filter_operations.specs.Outcome.{Outcome, gives, overflow, divides_by_zero}
use Rattle.odata_eval.specs.VerdictView.{reported_outcome}
use Rattle.odata_filter_operations.specs.declared.eval_fault.EvalFault.{EvalFault}
use Rattle.odata_eval.specs.declared.verdict.Verdict.{Verdict}
use Rattle.line_filter.specs.Kept.{LineClass, Filters, StopsAt}
use Rattle.line_filter.specs.LineItems.{IsFoundOf}
use Rattle.line_filter.specs.Lines.{IsBlank, lines_of, longest_line, text_of_lines}
use Rattle.line_filter.specs.Once.{IsFaulty}
use Rattle.line_filter.specs.declared.judge.Judgment.{Judgment}
use Rattle.line_filter.specs.declared.tally.Tally.{Tally}
use Rattle.row_judges.specs.RowJudgment.{FilterMeans, JudgesRow, rows_of}
use Rattle.odata_filter.specs.StopsOnce.{IsOfRow}
use Rattle.filter_runs.specs.RunStops.{StopsBy}
use Rattle.row_judges.specs.declared.bad_row.BadRow.{BadRow}
use Rattle.filter_runs.specs.declared.run_fault.RunFault.{RunFault}

-- what `check` says of the filter that it answers for a text
pub record IsCheckedOf (text : List ℕ) (filter : Filter) : Type 0 where
  pub typing :
      HasTyping (slots_of filter.schema) (type_name_at filter.schema filter.filtered) text (tree_of_filter filter)
  pub expands : HasNeededPaths filter.schema filter.filtered filter.list filter.expansion

-- some JSON fits the value as an entity of the filter's type, expanded for the filter
abbrev pub ConformsTo : Filter → Val → Type 0
ConformsTo filter value =
    (json : Data) × Fits (slots_for_filter filter) (type_name_at filter.schema filter.filtered) json value

-- an entity of the filter's schema and type, in which all is expanded that the filter needs
pub record IsEntityFor (filter : Filter) (row : Row) : Type 0 where
  pub entity : IsEntity row
  pub one_schema : filter.schema ≡ row.schema
  pub one_type : filter.filtered ≡ row.type_id
  pub covers : Covers (paths_in row.expansion) (paths_in filter.expansion)

-- true, false or null, or the fault of an arithmetic operator: overflow or division by zero
abbrev pub IsTruthOrFault : Outcome → Type 0
IsTruthOrFault (gives (boolean truth)) = Unit {0}
IsTruthOrFault (gives null) = Unit {0}
IsTruthOrFault (gives value) = ⊥
IsTruthOrFault overflow = Unit {0}
IsTruthOrFault divides_by_zero = Unit {0}

-- On the value the filter evaluates to this outcome, which is one of those five, and to no other.
pub record ComesToOne (filter : Filter) (now : MomentParts) (value : Val) (outcome : Outcome) : Type 0 where
  pub known : IsTruthOrFault outcome
  pub related : FilterMeans filter now value outcome
  pub only : (other : Outcome) → FilterMeans filter now value other → other ≡ outcome

-- a filter that `check` accepts evaluates to one outcome on every entity of its type, at every moment of the years 1 to
-- 9999
abbrev pub HaveOneOutcome : Type 0
HaveOneOutcome =
    (text : List ℕ) (filter : Filter) (now : MomentParts) (value : Val)
    → IsCheckedOf text filter → IsMoment now.civil now.offset_minutes → ConformsTo filter value
    → (outcome : Outcome) × ComesToOne filter now value outcome

-- what `evaluate` says of its answer reports that outcome, unless an allocation failed
abbrev pub AreAnswered : Type 0
AreAnswered =
    (text : List ℕ) (filter : Filter) (now : MomentParts) (row : Row) (answer : Result Verdict EvalFault)
    → IsCheckedOf text filter → IsEntityFor filter row
    → IfSome (reported_outcome answer) (IsTheOutcome row now (tree_of_filter filter)) → answer ≢ Err EvalFault.Memory
    → (outcome : Outcome) × (reported_outcome answer ≡ Some outcome) × ComesToOne filter now (value_of row) outcome

-- The line is a row of the filter's type on which the filter is true: neither too long nor blank, and JSON that fits.
pub record IsTrueRow (filter : Filter) (now : MomentParts) (line : List ℕ) : Type 0 where
  pub short : length line ≤ longest_line
  pub some : ¬ IsBlank line
  pub json : Data
  pub is_json : IsJsonOf line json
  pub value : Val
  pub fits : Fits (slots_for_filter filter) (type_name_at filter.schema filter.filtered) json value
  pub is_true : FilterMeans filter now value (gives (boolean true))

-- a line is kept exactly where it is such a row
abbrev pub KeepTrueRows : Type 0
KeepTrueRows =
    (text : List ℕ) (filter : Filter) (now : MomentParts) (line : List ℕ)
    → IsCheckedOf text filter → IsMoment now.civil now.offset_minutes
    → IsFoundOf (JudgesRow filter now) line (LineClass.judged Judgment.Kept) ↔ IsTrueRow filter now line

-- these are the ones among the lines of which P holds, in their order
abbrev pub ArePicked : (List ℕ → Type 0) → List (List ℕ) → List (List ℕ) → Type 0
ArePicked P [] picked = picked ≡ []
ArePicked P (line ∷ lines) picked =
    (P line × (more : List (List ℕ)) × (picked ≡ line ∷ more) × ArePicked P lines more)
    ⊎ ((¬ P line) × ArePicked P lines picked)

-- the text is that of just those of the lines that are such rows, in their order, unchanged and each followed by LF
abbrev pub HasTrueRows : Filter → MomentParts → List (List ℕ) → List ℕ → Type 0
HasTrueRows filter now lines text =
    (picked : List (List ℕ)) × ArePicked (IsTrueRow filter now) lines picked × (text ≡ text_of_lines picked)

-- what `filter_lines` says that it has written where no line is at fault: just those of all lines
abbrev pub WriteTrueRows : Type 0
WriteTrueRows =
    (text : List ℕ) (filter : Filter) (now : MomentParts) (bytes written : List ℕ) (tally : Tally)
    → IsCheckedOf text filter → IsMoment now.civil now.offset_minutes → Filters (rows_of filter now bytes) written tally
    → HasTrueRows filter now (lines_of bytes) written

-- The line of this number is the first at fault, and what was written is just those of the lines before it.
pub record StopsBehind
    (filter : Filter) (now : MomentParts) (bytes written : List ℕ) (number : ℕ) (line_class : LineClass BadRow) :
    Type 0 where
  pub faulty : IsFaulty line_class
  pub first : StopsAt (rows_of filter now bytes) written number line_class
  pub written_before : HasTrueRows filter now first.before written

-- what it says that it has written at a fault of a line
abbrev pub StopAtFaults : Type 0
StopAtFaults =
    (text : List ℕ) (filter : Filter) (now : MomentParts) (bytes written : List ℕ) (fault : RunFault)
    → IsCheckedOf text filter → IsMoment now.civil now.offset_minutes → IsOfRow fault
    → StopsBy (rows_of filter now bytes) written fault
    → (number : ℕ) × (line_class : LineClass BadRow) × StopsBehind filter now bytes written number line_class

-- a text that is refused, by anything but running out of memory, is not a filter, and there is one refusal of it: its
-- first fault
abbrev pub AreRefusedOnce : Type 0
AreRefusedOnce =
    (slots : Slots) (root text : List ℕ) (refusal : Refusal) → IsRefusal slots root text refusal
    → HasNoTyping slots root text × ((other : Refusal) → IsRefusal slots root text other → other ≡ refusal)
