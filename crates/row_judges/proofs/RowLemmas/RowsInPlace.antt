-- From what a reader of rows in place says of a line to what is said of it by the filter.
use Rattle.std.proofs.Common.{◌≡◌, ◌≢◌, inl, inr, ℕ, Bool, true, false, List, [], Option, Some, Result, Ok, Err, slice_get, map, refl, sym, ap, ◌∙◌, subst, IfSome}
use Rattle.std.specs.Prelude.{◌↔◌, All}
use Rattle.serde_json.specs.Data.{Data}
use Rattle.edm_values.specs.MomentParts.{IsMoment, MomentParts}
use Rattle.edm_values.specs.Val.{Val, boolean, fields}
use Rattle.edm_entities.specs.HasType.{HasType}
use Rattle.csdl_schema.specs.ExprType.{single, structured}
use Rattle.csdl_schema.specs.ExpansionView.{StepModel, paths_in}
use Rattle.csdl_schema.specs.PathSet.{PropertyPath, PathSet}
use Rattle.csdl_schema.specs.SchemaModel.{SchemaModel, expanded, properties_at, slot_named, slots_of, type_name_at, Slots}
use Rattle.edm_entities.specs.Fits.{Fits}
use Rattle.edm_entities.specs.Row.{slots_for}
use Rattle.edm_rows.specs.RowReading.{IsLineBut, Names}
use Rattle.edm_rows.specs.RowItems.{IsJsonBut, IsJsonLeftOut}
use Rattle.edm_rows.specs.RowsOfType.{IsLeftOut, IsSameButKept, IsSameReader, RowsOfType, TypeMarks, names_unkept, row_held}
use Rattle.edm_rows.specs.declared.type_rows.Reading.{Reading}
use Rattle.edm_values.specs.declared.sieve.Sieve.{Sieve}
use Rattle.line_filter.specs.declared.judge.Judgment.{Judgment}
use Rattle.line_filter.specs.Lines.{IsBlank}
use Rattle.odata_checked_filter.specs.Filter.{Filter, IsFilter, slots_for_filter, tree_of_filter}
use Rattle.odata_meaning.specs.EndsOnce.{TypedEndsOnce}
use Rattle.odata_meaning.specs.MeansOn.{IsTheOutcome}
use Rattle.odata_eval.specs.CostsOn.{KeepsBound}
use Rattle.odata_eval.specs.VerdictView.{outcome_reported, reported_outcome}
use Rattle.odata_eval.specs.declared.verdict.Verdict.{Verdict}
use Rattle.odata_filter_operations.specs.Outcome.{Outcome, gives}
use Rattle.odata_filter_operations.specs.declared.eval_fault.EvalFault.{EvalFault}
use Rattle.row_judges.specs.RowAnswer.{PassesNone, ReportsRow, judgment_reported}
use Rattle.row_judges.specs.declared.bad_row.BadRow.{BadRow}
use Rattle.row_judges.specs.RowCosts.{ReportsRowWithin}
use Rattle.row_judges.specs.RowJudgment.{FilterMeans, JudgesRow, JudgesValue}
use Rattle.row_judges.specs.FilterRows.{KeepsNames}
use Rattle.row_judges.specs.private.RowsInPlace.{AreRowsOf, IsRead, IsSameButSieves, IsTestAt}
use Rattle.row_judges.specs.private.ValueAnswer.{ReportsValue, answer_reported}
use Rattle.row_judges.proofs.RowLemmas.CostsBut.{kept_costs}
use Rattle.row_judges.proofs.RowLemmas.RowBounds.{answer_within_row, row_within}
use Rattle.row_judges.proofs.RowLemmas.BlankLines.{json_not_blank}
use Rattle.row_judges.proofs.RowLemmas.RowJudges.{row_judged, row_reported}
use Rattle.row_judges.proofs.RowLemmas.RowsBut.{answer_but, of_line, row_but}
use Rattle.row_judges.proofs.RowLemmas.SlotTests.{each_sieve, slot_of_name}

-- the law of what fits and its type, as it is cited
abbrev FitsHasType : Type 0
FitsHasType = (slots : Slots) (expansion : PathSet) (type_name : List ℕ) (json : Data) (v : Val) → Fits (expanded slots expansion) type_name json v → HasType slots (single (structured type_name)) v

-- ---- names that are not kept

pub passes_less : (filter : Filter) (Passed Fewer : Names) → ((name : List ℕ) → Fewer name → Passed name) → PassesNone filter Passed → PassesNone filter Fewer
passes_less filter Passed Fewer less passes = record {
  unnamed = λ place within passed. passes.unnamed place within (less _ passed);
  spelled = λ passed. passes.spelled (less [] passed);
}

abbrev property_names : SchemaModel → ℕ → List (List ℕ)
property_names schema n = map (λ p. p.name) (properties_at schema n)

-- readers of one type that keep the same leave the same names
pub same_unkept : (old new : RowsOfType) → new.schema ≡ old.schema → new.type_id ≡ old.type_id → new.kept ≡ old.kept → (name : List ℕ) → names_unkept new name → names_unkept old name
same_unkept old new schema_is type_is kept_is name (place, marks, there, left) = (
  place,
  marks,
  subst (λ (kept : List TypeMarks). slice_get kept place ≡ Some marks) kept_is there,
  subst (λ (s : SchemaModel). (slot : ℕ) × (slice_get marks.kept slot ≡ Some false) × (slice_get (property_names s marks.type_id) slot ≡ Some name)) schema_is left,
)

-- ---- what is kept

pub kept_same : (rows : RowsOfType) → IsSameButKept rows rows
kept_same rows = record { schema = refl; type_id = refl; expansion = refl; is_whole = refl; slots = refl; sieves = refl; is_ready = refl; value = refl }

pub kept_further : (first old new : RowsOfType) → IsSameButKept first old → IsSameButKept old new → IsSameButKept first new
kept_further first old new before same = record {
  schema = same.schema ∙ before.schema;
  type_id = same.type_id ∙ before.type_id;
  expansion = same.expansion ∙ before.expansion;
  is_whole = same.is_whole ∙ before.is_whole;
  slots = same.slots ∙ before.slots;
  sieves = same.sieves ∙ before.sieves;
  is_ready = same.is_ready ∙ before.is_ready;
  value = same.value ∙ before.value;
}

-- once a name is kept, no further name is left
pub unkept_less : (old new : RowsOfType) (kept : List ℕ) → ¬ names_unkept new kept → ((other : List ℕ) → other ≢ kept → names_unkept new other ↔ names_unkept old other)
    → (name : List ℕ) → names_unkept new name → names_unkept old name
unkept_less old new kept named others name left = (others name (λ same. named (subst (names_unkept new) same left))).0 left

-- ---- sieves

pub sieves_same : (rows : RowsOfType) → IsSameButSieves rows rows
sieves_same rows = record { schema = refl; type_id = refl; expansion = refl; is_whole = refl; kept = refl }

-- ---- what is read of a line

pub reader_further : (first old new : RowsOfType) → IsSameReader first old → IsSameReader old new → IsSameReader first new
reader_further first old new before same = record {
  schema = same.schema ∙ before.schema;
  type_id = same.type_id ∙ before.type_id;
  expansion = same.expansion ∙ before.expansion;
  is_whole = same.is_whole ∙ before.is_whole;
  kept = same.kept ∙ before.kept;
  sieves = same.sieves ∙ before.sieves;
}

pub is_read : (reading : Reading) (line : List ℕ) (rows : RowsOfType) → (reading ≢ Reading.Unread → rows.is_whole ≡ true) → (reading ≡ Reading.Row → rows.is_ready ≡ true)
    → (reading ≡ Reading.Row → IsLineBut line (names_unkept rows) (row_held rows)) → (reading ≡ Reading.LeftOut → IsLeftOut line rows) → IsRead reading line rows
is_read Reading.Unread line rows whole ready row left_out = tt
is_read Reading.Row line rows whole ready row left_out = (whole (λ e. cc), ready refl, row refl)
is_read Reading.LeftOut line rows whole ready row left_out = (whole (λ e. cc), left_out refl)

module _ (filter : Filter) where
  -- readers of one type that keep the same keep what the filter names alike
  pub names_again : (old new : RowsOfType) → new.schema ≡ old.schema → new.type_id ≡ old.type_id → new.expansion ≡ old.expansion → new.is_whole ≡ old.is_whole → new.kept ≡ old.kept → KeepsNames filter old → KeepsNames filter new
  names_again old new schema_is type_is expansion_is whole_is kept_is names = record {
    schema = schema_is ∙ names.schema;
    type_id = type_is ∙ names.type_id;
    whole = λ whole. expansion_is ∙ names.whole (sym whole_is ∙ whole);
    keeps = passes_less filter (names_unkept old) (names_unkept new) (same_unkept old new schema_is type_is kept_is) names.keeps;
  }

  -- once it has read a line, the reader keeps what the filter names as before
  pub kept_again : (old new : RowsOfType) → IsSameReader old new → KeepsNames filter old → KeepsNames filter new
  kept_again old new same = names_again old new same.schema same.type_id same.expansion same.is_whole same.kept

  -- a reader that leaves no row out
  pub new_tests : (sieves : List Sieve) → All (λ sieve. sieve ≡ Sieve.All) sieves → (slot : ℕ) → IfSome (slice_get sieves slot) (IsTestAt filter slot)
  new_tests sieves all = each_sieve (IsTestAt filter) sieves all (λ slot word named now held value o has rejected. absurd rejected)

  -- once it has read a line, the reader is one of the filter's rows as before
  pub rows_again : (old new : RowsOfType) → IsSameReader old new → AreRowsOf filter old → AreRowsOf filter new
  rows_again old new same rows = record {
    names = kept_again old new same rows.names;
    tests = λ slot. subst (λ (sieves : List Sieve). IfSome (slice_get sieves slot) (IsTestAt filter slot)) (sym same.sieves) (rows.tests slot);
    distinct = rows.distinct;
  }

  module _ (now : MomentParts) where
    -- ---- lines that are judged

    -- what is said of a line by the filter's answer to its row
    pub answer_said : (line : List ℕ) (answer : Result Verdict EvalFault) → ReportsRow filter now line (answer_reported answer) → IfSome (judgment_reported (answer_reported answer)) (JudgesRow filter now line)
    answer_said line (Ok Verdict.True) reported = row_judged filter now line (Ok Verdict.True) Judgment.Kept reported refl
    answer_said line (Ok Verdict.False) reported = row_judged filter now line (Ok Verdict.False) Judgment.LeftOut reported refl
    answer_said line (Ok Verdict.Null) reported = row_judged filter now line (Ok Verdict.Null) Judgment.LeftOut reported refl
    answer_said line (Err EvalFault.Overflow) reported = reported refl
    answer_said line (Err EvalFault.DivideByZero) reported = reported refl
    answer_said line (Err EvalFault.Memory) reported = tt

    -- such a line is not blank
    pub answer_not_blank : (line : List ℕ) (answer : Result Verdict EvalFault) → ReportsRow filter now line (answer_reported answer) → IfSome (judgment_reported (answer_reported answer)) (λ judgment. ¬ IsBlank line)
    answer_not_blank line (Ok Verdict.True) reported = json_not_blank line reported.json reported.is_json
    answer_not_blank line (Ok Verdict.False) reported = json_not_blank line reported.json reported.is_json
    answer_not_blank line (Ok Verdict.Null) reported = json_not_blank line reported.json reported.is_json
    answer_not_blank line (Err EvalFault.Overflow) reported = json_not_blank line (reported refl).json (reported refl).is_json
    answer_not_blank line (Err EvalFault.DivideByZero) reported = json_not_blank line (reported refl).json (reported refl).is_json
    answer_not_blank line (Err EvalFault.Memory) reported = tt

    -- what is reported of each JSON that the held row stands for is reported of its line
    pub line_reported : (rows : RowsOfType) (answer : Result Verdict BadRow) → ((json : Data) → IsJsonBut json (names_unkept rows) (row_held rows) → ReportsValue filter now json answer)
        → (line : List ℕ) → IsLineBut line (names_unkept rows) (row_held rows) → ReportsRow filter now line answer
    line_reported rows answer reported line read = row_reported filter now line read.json answer read.is_json (reported read.json (of_line line (names_unkept rows) (row_held rows) read))

    -- ---- a row that is held

    module _ (rows : RowsOfType) (names : KeepsNames filter rows) (whole : rows.is_whole ≡ true) where
      paths_same : (path : PropertyPath) → paths_in rows.expansion path ≡ paths_in filter.expansion path
      paths_same path = ap (λ (steps : List StepModel). paths_in steps path) (names.whole whole)

      -- what a filter's answer to the held row reports of its JSON
      pub held_reported : (json : Data) (answer : Result Verdict EvalFault) → IsJsonBut json (names_unkept rows) (row_held rows) → IfSome (reported_outcome answer) (IsTheOutcome (row_held rows) now (tree_of_filter filter))
          → ReportsValue filter now json (answer_reported answer)
      held_reported json answer read outcome =
          let but = row_but filter now json (names_unkept rows) (row_held rows) names.schema names.type_id paths_same names.keeps read in
          answer_but filter now json (row_held rows) answer but outcome

      -- and within a bound
      pub held_within : (line : List ℕ) (most : ℕ) (answer : Result (Option Verdict) EvalFault) → IsLineBut line (names_unkept rows) (row_held rows) → IfSome (outcome_reported answer) (IsTheOutcome (row_held rows) now (tree_of_filter filter))
          → KeepsBound (row_held rows) now (tree_of_filter filter) most answer → ReportsRowWithin filter now line most (answer_reported answer)
      held_within line most answer read outcome bound =
          let costs = kept_costs filter now line (names_unkept rows) (row_held rows) names.schema names.type_id paths_same names.keeps read in
          row_within filter now line read.json most (answer_reported answer) read.is_json (answer_within_row filter now read.json (row_held rows) most answer costs outcome bound)

    -- what is known of a line that is left out is known of its JSON
    of_left : (rows : RowsOfType) (line : List ℕ) → (left : IsLeftOut line rows) → IsJsonLeftOut left.json rows
    of_left rows line left =
        record { whole = left.whole; fits = left.fits; slot = left.slot; name = left.name; named = left.named; sieve = left.sieve; is_sieve = left.is_sieve; value = left.value; held = left.held; rejected = left.rejected }

    -- what is said of each JSON that was left out is said of its line
    pub line_left_out : (rows : RowsOfType) → ((json : Data) → IsJsonLeftOut json rows → JudgesValue filter now json Judgment.LeftOut) → (line : List ℕ) → IsLeftOut line rows → JudgesRow filter now line Judgment.LeftOut
    line_left_out rows said line left = record { json = left.json; is_json = left.is_json; judged = said left.json (of_left rows line left) }

    module _ (rows : RowsOfType) (of : AreRowsOf filter rows) (whole : rows.is_whole ≡ true) where
      -- ---- a row that is left out

      fits_there : (json : Data) (value : Val) → Fits (slots_for (row_held rows)) (type_name_at rows.schema rows.type_id) json value → Fits (slots_for_filter filter) (type_name_at filter.schema filter.filtered) json value
      fits_there json value fits =
          let Steps : List StepModel → Type 0 = λ steps. Fits (expanded (slots_of rows.schema) (paths_in steps)) (type_name_at rows.schema rows.type_id) json value in
          let Schema : SchemaModel → Type 0 = λ s. Fits (expanded (slots_of s) (paths_in filter.expansion)) (type_name_at s rows.type_id) json value in
          let Place : ℕ → Type 0 = λ n. Fits (slots_for_filter filter) (type_name_at filter.schema n) json value in
          subst Place of.names.type_id (subst Schema of.names.schema (subst Steps (of.names.whole whole) fits))

      slot_there : (slot : ℕ) (name : List ℕ) → slice_get (property_names rows.schema rows.type_id) slot ≡ Some name → slot_named (properties_at filter.schema filter.filtered) name ≡ Some slot
      slot_there slot name at =
          slot_of_name (properties_at filter.schema filter.filtered) slot name of.distinct
          (subst (λ (n : ℕ). slice_get (property_names filter.schema n) slot ≡ Some name) of.names.type_id (subst (λ (s : SchemaModel). slice_get (property_names s rows.type_id) slot ≡ Some name) of.names.schema at))

      -- of whatever the line fits, the filter is false and nothing else
      pub left_out_said : TypedEndsOnce → FitsHasType → IsFilter filter → IsMoment now.civil now.offset_minutes → (json : Data) → IsJsonLeftOut json rows → JudgesValue filter now json Judgment.LeftOut
      left_out_said ends has_type is_filter is_moment json left =
          let slots = slots_of filter.schema in
          let root = type_name_at filter.schema filter.filtered in
          let value = fields left.whole in
          let fits = fits_there json value left.fits in
          let test : IsTestAt filter left.slot left.sieve = subst (λ o. IfSome o (IsTestAt filter left.slot)) left.is_sieve (of.tests left.slot) in
          let false_only : (o : Outcome) → FilterMeans filter now value o → o ≡ gives (boolean false) =
          λ o means. test left.name (slot_there left.slot left.name left.named) now left.whole left.value o left.held left.rejected means in
          let once = ends slots root now value [] (tree_of_filter filter) is_filter.type_of is_moment (has_type slots (paths_in filter.expansion) root json value fits) tt is_filter.typed in (
            boolean false,
            (
              (λ e. cc),
              record {
                value = value;
                fits = fits;
                related = subst (λ (o : Outcome). FilterMeans filter now value o) (false_only once.outcome once.related) once.related;
                only = false_only;
              },
            ),
          )
