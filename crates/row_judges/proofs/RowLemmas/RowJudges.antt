-- From what is known of an entity to what is reported about its row, and said of its line.
use mathlib.Core.Path.{fun_ext}
use Rattle.std.proofs.Common.{◌≡◌, ◌≢◌, ℕ, List, [], Some, None, Result, Ok, Err, sym, subst, refl, IfSome, IfOk}
use Rattle.serde_json.specs.Data.{Data}
use Rattle.edm_values.specs.MomentParts.{MomentParts}
use Rattle.edm_values.specs.Val.{Val, null, boolean}
use Rattle.std.specs.Prelude.{Bool, true, false, IsFalse, MatchResult, if◌then◌else◌}
use Rattle.csdl_schema.specs.JsonText.{IsJsonOf}
use Rattle.csdl_schema.specs.ExpansionView.{StepModel, paths_in}
use Rattle.csdl_schema.specs.PathSet.{PathSet, PropertyPath}
use Rattle.csdl_schema.specs.SchemaModel.{SchemaModel, expanded, slots_of, type_name_at}
use Rattle.odata_filter_operations.specs.declared.eval_fault.EvalFault.{EvalFault}
use Rattle.odata_eval.specs.declared.verdict.Verdict.{Verdict}
use Rattle.line_filter.specs.declared.judge.Judgment.{Judgment}
use Rattle.row_judges.specs.declared.bad_row.BadRow.{BadRow}
use Rattle.edm_entities.specs.Fits.{Fits}
use Rattle.edm_entities.specs.Row.{Row, expanded_by, slots_for, value_of}
use Rattle.edm_entities.specs.RowFaults.{IsMemory, IsRowFault}
use Rattle.edm_entities.specs.TextFaults.{IsTextFault}
use Rattle.edm_entities.specs.declared.text_fault.TextFault.{TextFault}
use Rattle.edm_entities.specs.declared.row_fault.RowFault.{RowFault}
use Rattle.odata_meaning.specs.Means.{Means}
use Rattle.odata_meaning.specs.MeansOn.{IsTheOutcome}
use Rattle.odata_filter_operations.specs.Outcome.{Outcome, gives, overflow, divides_by_zero}
use Rattle.odata_filter_operations.specs.FaultView.{fault_outcome}
use Rattle.odata_eval.specs.VerdictView.{reported_outcome, verdict_val}
use Rattle.odata_checked_filter.specs.Filter.{Filter, slots_for_filter, tree_of_filter}
use Rattle.row_judges.specs.RowAnswer.{ReportsRow, is_memory, judgment_reported}
use Rattle.row_judges.specs.RowJudgment.{HasOutcome, JudgesRow, JudgesValue}
use Rattle.row_judges.specs.private.BadTexts.{bad_text}
use Rattle.row_judges.specs.private.ValueAnswer.{ReportsValue, answer_reported}

-- an entity of the filter's schema and type, read from the JSON with what the filter needs
pub record IsRowOf (filter : Filter) (json : Data) (row : Row) : Type 0 where
  pub same_schema : row.schema ≡ filter.schema
  pub same_type : row.type_id ≡ filter.filtered
  pub fits : Fits (slots_for_filter filter) (type_name_at filter.schema filter.filtered) json (value_of row)

-- it fits by its own schema and type, with the paths that it expands, which are the filter's
pub row_of_filter : (filter : Filter) (json : Data) (row : Row)
    → row.schema ≡ filter.schema → row.type_id ≡ filter.filtered → ((path : PropertyPath) → paths_in row.expansion path ≡ paths_in filter.expansion path)
    → Fits (slots_for row) (type_name_at row.schema row.type_id) json (value_of row) → IsRowOf filter json row
row_of_filter filter json row schema_is type_is paths fits =
    let Paths : PathSet → Type 0 = λ p. Fits (expanded (slots_of row.schema) p) (type_name_at row.schema row.type_id) json (value_of row) in
    let Schema : SchemaModel → Type 0 = λ s. Fits (expanded (slots_of s) (paths_in filter.expansion)) (type_name_at s row.type_id) json (value_of row) in
    let Place : ℕ → Type 0 = λ n. Fits (slots_for_filter filter) (type_name_at filter.schema n) json (value_of row) in
    record {
      same_schema = schema_is;
      same_type = type_is;
      fits = subst Place type_is (subst Schema schema_is (subst Paths (fun_ext paths) fits));
    }

-- it fits by its own schema and type, and what it expands
pub fits_of_row : (json : Data) (row : Row) (s : SchemaModel) (n : ℕ) (expansion : List StepModel) → row.schema ≡ s → row.type_id ≡ n → row.expansion ≡ expansion
    → Fits (expanded_by s expansion) (type_name_at s n) json (value_of row)
    → Fits (slots_for row) (type_name_at row.schema row.type_id) json (value_of row)
fits_of_row json row s n expansion of_schema of_type of_expansion fits =
    subst (λ e. Fits (expanded_by row.schema e) (type_name_at row.schema row.type_id) json (value_of row)) (sym of_expansion)
    (subst (λ n'. Fits (expanded_by row.schema expansion) (type_name_at row.schema n') json (value_of row)) (sym of_type)
    (subst (λ s'. Fits (expanded_by s' expansion) (type_name_at s' n) json (value_of row)) (sym of_schema) fits))

-- the outcome on the entity is that of the JSON
pub outcome_of_row : (filter : Filter) (now : MomentParts) (json : Data) (row : Row) (outcome : Outcome)
    → IsRowOf filter json row → IsTheOutcome row now (tree_of_filter filter) outcome → HasOutcome filter now json outcome
outcome_of_row filter now json row outcome is_row reported =
    let At : SchemaModel → ℕ → Outcome → Type 0 = λ s n o. Means (slots_of s) (type_name_at s n) now (value_of row) [] (tree_of_filter filter) o in
    let Schema : Outcome → SchemaModel → Type 0 = λ o s. At s row.type_id o in
    let Place : Outcome → ℕ → Type 0 = λ o n. At filter.schema n o in
    record {
      value = value_of row;
      fits = is_row.fits;
      related = subst (Place outcome) is_row.same_type (subst (Schema outcome) is_row.same_schema reported.related);
      only = λ other means. reported.only other (subst (Schema other) (sym is_row.same_schema) (subst (Place other) (sym is_row.same_type) means));
    }

-- a fault on the entity is what is reported about the JSON
pub reported_by_fault : (filter : Filter) (now : MomentParts) (json : Data) (row : Row) (fault : EvalFault)
    → IsRowOf filter json row → IfSome (fault_outcome fault) (IsTheOutcome row now (tree_of_filter filter))
    → ReportsValue filter now json (Err (BadRow.NoValue fault))
reported_by_fault filter now json row EvalFault.Overflow is_row reported = λ known. (overflow, (refl, outcome_of_row filter now json row overflow is_row reported))
reported_by_fault filter now json row EvalFault.DivideByZero is_row reported =
    λ known. (divides_by_zero, (refl, outcome_of_row filter now json row divides_by_zero is_row reported))
reported_by_fault filter now json row EvalFault.Memory is_row reported = λ known. absurd cc

-- the filter's answer to the entity is what is reported about the JSON
pub answer_of_row : (filter : Filter) (now : MomentParts) (json : Data) (row : Row) (answer : Result Verdict EvalFault)
    → IsRowOf filter json row → IfSome (reported_outcome answer) (IsTheOutcome row now (tree_of_filter filter))
    → ReportsValue filter now json (answer_reported answer)
answer_of_row filter now json row (Ok verdict) is_row reported = outcome_of_row filter now json row (gives (verdict_val verdict)) is_row reported
answer_of_row filter now json row (Err fault) is_row reported = reported_by_fault filter now json row fault is_row reported

-- ---- faults of an entity

not_memory : (fault : RowFault) → IsFalse (is_memory (BadRow.NoEntity fault)) → ¬ IsMemory fault
not_memory RowFault.Memory known = absurd cc
not_memory _ known = λ memory. memory

-- the first fault by the filter's schema, type and paths is what is reported about the JSON
pub fault_of_json : (filter : Filter) (now : MomentParts) (json : Data) (fault : RowFault) (s : SchemaModel) (n : ℕ) (expansion : List StepModel)
    → s ≡ filter.schema → n ≡ filter.filtered → expansion ≡ filter.expansion
    → (¬ IsMemory fault → IsRowFault (expanded_by s expansion) (type_name_at s n) json fault) → ReportsValue filter now json (Err (BadRow.NoEntity fault))
fault_of_json filter now json fault s n expansion of_schema of_type of_expansion first known =
    subst (λ (s' : SchemaModel). IsRowFault (expanded_by s' filter.expansion) (type_name_at s' filter.filtered) json fault) of_schema
    (subst (λ (n' : ℕ). IsRowFault (expanded_by s filter.expansion) (type_name_at s n') json fault) of_type
    (subst (λ (e : List StepModel). IsRowFault (expanded_by s e) (type_name_at s n) json fault) of_expansion (first (not_memory fault known))))

-- what is said of a row at fault, unless memory ran out
said_at_fault : (Said : Judgment BadRow → Type 0) (bad : BadRow) (said : Judgment BadRow)
    → (IsFalse (is_memory bad) → Said (Judgment.Fault bad)) → judgment_reported (Err bad) ≡ Some said → Said said
said_at_fault Said bad said holds = by (is_memory bad) refl
  where
    by : (b : Bool) → is_memory bad ≡ b → (if b then None else Some (Judgment.Fault bad)) ≡ Some said → Said said
    by true known is = absurd cc
    by false known is = let same : Judgment.Fault bad ≡ said = cc in subst Said same (holds known)

-- ---- what is reported, and what is said of a line

module _ (filter : Filter) (now : MomentParts) where
  -- an outcome that is not true leaves its row out
  left_out : (json : Data) (value : Val) → value ≢ boolean true → HasOutcome filter now json (gives value) → JudgesValue filter now json Judgment.LeftOut
  left_out json value not_so has = (value, (not_so, has))

  pub value_judged : (json : Data) (answer : Result Verdict BadRow) (said : Judgment BadRow)
      → ReportsValue filter now json answer → judgment_reported answer ≡ Some said → JudgesValue filter now json said
  value_judged json (Ok Verdict.True) said reported is =
      let same : Judgment.Kept ≡ said = cc in subst (λ (j : Judgment BadRow). JudgesValue filter now json j) same reported
  value_judged json (Ok Verdict.False) said reported is =
      let same : Judgment.LeftOut ≡ said = cc in
      subst (λ (j : Judgment BadRow). JudgesValue filter now json j) same (left_out json (boolean false) (λ e. cc) reported)
  value_judged json (Ok Verdict.Null) said reported is =
      let same : Judgment.LeftOut ≡ said = cc in
      subst (λ (j : Judgment BadRow). JudgesValue filter now json j) same (left_out json null (λ e. cc) reported)
  value_judged json (Err bad) said reported is = said_at_fault (JudgesValue filter now json) bad said reported is

  pub row_judged : (row : List ℕ) (answer : Result Verdict BadRow) (said : Judgment BadRow)
      → ReportsRow filter now row answer → judgment_reported answer ≡ Some said → JudgesRow filter now row said
  row_judged row (Ok Verdict.True) said reported is =
      let same : Judgment.Kept ≡ said = cc in
      subst (λ (j : Judgment BadRow). JudgesRow filter now row j) same (record { json = reported.json; is_json = reported.is_json; judged = reported.outcome })
  row_judged row (Ok Verdict.False) said reported is =
      let same : Judgment.LeftOut ≡ said = cc in
      subst (λ (j : Judgment BadRow). JudgesRow filter now row j) same
      (record { json = reported.json; is_json = reported.is_json; judged = left_out reported.json (boolean false) (λ e. cc) reported.outcome })
  row_judged row (Ok Verdict.Null) said reported is =
      let same : Judgment.LeftOut ≡ said = cc in
      subst (λ (j : Judgment BadRow). JudgesRow filter now row j) same
      (record { json = reported.json; is_json = reported.is_json; judged = left_out reported.json null (λ e. cc) reported.outcome })
  row_judged row (Err bad) said reported is = said_at_fault (JudgesRow filter now row) bad said reported is

  -- what is reported about the JSON that a row is, is reported about the row
  pub row_reported : (row : List ℕ) (json : Data) (answer : Result Verdict BadRow)
      → IsJsonOf row json → ReportsValue filter now json answer → ReportsRow filter now row answer
  row_reported row json (Ok verdict) is reported = record { json = json; is_json = is; outcome = reported }
  row_reported row json (Err BadRow.NotJson) is reported = absurd (reported refl)
  row_reported row json (Err (BadRow.NoEntity fault)) is reported = λ known. record { json = json; is_json = is; judged = reported known }
  row_reported row json (Err (BadRow.NoValue fault)) is reported = λ known. record { json = json; is_json = is; judged = reported known }

  -- what is wrong with a row's text is reported about the row
  pub text_reported : (row : List ℕ) (fault : TextFault) (s : SchemaModel) (n : ℕ) (expansion : List StepModel)
      → s ≡ filter.schema → n ≡ filter.filtered → expansion ≡ filter.expansion
      → IsTextFault (expanded_by s expansion) (type_name_at s n) row fault → ReportsRow filter now row (Err (bad_text fault))
  text_reported row TextFault.NotJson s n expansion of_schema of_type of_expansion is = λ known. is
  text_reported row (TextFault.NoEntity fault) s n expansion of_schema of_type of_expansion is =
      λ known.
      let first = is (not_memory fault known) in
      record {
        json = first.0;
        is_json = first.1;
        judged = fault_of_json filter now first.0 fault s n expansion of_schema of_type of_expansion (λ _. first.2) known;
      }

  -- what is kept by what is reported is right to keep
  abbrev Says : {E : Type 0} → Result Verdict BadRow → Result (Judgment BadRow) E → Type 0
  Says answer result = MatchResult result (λ said. judgment_reported answer ≡ Some said) (λ refused. judgment_reported answer ≡ None)

  pub item_judged : {E : Type 0} (json : Data) (answer : Result Verdict BadRow) (result : Result (Judgment BadRow) E)
      → ReportsValue filter now json answer → Says answer result → IfOk result (JudgesValue filter now json)
  item_judged json answer (Ok said) reported is = value_judged json answer said reported is
  item_judged json answer (Err refused) reported is = tt

  pub line_judged : {E : Type 0} (line : List ℕ) (answer : Result Verdict BadRow) (result : Result (Judgment BadRow) E)
      → ReportsRow filter now line answer → Says answer result → IfOk result (JudgesRow filter now line)
  line_judged line answer (Ok said) reported is = row_judged line answer said reported is
  line_judged line answer (Err refused) reported is = tt
