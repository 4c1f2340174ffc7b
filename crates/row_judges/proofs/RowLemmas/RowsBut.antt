-- From what is known of an entity that lacks what was passed to what is reported about its row.
use mathlib.Core.Path.{fun_ext}
use Rattle.std.proofs.Common.{◌≡◌, ◌≢◌, ◌⊎◌, inl, inr, ℕ, zero, suc, ◌+◌, ◌<◌, ◌==◌, Bool, true, false, lt_of_not-le, List, [], ◌∷◌, length, Result, Ok, Err, slice_get, refl, sym, ap, ◌∙◌, subst, IfSome, arith}
use Rattle.std.proofs.lemmas.Bool.{eqb-true, eqb-false}
use Rattle.std.specs.Prelude.{unwrap_or}
use Rattle.serde_json.specs.Data.{Data}
use Rattle.edm_values.specs.MomentParts.{MomentParts}
use Rattle.edm_values.specs.Val.{FieldVal, Val, absent, fields, items, present}
use Rattle.csdl_schema.specs.ExpansionView.{paths_in}
use Rattle.csdl_schema.specs.PathSet.{PathSet, PropertyPath}
use Rattle.csdl_schema.specs.SchemaModel.{SchemaModel, expanded, slots_of, type_name_at}
use Rattle.edm_entities.specs.Fits.{Fits}
use Rattle.edm_entities.specs.Row.{Row, value_of}
use Rattle.edm_rows.specs.RowReading.{IsLineBut, Names}
use Rattle.edm_rows.specs.RowItems.{IsJsonBut}
use Rattle.odata_checked_filter.specs.Filter.{Filter, slots_for_filter, tree_of_filter}
use Rattle.odata_checked_filter.specs.declared.checked_node.CheckedNode.{CheckedNode}
use Rattle.odata_meaning.specs.Means.{Means}
use Rattle.odata_meaning.specs.MeansOn.{IsTheOutcome}
use Rattle.odata_filter_operations.specs.Outcome.{Outcome, gives, overflow, divides_by_zero}
use Rattle.odata_eval.specs.VerdictView.{reported_outcome, verdict_val}
use Rattle.odata_filter_operations.specs.FaultView.{fault_outcome}
use Rattle.odata_filter_operations.specs.declared.eval_fault.EvalFault.{EvalFault}
use Rattle.odata_eval.specs.declared.verdict.Verdict.{Verdict}
use Rattle.row_judges.specs.RowAnswer.{PassesNone}
use Rattle.row_judges.specs.RowJudgment.{HasOutcome}
use Rattle.row_judges.specs.declared.bad_row.BadRow.{BadRow}
use Rattle.row_judges.specs.private.ValueAnswer.{ReportsValue, answer_reported}
use Rattle.edm_rows.specs.Alike.{AreAlike, alike_lists, alike_records, alike_same}
use Rattle.edm_rows.proofs.AlikeValues.{alike_back}
use Rattle.row_judges.proofs.RowLemmas.AlikeMeans.{Follows, OutcomesAlike, alike_values, means_follow, no_variables, same_outcome}
use Rattle.row_judges.proofs.RowLemmas.NamesAlone.{NamesNone, NodesNameNone, list_none}

-- ---- what a filter that names none of them evaluates to

nodes_none : (Passed : Names) (texts : List (List ℕ)) (i : ℕ) (nodes : List CheckedNode) → ((k : ℕ) → k < length nodes → ¬ Passed (unwrap_or (slice_get texts (i + k)) [])) → NodesNameNone Passed texts i nodes
nodes_none Passed texts i [] unnamed = tt
nodes_none Passed texts i (found ∷ rest) unnamed =
    let same : i + 0 ≡ i = omega arith in (
      subst (λ n. ¬ Passed (unwrap_or (slice_get texts n) [])) same (unnamed 0 (omega arith)),
      nodes_none Passed texts (i + 1) rest
          (λ k less. let shifted : i + suc k ≡ i + 1 + k = omega arith in subst (λ n. ¬ Passed (unwrap_or (slice_get texts n) [])) shifted (unnamed (suc k) (omega (arith, less)))),
    )

pub tree_none : (filter : Filter) (Passed : Names) → PassesNone filter Passed → NamesNone Passed (tree_of_filter filter)
tree_none filter Passed passes =
    list_none Passed filter.list passes.spelled
    (nodes_none Passed filter.list.texts 0 filter.list.nodes (λ k less. let same : k ≡ 0 + k = omega arith in subst (λ n. ¬ Passed (unwrap_or (slice_get filter.list.texts n) [])) same (passes.unnamed k less)))

-- an outcome that is no record and no list
abbrev pub IsPlain : Outcome → Type 0
IsPlain (gives (fields held)) = ⊥
IsPlain (gives (items values)) = ⊥
IsPlain _ = Unit {0}

plain_value : (Passed : Names) (v w : Val) → AreAlike Passed v w → IsPlain (gives v) → gives w ≡ gives v
plain_value Passed v w (alike_same u) plain = refl
plain_value Passed v w (alike_records f g each) plain = absurd plain
plain_value Passed v w (alike_lists vs ws all) plain = absurd plain

value_plain : (Passed : Names) (v w : Val) → AreAlike Passed v w → IsPlain (gives w) → gives v ≡ gives w
value_plain Passed v w (alike_same u) plain = refl
value_plain Passed v w (alike_records f g each) plain = absurd plain
value_plain Passed v w (alike_lists vs ws all) plain = absurd plain

plain_on : (Passed : Names) (o p : Outcome) → OutcomesAlike Passed o p → IsPlain o → p ≡ o
plain_on Passed o p (alike_values v w alike) plain = plain_value Passed v w alike plain
plain_on Passed o p (same_outcome q) plain = refl

plain_from : (Passed : Names) (o p : Outcome) → OutcomesAlike Passed o p → IsPlain p → o ≡ p
plain_from Passed o p (alike_values v w alike) plain = value_plain Passed v w alike plain
plain_from Passed o p (same_outcome q) plain = refl

pub plain_goes : (Passed : Names) (M N : Outcome → Type 0) → Follows Passed M N → (o : Outcome) → IsPlain o → M o → N o
plain_goes Passed M N goes o plain is = let other = goes o is in subst N (plain_on Passed o other.0 other.1.1 plain) other.1.0

pub goes_plain : (Passed : Names) (M N : Outcome → Type 0) → Follows Passed N M → (o : Outcome) → N o → (p : Outcome) × (M p × (IsPlain p → o ≡ p))
goes_plain Passed M N back o is = let other = back o is in (other.0, (other.1.0, plain_from Passed o other.0 other.1.1))

-- ---- what is reported about a row

-- an entity of the filter's schema and type, with what the filter needs of a line
pub record IsRowBut (filter : Filter) (now : MomentParts) (json : Data) (row : Row) : Type 0 where
  pub same_schema : row.schema ≡ filter.schema
  pub same_type : row.type_id ≡ filter.filtered
  pub whole : Val
  pub fits : Fits (slots_for_filter filter) (type_name_at filter.schema filter.filtered) json whole
  -- its outcomes that are no records or lists are those of the whole
  pub means :
      (o : Outcome) → IsPlain o → (Means (slots_of row.schema) (type_name_at row.schema row.type_id) now (value_of row) [] (tree_of_filter filter) o
      → Means (slots_of filter.schema) (type_name_at filter.schema filter.filtered) now whole [] (tree_of_filter filter) o)
  pub meant :
      (o : Outcome) → Means (slots_of filter.schema) (type_name_at filter.schema filter.filtered) now whole [] (tree_of_filter filter) o
      → (p : Outcome) × (Means (slots_of row.schema) (type_name_at row.schema row.type_id) now (value_of row) [] (tree_of_filter filter) p × (IsPlain p → o ≡ p))

-- what is known of a line is known of its JSON
abbrev pub of_line : (line : List ℕ) (Passed : Names) (row : Row) → (read : IsLineBut line Passed row) → IsJsonBut read.json Passed row
of_line line Passed row read = record { whole = read.whole; fits = read.fits; alike = read.alike }

-- the JSON fits as the filter needs it
pub fits_but : (filter : Filter) (json : Data) (Passed : Names) (row : Row) → row.schema ≡ filter.schema → row.type_id ≡ filter.filtered
    → ((path : PropertyPath) → paths_in row.expansion path ≡ paths_in filter.expansion path) → (read : IsJsonBut json Passed row)
    → Fits (slots_for_filter filter) (type_name_at filter.schema filter.filtered) json read.whole
fits_but filter json Passed row schema_is type_is paths read =
    let whole = read.whole in
    let Paths : PathSet → Type 0 = λ p. Fits (expanded (slots_of row.schema) p) (type_name_at row.schema row.type_id) json whole in
    let Schema : SchemaModel → Type 0 = λ s. Fits (expanded (slots_of s) (paths_in filter.expansion)) (type_name_at s row.type_id) json whole in
    let Place : ℕ → Type 0 = λ n. Fits (slots_for_filter filter) (type_name_at filter.schema n) json whole in
    subst Place type_is (subst Schema schema_is (subst Paths (fun_ext paths) read.fits))

pub row_but : (filter : Filter) (now : MomentParts) (json : Data) (Passed : Names) (row : Row) → row.schema ≡ filter.schema → row.type_id ≡ filter.filtered
    → ((path : PropertyPath) → paths_in row.expansion path ≡ paths_in filter.expansion path) → PassesNone filter Passed → (read : IsJsonBut json Passed row) → IsRowBut filter now json row
row_but filter now json Passed row schema_is type_is paths passes read =
    let whole = read.whole in
    let tree = tree_of_filter filter in
    let none = tree_none filter Passed passes in
    let slots = slots_of row.schema in
    let root = type_name_at row.schema row.type_id in
    let M : Val → Outcome → Type 0 = λ v. Means slots root now v [] tree in
    let At : SchemaModel → ℕ → Outcome → Type 0 = λ s n o. Means (slots_of s) (type_name_at s n) now whole [] tree o in
    let there : Follows Passed (M (value_of row)) (M whole) = means_follow Passed slots root now (value_of row) whole read.alike [] [] no_variables tree none in
    let back : Follows Passed (M whole) (M (value_of row)) =
    means_follow Passed slots root now whole (value_of row) (alike_back Passed (value_of row) whole read.alike) [] [] no_variables tree none in
    record {
      same_schema = schema_is;
      same_type = type_is;
      whole = whole;
      fits = fits_but filter json Passed row schema_is type_is paths read;
      means = λ o plain holds.
          subst (λ n. At filter.schema n o) type_is (subst (λ s. At s row.type_id o) schema_is (plain_goes Passed (M (value_of row)) (M whole) there o plain holds));
      meant = λ o holds.
          goes_plain Passed (M (value_of row)) (M whole) back o (subst (λ s. At s row.type_id o) (sym schema_is) (subst (λ n. At filter.schema n o) (sym type_is) holds));
    }

outcome_but : (filter : Filter) (now : MomentParts) (json : Data) (row : Row) (outcome : Outcome) → IsPlain outcome → IsRowBut filter now json row → IsTheOutcome row now (tree_of_filter filter) outcome
    → HasOutcome filter now json outcome
outcome_but filter now json row outcome plain is reported = record {
  value = is.whole;
  fits = is.fits;
  related = is.means outcome plain reported.related;
  only = λ other means.
      let there = is.meant other means in
      let same : there.0 ≡ outcome = reported.only there.0 there.1.0 in
      there.1.1 (subst IsPlain (sym same) plain) ∙ same;
}

fault_but : (filter : Filter) (now : MomentParts) (json : Data) (row : Row) (fault : EvalFault) → IsRowBut filter now json row → IfSome (fault_outcome fault) (IsTheOutcome row now (tree_of_filter filter))
    → ReportsValue filter now json (Err (BadRow.NoValue fault))
fault_but filter now json row EvalFault.Overflow is reported = λ known. (overflow, (refl, outcome_but filter now json row overflow tt is reported))
fault_but filter now json row EvalFault.DivideByZero is reported = λ known. (divides_by_zero, (refl, outcome_but filter now json row divides_by_zero tt is reported))
fault_but filter now json row EvalFault.Memory is reported = λ known. absurd cc

verdict_plain : (verdict : Verdict) → IsPlain (gives (verdict_val verdict))
verdict_plain Verdict.True = tt
verdict_plain Verdict.False = tt
verdict_plain Verdict.Null = tt

pub answer_but : (filter : Filter) (now : MomentParts) (json : Data) (row : Row) (answer : Result Verdict EvalFault) → IsRowBut filter now json row → IfSome (reported_outcome answer) (IsTheOutcome row now (tree_of_filter filter))
    → ReportsValue filter now json (answer_reported answer)
answer_but filter now json row (Ok verdict) is reported = outcome_but filter now json row (gives (verdict_val verdict)) (verdict_plain verdict) is reported
answer_but filter now json row (Err fault) is reported = fault_but filter now json row fault is reported

-- ---- numbers one after another

pub below_next : (P : ℕ → Type 0) (n : ℕ) → ((k : ℕ) → k < n → P k) → P n → (k : ℕ) → k < n + 1 → P k
below_next P n below here k less = by (k == n) refl
  where
    by : (b : Bool) → (k == n) ≡ b → P k
    by true e = subst P (sym (eqb-true k n e)) here
    by false e = let other = eqb-false k n e in below k (lt_of_not-le (λ past. other (omega (arith, less, past))))
