-- A filter with a typing: its one outcome, and the rows that it keeps.
use Rattle.std.proofs.Common.{◌≡◌, ◌≢◌, ℕ, List, [], ◌∷◌, ◌++◌, Option, Some, inl, inr, ◌⊎◌, refl, sym, ap, ◌∙◌, subst}
use Rattle.std.specs.Prelude.{map, All, true, IfSome, Result, Ok, Err}
use Rattle.std.proofs.lemmas.List.Elements.{All-head, All-tail}
use Rattle.serde_json.specs.Data.{Data}
use Rattle.edm_values.specs.MomentParts.{IsMoment, MomentParts}
use Rattle.edm_values.specs.declared.primitive.PrimitiveType.TheVariants.{Bool as EdmBoolean}
use Rattle.edm_values.specs.Val.{Val, null, boolean, whole, text as of_text, date, moment, guid, member, fields, items}
use Rattle.csdl_schema.specs.ExprType.{ExprType, null_type, single, primitive, structured}
use Rattle.csdl_schema.specs.ExpansionView.{paths_in}
use Rattle.csdl_schema.specs.PathSet.{PathSet}
use Rattle.csdl_schema.specs.SchemaModel.{Slots, SchemaModel, expanded, slots_of, type_name_at}
use Rattle.edm_entities.specs.Fits.{Fits}
use Rattle.edm_entities.specs.HasType.{HasType}
use Rattle.edm_entities.specs.Row.{Row, value_of}
use Rattle.odata_checked_filter.specs.Filter.{Filter, tree_of_filter}
use Rattle.odata_meaning.specs.EndsOnce.{IsOutcomeOf, TypedEndsOnce}
use Rattle.odata_meaning.specs.Means.{Means}
use Rattle.odata_meaning.specs.MeansOn.{IsTheOutcome}
use Rattle.odata_filter_operations.specs.Outcome.{Outcome, gives, overflow, divides_by_zero}
use Rattle.odata_eval.specs.VerdictView.{reported_outcome, verdict_val}
use Rattle.odata_filter_operations.specs.declared.eval_fault.EvalFault.{EvalFault}
use Rattle.odata_eval.specs.declared.verdict.Verdict.{Verdict}
use Rattle.line_filter.specs.Kept.{LineClass, Filters, IsFaultless, Passes, SiftedItem, kept_text}
use Rattle.line_filter.specs.LineItems.{IsFoundOf, line_sieve}
use Rattle.line_filter.specs.Lines.{lines_of, text_of_line, text_of_lines}
use Rattle.line_filter.specs.declared.judge.Judgment.{Judgment}
use Rattle.line_filter.specs.declared.tally.Tally.{Tally}
use Rattle.odata_filter.specs.Headline.{IsCheckedOf, ConformsTo, IsEntityFor, IsTruthOrFault, ComesToOne, HaveOneOutcome, AreAnswered}
use Rattle.odata_filter.specs.Headline.{IsTrueRow, KeepTrueRows, ArePicked, HasTrueRows, WriteTrueRows, StopAtFaults}
use Rattle.row_judges.specs.RowJudgment.{FilterMeans, JudgesRow, rows_of}
use Rattle.odata_filter.specs.StopsOnce.{IsOfRow}
use Rattle.filter_runs.specs.RunStops.{StopsBy}
use Rattle.row_judges.specs.declared.bad_row.BadRow.{BadRow}
use Rattle.filter_runs.specs.declared.run_fault.RunFault.{RunFault}
use Rattle.row_judges.specs.RowsOnce.{AreSameJudgment}

-- the law of what fits and its type, as it is cited
abbrev FitsHasType : Type 0
FitsHasType = (slots : Slots) (expansion : PathSet) (type_name : List ℕ) (json : Data) (v : Val) → Fits (expanded slots expansion) type_name json v → HasType slots (single (structured type_name)) v

-- the law of rows, as it is cited
abbrev JudgedOnce : Type 0
JudgedOnce = (filter : Filter) (now : MomentParts) (line : List ℕ) (j k : Judgment BadRow) → JudgesRow filter now line j → JudgesRow filter now line k → AreSameJudgment j k

-- ---- the five outcomes

truth_of : (slots : Slots) (v : Val) → HasType slots (single (primitive EdmBoolean)) v → IsTruthOrFault (gives v)
truth_of slots null has = tt
truth_of slots (boolean b) has = tt
truth_of slots (whole n) has = absurd has
truth_of slots (of_text s) has = absurd has
truth_of slots (date d) has = absurd has
truth_of slots (moment m) has = absurd has
truth_of slots (guid g) has = absurd has
truth_of slots (member n) has = absurd has
truth_of slots (fields f) has = absurd has
truth_of slots (items vs) has = absurd has

null_of : (slots : Slots) (v : Val) → HasType slots null_type v → IsTruthOrFault (gives v)
null_of slots null has = tt
null_of slots (boolean b) has = absurd has
null_of slots (whole n) has = absurd has
null_of slots (of_text s) has = absurd has
null_of slots (date d) has = absurd has
null_of slots (moment m) has = absurd has
null_of slots (guid g) has = absurd has
null_of slots (member n) has = absurd has
null_of slots (fields f) has = absurd has
null_of slots (items vs) has = absurd has

known_of : (slots : Slots) (type : ExprType) (o : Outcome) → (type ≡ single (primitive EdmBoolean)) ⊎ (type ≡ null_type) → IsOutcomeOf slots type o → IsTruthOrFault o
known_of slots type (gives v) (inl is) of_type = truth_of slots v (subst (λ (t : ExprType). HasType slots t v) is of_type)
known_of slots type (gives v) (inr is) of_type = null_of slots v (subst (λ (t : ExprType). HasType slots t v) is of_type)
known_of slots type overflow truth of_type = tt
known_of slots type divides_by_zero truth of_type = tt

pub one_outcome : TypedEndsOnce → FitsHasType → HaveOneOutcome
one_outcome ends has_type text filter now value checked is_moment (json, fits) =
    let slots = slots_of filter.schema in
    let root = type_name_at filter.schema filter.filtered in
    let once = ends slots root now value [] (tree_of_filter filter) checked.typing.type_of is_moment
    (has_type slots (paths_in filter.expansion) root json value fits) tt checked.typing.typed in
    (once.outcome, record { known = known_of slots checked.typing.type_of once.outcome checked.typing.truth once.of_type; related = once.related; only = once.only })

-- ---- what is answered on an entity

comes_to : (filter : Filter) (now : MomentParts) (row : Row) (outcome : Outcome) → IsEntityFor filter row → IsTheOutcome row now (tree_of_filter filter) outcome → IsTruthOrFault outcome
    → ComesToOne filter now (value_of row) outcome
comes_to filter now row outcome for reported known =
    let At : SchemaModel → ℕ → Outcome → Type 0 = λ s n o. Means (slots_of s) (type_name_at s n) now (value_of row) [] (tree_of_filter filter) o in
    let Schema : Outcome → SchemaModel → Type 0 = λ o s. At s row.type_id o in
    let Place : Outcome → ℕ → Type 0 = λ o n. At filter.schema n o in
    record {
      known = known;
      related = subst (Place outcome) (sym for.one_type) (subst (Schema outcome) (sym for.one_schema) reported.related);
      only = λ other means. reported.only other (subst (Schema other) for.one_schema (subst (Place other) for.one_type means));
    }

verdict_known : (verdict : Verdict) → IsTruthOrFault (gives (verdict_val verdict))
verdict_known Verdict.True = tt
verdict_known Verdict.False = tt
verdict_known Verdict.Null = tt

pub answered : AreAnswered
answered text filter now row (Ok verdict) checked for reported given =
    (gives (verdict_val verdict), refl, comes_to filter now row (gives (verdict_val verdict)) for reported (verdict_known verdict))
answered text filter now row (Err EvalFault.Overflow) checked for reported given = (overflow, refl, comes_to filter now row overflow for reported tt)
answered text filter now row (Err EvalFault.DivideByZero) checked for reported given = (divides_by_zero, refl, comes_to filter now row divides_by_zero for reported tt)
answered text filter now row (Err EvalFault.Memory) checked for reported given = absurd (given refl)

-- ---- the rows that are kept

module _ (ends : TypedEndsOnce) (has_type : FitsHasType) where
  true_judged : (text : List ℕ) (filter : Filter) (now : MomentParts) (line : List ℕ) → IsCheckedOf text filter → IsMoment now.civil now.offset_minutes → IsTrueRow filter now line
      → JudgesRow filter now line Judgment.Kept
  true_judged text filter now line checked is_moment row =
      let (outcome, one) = one_outcome ends has_type text filter now row.value checked is_moment (row.json, row.fits) in
      record {
        json = row.json;
        is_json = row.is_json;
        judged = record {
          value = row.value;
          fits = row.fits;
          related = row.is_true;
          only = λ other means. one.only other means ∙ sym (one.only (gives (boolean true)) row.is_true);
        };
      }

  kept_true : (filter : Filter) (now : MomentParts) (line : List ℕ) → IsFoundOf (JudgesRow filter now) line (LineClass.judged Judgment.Kept) → IsTrueRow filter now line
  kept_true filter now line (short, some, judged) = record {
    short = short;
    some = some;
    json = judged.json;
    is_json = judged.is_json;
    value = judged.judged.value;
    fits = judged.judged.fits;
    is_true = judged.judged.related;
  }

  pub kept : KeepTrueRows
  kept text filter now line checked is_moment = (kept_true filter now line, λ row. (row.short, row.some, true_judged text filter now line checked is_moment row))

  module _ (once : JudgedOnce) where
    module _ (of : List ℕ) (filter : Filter) (now : MomentParts) (checked : IsCheckedOf of filter) (is_moment : IsMoment now.civil now.offset_minutes) where
      abbrev IsFine : SiftedItem (List ℕ) BadRow → Type 0
      IsFine s = IsFoundOf (JudgesRow filter now) s.item s.line_class × IsFaultless s.line_class

      left_out : (line : List ℕ) → JudgesRow filter now line Judgment.LeftOut → ¬ IsTrueRow filter now line
      left_out line out row =
          once filter now line Judgment.Kept Judgment.LeftOut (true_judged of filter now line checked is_moment row) out

      pick : (line : List ℕ) (line_class : LineClass BadRow) (more : List (SiftedItem (List ℕ) BadRow)) → IsFoundOf (JudgesRow filter now) line line_class → IsFaultless line_class
          → HasTrueRows filter now (map (λ s. s.item) more) (kept_text text_of_line more)
          → HasTrueRows filter now (line ∷ map (λ s. s.item) more) (kept_text text_of_line (record { item = line; line_class = line_class } ∷ more))
      pick line LineClass.too_long more found fine rest = absurd fine
      pick line LineClass.passed_over more (short, blank) fine (picked, are, is) = (picked, inr ((λ row. row.some blank), are), is)
      pick line (LineClass.judged Judgment.Kept) more found fine (picked, are, is) =
          (line ∷ picked, inl (kept_true filter now line found, picked, refl, are), ap (λ l. text_of_line line ++ l) is)
      pick line (LineClass.judged Judgment.LeftOut) more (short, some, out) fine (picked, are, is) = (picked, inr (left_out line out, are), is)
      pick line (LineClass.judged (Judgment.Fault fault)) more found fine rest = absurd fine

      picked_of : (all : List (SiftedItem (List ℕ) BadRow)) → All IsFine all → HasTrueRows filter now (map (λ s. s.item) all) (kept_text text_of_line all)
      picked_of [] fine = ([], refl, refl)
      picked_of (s ∷ more) fine =
          let here = All-head IsFine s more fine in
          pick s.item s.line_class more here.0 here.1 (picked_of more (All-tail IsFine s more fine))

      passing : (lines : List (List ℕ)) (written : List ℕ) (tally : Tally) → Passes (line_sieve (JudgesRow filter now)) lines written tally → HasTrueRows filter now lines written
      passing lines written tally passes =
          let (picked, are, is) = picked_of passes.all passes.found in
          (picked, subst (λ (l : List (List ℕ)). ArePicked (IsTrueRow filter now) l picked) passes.in_order are, passes.kept ∙ is)

    pub written : WriteTrueRows
    written text filter now bytes out tally checked is_moment filters = passing text filter now checked is_moment (lines_of bytes) out tally filters

    pub stopped : StopAtFaults
    stopped text filter now bytes out (RunFault.Json n) checked is_moment of_row stop =
        (n, LineClass.judged (Judgment.Fault BadRow.NotJson), record { faulty = λ fine. fine; first = stop; written_before = passing text filter now checked is_moment stop.before out stop.tally stop.passes })
    stopped text filter now bytes out (RunFault.Row n fault) checked is_moment of_row stop =
        (n, LineClass.judged (Judgment.Fault (BadRow.NoEntity fault)), record { faulty = λ fine. fine; first = stop; written_before = passing text filter now checked is_moment stop.before out stop.tally stop.passes })
    stopped text filter now bytes out (RunFault.Arithmetic n fault) checked is_moment of_row stop =
        (n, LineClass.judged (Judgment.Fault (BadRow.NoValue fault)), record { faulty = λ fine. fine; first = stop; written_before = passing text filter now checked is_moment stop.before out stop.tally stop.passes })
    stopped text filter now bytes out (RunFault.LineTooLong n) checked is_moment of_row stop =
        (n, LineClass.too_long, record { faulty = λ fine. fine; first = stop; written_before = passing text filter now checked is_moment stop.before out stop.tally stop.passes })
    stopped text filter now bytes out RunFault.NotACollection checked is_moment of_row stop = absurd of_row
    stopped text filter now bytes out (RunFault.Read n) checked is_moment of_row stop = absurd of_row
    stopped text filter now bytes out RunFault.Write checked is_moment of_row stop = absurd of_row
    stopped text filter now bytes out (RunFault.Memory n) checked is_moment of_row stop = absurd of_row
