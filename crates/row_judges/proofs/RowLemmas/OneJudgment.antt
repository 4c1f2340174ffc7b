-- Of a line a filter has one judgment at most, and of a row one answer.
use Rattle.std.proofs.Common.{◌≡◌, ◌≢◌, ℕ, List, [], ◌∷◌, Option, Some, None, Result, Ok, Err, inl, inr, ◌⊎◌, refl, sym, ap, ◌∙◌, subst}
use Rattle.std.specs.Prelude.{Bool, true, false, IsFalse, IsSome, IsTrue}
use Rattle.std.specs.List.{join_with_byte}
use Rattle.serde_json.specs.Data.{Data}
use Rattle.serde_json.specs.Find.{as_object}
use Rattle.edm_values.specs.MomentParts.{MomentParts}
use Rattle.edm_values.specs.Val.{Val, boolean}
use Rattle.csdl_schema.specs.JsonText.{IsJsonOf, IsNoJson}
use Rattle.csdl_schema.specs.SchemaModel.{Slots, type_name_at}
use Rattle.edm_entities.specs.Fits.{Fits}
use Rattle.edm_entities.specs.RowFaults.{Path, IsFirstFault, IsRowFault}
use Rattle.fault_numbers.specs.FaultNumbers.{flaw_reported}
use Rattle.edm_entities.specs.FitsPrimitive.{Flaw, missing, wrong_kind, null_not_allowed, out_of_range, bad_text, not_expanded}
use Rattle.edm_entities.specs.declared.row_fault.RowFault.{RowFault}
use Rattle.odata_filter_operations.specs.Outcome.{Outcome, gives}
use Rattle.odata_filter_operations.specs.FaultView.{fault_outcome}
use Rattle.odata_eval.specs.VerdictView.{verdict_val}
use Rattle.odata_filter_operations.specs.declared.eval_fault.EvalFault.{EvalFault}
use Rattle.odata_eval.specs.declared.verdict.Verdict.{Verdict}
use Rattle.odata_checked_filter.specs.Filter.{Filter, slots_for_filter}
use Rattle.line_filter.specs.declared.judge.Judgment.{Judgment}
use Rattle.row_judges.specs.declared.bad_row.BadRow.{BadRow}
use Rattle.row_judges.specs.RowAnswer.{AreSameAnswer, ReportsRow, is_memory}
use Rattle.row_judges.specs.RowJudgment.{FilterMeans, HasOutcome, JudgesValue, JudgesJson, JudgesRow}
use Rattle.row_judges.specs.RowsOnce.{AreSameJudgment}
use Rattle.row_judges.proofs.RowLemmas.RowJudges.{row_judged}

-- the laws of what fits, as they are cited
abbrev pub OneFits : Type 0
OneFits = (slots : Slots) (type_name : List ℕ) (json : Data) (v w : Val) → Fits slots type_name json v → Fits slots type_name json w → v ≡ w

abbrev pub FaultFitsNothing : Type 0
FaultFitsNothing = (slots : Slots) (type_name : List ℕ) (json : Data) (fault : RowFault) → IsRowFault slots type_name json fault → (v : Val) → ¬ (Fits slots type_name json v)

abbrev pub OneFirstFault : Type 0
OneFirstFault = (slots : Slots) (type_name : List ℕ) (json : Data) (path path' : Path) (flaw flaw' : Flaw)
    → IsFirstFault slots type_name json path flaw → IsFirstFault slots type_name json path' flaw' → (path ≡ path') × (flaw ≡ flaw')

-- ---- the fault of an entity

-- no object, or a first flaw at a path
row_fault_view : (slots : Slots) (type_name : List ℕ) (json : Data) (fault : RowFault) → IsRowFault slots type_name json fault
    → ((as_object json ≡ None) × (flaw_reported fault ≡ None)) ⊎ ((path : Path) × (flaw : Flaw) × IsFirstFault slots type_name json path flaw × (flaw_reported fault ≡ Some (join_with_byte 47 path, flaw)))
row_fault_view slots type_name json RowFault.NotObject is = inl (is, refl)
row_fault_view slots type_name json (RowFault.Missing p) (path, first, text) = inr (path, missing, first, ap (λ (l : List ℕ). Some (l, missing)) text)
row_fault_view slots type_name json (RowFault.WrongKind p) (path, first, text) = inr (path, wrong_kind, first, ap (λ (l : List ℕ). Some (l, wrong_kind)) text)
row_fault_view slots type_name json (RowFault.NullNotAllowed p) (path, first, text) = inr (path, null_not_allowed, first, ap (λ (l : List ℕ). Some (l, null_not_allowed)) text)
row_fault_view slots type_name json (RowFault.OutOfRange p) (path, first, text) = inr (path, out_of_range, first, ap (λ (l : List ℕ). Some (l, out_of_range)) text)
row_fault_view slots type_name json (RowFault.BadText p) (path, first, text) = inr (path, bad_text, first, ap (λ (l : List ℕ). Some (l, bad_text)) text)
row_fault_view slots type_name json RowFault.Memory is = absurd is
row_fault_view slots type_name json (RowFault.NotExpanded p) (path, first, text) = inr (path, not_expanded, first, ap (λ (l : List ℕ). Some (l, not_expanded)) text)

not_none : {X : Type 0} (o : Option X) → o ≡ None → IsSome o → ⊥
not_none None is some = absurd cc
not_none (Some x) is some = absurd cc

-- what has a fault at a path is an object
faulty_object : (slots : Slots) (type_name : List ℕ) (json : Data) (path : Path) (flaw : Flaw) → IsFirstFault slots type_name json path flaw → IsSome (as_object json)
faulty_object slots type_name json [] flaw first = absurd first
faulty_object slots type_name json (step ∷ path) flaw first = first.is_object

row_fault_once : OneFirstFault → (slots : Slots) (type_name : List ℕ) (json : Data) (f g : RowFault) → IsRowFault slots type_name json f → IsRowFault slots type_name json g → flaw_reported f ≡ flaw_reported g
row_fault_once law slots type_name json f g p q = elim (row_fault_view slots type_name json f p) [
  | inl (none, reported) ↦ elim (row_fault_view slots type_name json g q) [
    | inl (none', reported') ↦ reported ∙ sym reported'
    | inr (path, flaw, first, reported') ↦ absurd (not_none (as_object json) none (faulty_object slots type_name json path flaw first))
  ]
  | inr (path, flaw, first, reported) ↦ elim (row_fault_view slots type_name json g q) [
    | inl (none', reported') ↦ absurd (not_none (as_object json) none' (faulty_object slots type_name json path flaw first))
    | inr (path', flaw', first', reported') ↦
        let (same_path, same_flaw) = law slots type_name json path path' flaw flaw' first first' in
        reported ∙ ap (λ (p : Path). Some (join_with_byte 47 p, flaw)) same_path ∙ ap (λ (w : Flaw). Some (join_with_byte 47 path', w)) same_flaw ∙ sym reported'
  ]
]

-- ---- the outcome

fault_outcome_once : (f g : EvalFault) (o : Outcome) → fault_outcome f ≡ Some o → fault_outcome g ≡ Some o → f ≡ g
fault_outcome_once EvalFault.Overflow EvalFault.Overflow o p q = refl
fault_outcome_once EvalFault.Overflow EvalFault.DivideByZero o p q = absurd cc
fault_outcome_once EvalFault.Overflow EvalFault.Memory o p q = absurd cc
fault_outcome_once EvalFault.DivideByZero EvalFault.Overflow o p q = absurd cc
fault_outcome_once EvalFault.DivideByZero EvalFault.DivideByZero o p q = refl
fault_outcome_once EvalFault.DivideByZero EvalFault.Memory o p q = absurd cc
fault_outcome_once EvalFault.Memory g o p q = absurd cc

fault_gives_none : (f : EvalFault) (v : Val) → fault_outcome f ≡ Some (gives v) → ⊥
fault_gives_none EvalFault.Overflow v is = absurd cc
fault_gives_none EvalFault.DivideByZero v is = absurd cc
fault_gives_none EvalFault.Memory v is = absurd cc

verdict_once : (v w : Verdict) → gives (verdict_val v) ≡ gives (verdict_val w) → v ≡ w
verdict_once Verdict.True Verdict.True is = refl
verdict_once Verdict.True Verdict.False is = absurd cc
verdict_once Verdict.True Verdict.Null is = absurd cc
verdict_once Verdict.False Verdict.True is = absurd cc
verdict_once Verdict.False Verdict.False is = refl
verdict_once Verdict.False Verdict.Null is = absurd cc
verdict_once Verdict.Null Verdict.True is = absurd cc
verdict_once Verdict.Null Verdict.False is = absurd cc
verdict_once Verdict.Null Verdict.Null is = refl

module _ (one_fits : OneFits) (fits_nothing : FaultFitsNothing) (one_fault : OneFirstFault) (filter : Filter) (now : MomentParts) where
  outcome_once : (json : Data) (o p : Outcome) → HasOutcome filter now json o → HasOutcome filter now json p → o ≡ p
  outcome_once json o p a b =
      let value : b.value ≡ a.value = one_fits (slots_for_filter filter) (type_name_at filter.schema filter.filtered) json b.value a.value b.fits a.fits in
      sym (a.only p (subst (λ (v : Val). FilterMeans filter now v p) value b.related))

  -- what an outcome says of its row
  abbrev Reports : Outcome → Judgment BadRow → Type 0
  Reports o Judgment.Kept = o ≡ gives (boolean true)
  Reports o Judgment.LeftOut = (value : Val) × (value ≢ boolean true) × (o ≡ gives value)
  Reports o (Judgment.Fault BadRow.NotJson) = ⊥
  Reports o (Judgment.Fault (BadRow.NoEntity f)) = ⊥
  Reports o (Judgment.Fault (BadRow.NoValue f)) = fault_outcome f ≡ Some o

  not_true : (o : Outcome) (value : Val) → o ≡ gives (boolean true) → value ≢ boolean true → o ≡ gives value → ⊥
  not_true o value is not_so gave = not_so cc

  reports_once : (o : Outcome) (j k : Judgment BadRow) → Reports o j → Reports o k → AreSameJudgment j k
  reports_once o Judgment.Kept Judgment.Kept p q = tt
  reports_once o Judgment.Kept Judgment.LeftOut p (value, not_so, gave) = absurd (not_true o value p not_so gave)
  reports_once o Judgment.Kept (Judgment.Fault BadRow.NotJson) p q = absurd q
  reports_once o Judgment.Kept (Judgment.Fault (BadRow.NoEntity f)) p q = absurd q
  reports_once o Judgment.Kept (Judgment.Fault (BadRow.NoValue f)) p q = absurd (fault_gives_none f (boolean true) (q ∙ ap (λ (r : Outcome). Some r) p))
  reports_once o Judgment.LeftOut Judgment.Kept (value, not_so, gave) q = absurd (not_true o value q not_so gave)
  reports_once o Judgment.LeftOut Judgment.LeftOut p q = tt
  reports_once o Judgment.LeftOut (Judgment.Fault BadRow.NotJson) p q = absurd q
  reports_once o Judgment.LeftOut (Judgment.Fault (BadRow.NoEntity f)) p q = absurd q
  reports_once o Judgment.LeftOut (Judgment.Fault (BadRow.NoValue f)) (value, not_so, gave) q = absurd (fault_gives_none f value (q ∙ ap (λ (r : Outcome). Some r) gave))
  reports_once o (Judgment.Fault BadRow.NotJson) k p q = absurd p
  reports_once o (Judgment.Fault (BadRow.NoEntity f)) k p q = absurd p
  reports_once o (Judgment.Fault (BadRow.NoValue f)) Judgment.Kept p q = absurd (fault_gives_none f (boolean true) (p ∙ ap (λ (r : Outcome). Some r) q))
  reports_once o (Judgment.Fault (BadRow.NoValue f)) Judgment.LeftOut p (value, not_so, gave) = absurd (fault_gives_none f value (p ∙ ap (λ (r : Outcome). Some r) gave))
  reports_once o (Judgment.Fault (BadRow.NoValue f)) (Judgment.Fault BadRow.NotJson) p q = absurd q
  reports_once o (Judgment.Fault (BadRow.NoValue f)) (Judgment.Fault (BadRow.NoEntity g)) p q = absurd q
  reports_once o (Judgment.Fault (BadRow.NoValue f)) (Judgment.Fault (BadRow.NoValue g)) p q = fault_outcome_once f g o p q

  -- ---- a JSON value

  abbrev IsBad : Data → RowFault → Type 0
  IsBad json f = IsRowFault (slots_for_filter filter) (type_name_at filter.schema filter.filtered) json f

  value_view : (json : Data) (j : Judgment BadRow) → JudgesValue filter now json j
      → ((o : Outcome) × HasOutcome filter now json o × Reports o j) ⊎ ((f : RowFault) × IsBad json f × (j ≡ Judgment.Fault (BadRow.NoEntity f)))
  value_view json Judgment.Kept has = inl (gives (boolean true), has, refl)
  value_view json Judgment.LeftOut (value, (not_so, has)) = inl (gives value, has, (value, not_so, refl))
  value_view json (Judgment.Fault BadRow.NotJson) is = absurd is
  value_view json (Judgment.Fault (BadRow.NoEntity f)) is = inr (f, is, refl)
  value_view json (Judgment.Fault (BadRow.NoValue f)) (o, (is, has)) = inl (o, has, is)

  pub value_once : (json : Data) (j k : Judgment BadRow) → JudgesValue filter now json j → JudgesValue filter now json k → AreSameJudgment j k
  value_once json j k p q = elim (value_view json j p) [
    | inl (o, has, reports) ↦ elim (value_view json k q) [
      | inl (o', has', reports') ↦ reports_once o' j k (subst (λ (r : Outcome). Reports r j) (outcome_once json o o' has has') reports) reports'
      | inr (g, bad', is') ↦ absurd (fits_nothing (slots_for_filter filter) (type_name_at filter.schema filter.filtered) json g bad' has.value has.fits)
    ]
    | inr (f, bad, is) ↦ elim (value_view json k q) [
      | inl (o', has', reports') ↦ absurd (fits_nothing (slots_for_filter filter) (type_name_at filter.schema filter.filtered) json f bad has'.value has'.fits)
      | inr (g, bad', is') ↦
          let reported = row_fault_once one_fault (slots_for_filter filter) (type_name_at filter.schema filter.filtered) json f g bad bad' in
          subst (λ (r : Judgment BadRow). AreSameJudgment r k) (sym is) (subst (λ (r : Judgment BadRow). AreSameJudgment (Judgment.Fault (BadRow.NoEntity f)) r) (sym is') reported)
    ]
  ]

  -- ---- a line

  row_view : (line : List ℕ) (j : Judgment BadRow) → JudgesRow filter now line j → (IsNoJson line × (j ≡ Judgment.Fault BadRow.NotJson)) ⊎ JudgesJson filter now line j
  row_view line Judgment.Kept p = inr p
  row_view line Judgment.LeftOut p = inr p
  row_view line (Judgment.Fault BadRow.NotJson) p = inl (p, refl)
  row_view line (Judgment.Fault (BadRow.NoEntity f)) p = inr p
  row_view line (Judgment.Fault (BadRow.NoValue f)) p = inr p

  json_apart : (line : List ℕ) (json : Data) → IsNoJson line → IsJsonOf line json → ⊥
  json_apart line json none (utf8, is) = let nothing = none utf8 in absurd cc

  pub judged_once : (line : List ℕ) (j k : Judgment BadRow) → JudgesRow filter now line j → JudgesRow filter now line k → AreSameJudgment j k
  judged_once line j k p q = elim (row_view line j p) [
    | inl (none, is) ↦ elim (row_view line k q) [
      | inl (none', is') ↦ subst (λ (r : Judgment BadRow). AreSameJudgment r k) (sym is) (subst (λ (r : Judgment BadRow). AreSameJudgment (Judgment.Fault BadRow.NotJson) r) (sym is') tt)
      | inr b ↦ absurd (json_apart line b.json none b.is_json)
    ]
    | inr a ↦ elim (row_view line k q) [
      | inl (none', is') ↦ absurd (json_apart line a.json none' a.is_json)
      | inr b ↦
          let read_a = a.is_json.1 in
          let read_b = b.is_json.1 in
          let same : b.json ≡ a.json = cc in
          value_once a.json j k a.judged (subst (λ (d : Data). JudgesValue filter now d k) same b.judged)
    ]
  ]

  -- ---- a row by itself

  json_once : (line : List ℕ) (a b : Data) → IsJsonOf line a → IsJsonOf line b → b ≡ a
  json_once line a b (utf8, is) (utf8', is') = cc

  -- a row with a verdict has no fault
  never_bad : (row : List ℕ) (verdict : Verdict) (bad : BadRow) → ReportsRow filter now row (Ok verdict) → JudgesRow filter now row (Judgment.Fault bad) → ⊥
  never_bad row Verdict.True bad reported fault = judged_once row Judgment.Kept (Judgment.Fault bad) (row_judged filter now row (Ok Verdict.True) Judgment.Kept reported refl) fault
  never_bad row Verdict.False bad reported fault = judged_once row Judgment.LeftOut (Judgment.Fault bad) (row_judged filter now row (Ok Verdict.False) Judgment.LeftOut reported refl) fault
  never_bad row Verdict.Null bad reported fault = judged_once row Judgment.LeftOut (Judgment.Fault bad) (row_judged filter now row (Ok Verdict.Null) Judgment.LeftOut reported refl) fault

  memory_where : (bad : BadRow) → ¬ IsFalse (is_memory bad) → IsTrue (is_memory bad)
  memory_where bad never = by (is_memory bad) refl
    where
      by : (b : Bool) → is_memory bad ≡ b → IsTrue b
      by true known = refl
      by false known = absurd (never known)

  pub reported_once : (row : List ℕ) (a b : Result Verdict BadRow) → ReportsRow filter now row a → ReportsRow filter now row b → AreSameAnswer a b
  reported_once row (Ok v) (Ok w) p q =
      let same : q.json ≡ p.json = json_once row p.json q.json p.is_json q.is_json in
      let there : HasOutcome filter now p.json (gives (verdict_val w)) = subst (λ (d : Data). HasOutcome filter now d (gives (verdict_val w))) same q.outcome in
      verdict_once v w (outcome_once p.json (gives (verdict_val v)) (gives (verdict_val w)) p.outcome there)
  reported_once row (Ok v) (Err g) p q = memory_where g (λ known. never_bad row v g p (q known))
  reported_once row (Err f) (Ok w) p q = memory_where f (λ known. never_bad row w f q (p known))
  reported_once row (Err f) (Err g) p q = λ of_f of_g. judged_once row (Judgment.Fault f) (Judgment.Fault g) (p of_f) (q of_g)
