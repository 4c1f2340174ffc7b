-- What is reported about a row within a bound, as what is said of it as a line.
use Rattle.std.proofs.Common.{◌≡◌, ℕ, List, Option, Some, None, Result, Ok, Err, refl, subst}
use Rattle.std.specs.Prelude.{IsFalse}
use Rattle.edm_values.specs.MomentParts.{MomentParts}
use Rattle.line_filter.specs.declared.judge.Judgment.{Judgment}
use Rattle.odata_checked_filter.specs.Filter.{Filter}
use Rattle.odata_eval.specs.declared.verdict.Verdict.{Verdict}
use Rattle.row_judges.specs.RowAnswer.{is_memory}
use Rattle.row_judges.specs.RowCosts.{JudgesRowWithin, ReportsRowWithin}
use Rattle.row_judges.specs.declared.bad_row.BadRow.{BadRow}
use Rattle.row_judges.specs.declared.bounded_line_judge.BoundedFault.{BoundedFault}
use Rattle.row_judges.proofs.RowLemmas.RowJudges.{row_judged}

module _ (filter : Filter) (now : MomentParts) (line : List ℕ) (most : ℕ) (answer : Result (Option Verdict) BadRow) (reported : ReportsRowWithin filter now line most answer) where
  pub kept_within : answer ≡ Ok (Some Verdict.True) → JudgesRowWithin filter now most line Judgment.Kept
  kept_within is =
      let known : ReportsRowWithin filter now line most (Ok (Some Verdict.True)) = subst (ReportsRowWithin filter now line most) is reported in
      (row_judged filter now line (Ok Verdict.True) Judgment.Kept known.0 refl, known.1)

  pub false_within : answer ≡ Ok (Some Verdict.False) → JudgesRowWithin filter now most line Judgment.LeftOut
  false_within is =
      let known : ReportsRowWithin filter now line most (Ok (Some Verdict.False)) = subst (ReportsRowWithin filter now line most) is reported in
      (row_judged filter now line (Ok Verdict.False) Judgment.LeftOut known.0 refl, known.1)

  pub null_within : answer ≡ Ok (Some Verdict.Null) → JudgesRowWithin filter now most line Judgment.LeftOut
  null_within is =
      let known : ReportsRowWithin filter now line most (Ok (Some Verdict.Null)) = subst (ReportsRowWithin filter now line most) is reported in
      (row_judged filter now line (Ok Verdict.Null) Judgment.LeftOut known.0 refl, known.1)

  pub costly_within : answer ≡ Ok None → JudgesRowWithin filter now most line (Judgment.Fault BoundedFault.TooCostly)
  costly_within is = subst (ReportsRowWithin filter now line most) is reported

  at_fault : (bad : BadRow) → IsFalse (is_memory bad) → ReportsRowWithin filter now line most (Err bad) → JudgesRowWithin filter now most line (Judgment.Fault (BoundedFault.Row bad))
  at_fault BadRow.NotJson known said = said known
  at_fault (BadRow.NoEntity fault) known said = said known
  at_fault (BadRow.NoValue fault) known said = said known

  pub fault_within : (bad : BadRow) → answer ≡ Err bad → IsFalse (is_memory bad) → JudgesRowWithin filter now most line (Judgment.Fault (BoundedFault.Row bad))
  fault_within bad is known = at_fault bad known (subst (ReportsRowWithin filter now line most) is reported)

-- what a judge of lines says by its filter, its moment and its bound
pub by_judge : (P : Filter → MomentParts → ℕ → Type 0) (f g : Filter) (m n : MomentParts) (k l : ℕ) → f ≡ g → m ≡ n → k ≡ l → P f m k → P g n l
by_judge P f g m n k l same_filter same_moment same_bound holds =
    subst (λ (b : ℕ). P g n b) same_bound (subst (λ (t : MomentParts). P g t k) same_moment (subst (λ (h : Filter). P h m k) same_filter holds))
