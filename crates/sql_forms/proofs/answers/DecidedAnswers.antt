-- A chain whose front evaluates to no fault.
use Rattle.sql_forms.proofs.Common.{◌≡◌, ◌<◌, ◌≤◌, ◌++◌, ◌∙◌, ℕ, List, Some, drop, length, length-take-le, take, sym, ap, subst, arith, slice_get, AllByRecursion, Range, Form, IsOfBoth, IsFaultless}
use Rattle.sql_forms.specs.private.AskedForms.{IsAskedCode}
use Rattle.sql_forms.proofs.answers.HalfAnswers.{both_parts}
use Rattle.sql_forms.proofs.answers.ChainAnswers.{Parts}
use Rattle.sql_forms.proofs.puts.DecidedPut.{all_by_index, without_front, without_rest}
use Rattle.odata_checked_filter.proofs.flat.Places.{get_front}

pub asked_not_both : (form : Form) → IsAskedCode form → IsOfBoth form → ⊥
asked_not_both Form.Truth asked both = asked
asked_not_both form asked both = both

module _ (terms front rest : List ℕ) (mid : ℕ) (front_is : front ≡ take mid terms) (rest_is : rest ≡ drop mid terms) where
  parts_are : terms ≡ front ++ rest
  parts_are = both_parts terms front rest mid front_is rest_is

  -- all terms stand in the front, or in the rest
  pub only_front : length rest ≡ 0 → terms ≡ front
  only_front none = without_rest front rest terms parts_are none

  pub only_rest : length front ≡ 0 → terms ≡ rest
  only_rest none = without_front front rest terms parts_are none

  pub two_parts : 0 < length front → 0 < length rest → Parts terms front rest
  two_parts some more = record {
    is = parts_are;
    some = some;
    more = more;
  }

  -- those that evaluate to no fault
  pub front_faultless : mid ≤ length terms → (ranges : List Range) → ((k term : ℕ) → k < mid → slice_get terms k ≡ Some term → IsFaultless ranges term) → AllByRecursion (IsFaultless ranges) front
  front_faultless within ranges each =
      all_by_index (IsFaultless ranges) front (λ k term below at.
      let many : length front ≡ mid = ap length front_is ∙ length-take-le mid terms (omega (arith, within)) in
      each k term (omega (arith, below, many)) (subst (λ (xs : List ℕ). slice_get xs k ≡ Some term) (sym parts_are) (get_front front rest k term at)))
