-- What `put_equal_to_one`, `put_equal_codes` and `put_over_left` return of one item, and of a left side that is bound.
use Rattle.sql_forms.proofs.Common.{◌≡◌, ◌∷◌, [], List, Bool, Some, Result, OnOk, length, sym, subst, slice_get, ComparisonOperator, Outcome, Draft, Operand, Lifted, ComparisonHas, Grows, AllHave, IsLifted, IsOpened, AsCode, EqualCodesOrNull, EqualsHas, FaultyOrNull, kept_form, Puts, PutsAll, Question, on_both, where_ok}
use Rattle.sql_forms.specs.Forms.{IsInForm}
use Rattle.sql_outcomes.specs.private.ValueForms.{OrTruth}
use Rattle.sql_forms.proofs.puts.EqualCodesPut.{one_code_put}
use Rattle.sql_forms.proofs.puts.EqualPut.{one_equal, over_left_put}
use Rattle.sql_forms.proofs.lets.LiftedPut.{closed}
use Rattle.sql_outcomes.proofs.outcomes.Elements.{only_one}

module _ (question : Question) (left : Operand) (items : List Operand) (item : Operand) (one : length items ≡ 1) (at : slice_get items 0 ≡ Some item) {T E : Type 0} (r : Result T E) (old new : Draft) where
  pub ok_one_equal : (kept own : Bool) → kept ≡ own → OnOk r (Puts question old new (ComparisonHas question.filter ComparisonOperator.Eq left item) (OrTruth (IsInForm (kept_form own))))
      → OnOk r (Puts question old new (EqualsHas question.filter left items) (IsInForm (kept_form kept)))
  ok_one_equal kept own is put =
      subst (λ (k : Bool). OnOk r (Puts question old new (EqualsHas question.filter left items) (IsInForm (kept_form k)))) (sym is)
      (subst (λ (xs : List Operand). OnOk r (Puts question old new (EqualsHas question.filter left xs) (IsInForm (kept_form own)))) (sym (only_one items item one at))
      (where_ok (one_equal question left item (IsInForm (kept_form own)) old new) r put))

  pub ok_one_code : OnOk r (Puts question old new (FaultyOrNull question.filter ComparisonOperator.Eq left item) AsCode) → OnOk r (Puts question old new (EqualCodesOrNull question.filter left items) AsCode)
  ok_one_code put =
      subst (λ (xs : List Operand). OnOk r (Puts question old new (EqualCodesOrNull question.filter left xs) AsCode)) (sym (only_one items item one at))
      (where_ok (one_code_put question left item old new) r put)

-- over a left side that evaluates to no fault
module _ (question : Question) (left first : Operand) (items : List Operand) (lifted : Lifted) (old : Draft) (is_lifted : IsLifted (left ∷ []) old.depth lifted)
    (at_first : slice_get lifted.inner.items 0 ≡ Some first) (Shown : Outcome → Outcome → Type 0) (opened body new : Draft) (is_opened : IsOpened lifted old opened) {T E : Type 0} (r : Result T E) where
  pub ok_over_left : Puts question opened body (EqualsHas question.filter first items) Shown → OnOk r (PutsAll question (closed body (length lifted.bound.items)) new (AllHave question.filter lifted.bound.items) (length lifted.bound.items))
      → OnOk r (lifted.bound.items ≡ [] → Grows (closed body (length lifted.bound.items)) new []) → OnOk r (Puts question old new (EqualsHas question.filter left items) Shown)
  ok_over_left put values idle =
      on_both r (PutsAll question (closed body (length lifted.bound.items)) new (AllHave question.filter lifted.bound.items) (length lifted.bound.items)) (lifted.bound.items ≡ [] → Grows (closed body (length lifted.bound.items)) new [])
      (Puts question old new (EqualsHas question.filter left items) Shown)
      (λ v i. over_left_put question left first items lifted old is_lifted at_first Shown opened body new is_opened v i put) values idle
