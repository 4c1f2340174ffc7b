-- Where the comparison of SQL, or its opposite, reports what that of the filter evaluates to.
use Rattle.sql_forms.proofs.Common.{◌≡◌, ◌≢◌, ◌⊎◌, inl, inr, ◌∷◌, [], Result, OnOk, Bool, true, false, not, None, Some, refl, ◌∙◌, Val, boolean, null, Outcome, gives, ComparesTrue, not3, ComparisonOperator, truth, SqlNode, Draft, Operand, Form, AreOpposite, ComparisonHas, IsEnough, IsGiven, StrictHas, GrowsBy, Fits, Puts, Question, World, by_node, puts_as, where_ok}
use Rattle.sql_forms.specs.Forms.{IsInForm}
use Rattle.sql_outcomes.specs.private.ValueForms.{Itself, OrTruth}
use Rattle.sql_outcomes.proofs.outcomes.ComparedValues.{IsOrder, denied_where, given_value, one_given_reports, order_reports}
use Rattle.sql_forms.proofs.answers.ComparisonAnswers.{EqualityDecided, ok_unequal}
use Rattle.sql_outcomes.proofs.outcomes.Comparisons.{strict_of_values, strictly_given, reports}
use Rattle.sql_forms.proofs.puts.ComparisonsPut.{Reported, is_true_put, null_strict}
use Rattle.sql_forms.proofs.puts.OperandsPut.{fault_form, given_form, loosely}
use Rattle.sql_outcomes.proofs.outcomes.OppositeComparisons.{opposite_answer}

not_given : (b : Bool) → gives (boolean (not b)) ≡ truth (not3 (Some b))
not_given true = refl
not_given false = refl

module _ (question : Question) (left right : Operand) where
  pub reported_order : (operator : ComparisonOperator) → IsOrder operator → Reported question left right operator
  reported_order operator order = λ l r o fits_l fits_r given. order_reports operator l r o order given

  one_given : IsGiven left ⊎ IsGiven right → (l r : Val) → Fits left l → Fits right r → (l ≢ null) ⊎ (r ≢ null)
  one_given (inl is) l r fits_l fits_r = inl (given_value left l is fits_l)
  one_given (inr is) l r fits_l fits_r = inr (given_value right r is fits_r)

  pub reported_one : (operator : ComparisonOperator) → operator ≢ ComparisonOperator.Ne → IsGiven left ⊎ IsGiven right → Reported question left right operator
  reported_one operator other one = λ l r o fits_l fits_r given. one_given_reports operator l r o other (one_given one l r fits_l fits_r) given

  reported_both : (operator : ComparisonOperator) → IsGiven left → IsGiven right → Reported question left right operator
  reported_both operator here there = λ l r o fits_l fits_r given. strict_of_values operator l r o (given_value left l here fits_l) (given_value right r there fits_r) given

  pub reported_enough : (operator : ComparisonOperator) → IsEnough operator left.range.may_be_null right.range.may_be_null → Reported question left right operator
  reported_enough ComparisonOperator.Gt is = reported_order ComparisonOperator.Gt tt
  reported_enough ComparisonOperator.Lt is = reported_order ComparisonOperator.Lt tt
  reported_enough ComparisonOperator.Ne is = reported_both ComparisonOperator.Ne is.0 is.1
  reported_enough ComparisonOperator.Eq is = reported_one ComparisonOperator.Eq (λ same. absurd (cc)) is
  reported_enough ComparisonOperator.Ge is = reported_one ComparisonOperator.Ge (λ same. absurd (cc)) is
  reported_enough ComparisonOperator.Le is = reported_one ComparisonOperator.Le (λ same. absurd (cc)) is

  -- `ne` by whether `eq` is true
  pub ok_not_equal : {T E : Type 0} (operator : ComparisonOperator) (old first second new : Draft) (r : Result T E) → operator ≡ ComparisonOperator.Ne → EqualityDecided → IsGiven left ⊎ IsGiven right
      → GrowsBy old first (SqlNode.Not ∷ []) [] [] → GrowsBy first second (SqlNode.IsTrue ∷ []) [] []
      → OnOk r (Puts question second new (StrictHas question.filter ComparisonOperator.Eq left right) Itself) → OnOk r (Puts question old new (ComparisonHas question.filter operator left right) (OrTruth Itself))
  ok_not_equal operator old first second new r is decided one not_node is_true_node put =
      ok_unequal question left right operator old first new r is decided not_node
      (where_ok (is_true_put question left right first second new ComparisonOperator.Eq (reported_one ComparisonOperator.Eq (λ same. absurd (cc)) one) (by_node first second SqlNode.IsTrue refl is_true_node)) r put)

  -- ---- the opposite

  module _ (operator other : ComparisonOperator) (opposite : AreOpposite operator other) (left_given : IsGiven left) (right_given : IsGiven right) where
    -- what the opposite evaluates to, and what that reports
    record Denied (world : World) (o : Outcome) : Type 0 where
      answer : Outcome
      has : StrictHas question.filter other left right world answer
      reports_it : (x : Outcome) → x ≡ answer → OrTruth (IsInForm Form.Denies) o x

    denied : (world : World) (o : Outcome) → ComparisonHas question.filter operator left right world o → Denied world o
    denied world o (inl given) =
        let here = given_value left given.0 left_given given.2.fits in
        let there = given_value right given.1 right_given given.3.fits in
        let t = reports (ComparesTrue operator given.0 given.1) o given.4.1 in
        let turned = opposite_answer operator other opposite given.0 given.1 o here there given.4 in
        record {
          answer = gives (boolean (not t.answer));
          has = (given.0, given.1, loosely given.2, loosely given.3, strictly_given other given.0 given.1 (gives (boolean (not t.answer))) here there turned);
          reports_it = λ x same. given_form (IsInForm Form.Denies) o (boolean t.answer) x t.is (denied_where t.answer o x t.is (same ∙ not_given t.answer));
        }
    denied world o (inr fault) = record {
      answer = gives null;
      has = (fault.1.0, fault.1.1, fault.1.2, fault.1.3, null_strict other fault.1.0 fault.1.1 fault.1.4);
      reports_it = λ x same. fault_form (IsInForm Form.Denies) o None x fault.0 same;
    }

    pub ok_opposite : {T E : Type 0} (old new : Draft) (r : Result T E) → OnOk r (Puts question old new (StrictHas question.filter other left right) Itself)
        → OnOk r (Puts question old new (ComparisonHas question.filter operator left right) (OrTruth (IsInForm Form.Denies)))
    ok_opposite old new r put =
        where_ok (λ (p : Puts question old new (StrictHas question.filter other left right) Itself). puts_as question old new (StrictHas question.filter other left right) (ComparisonHas question.filter operator left right) Itself (OrTruth (IsInForm Form.Denies)) p
        (λ world o is has. let d = denied world o has in (d.answer, d.has, λ x same. d.reports_it x same))) r put
