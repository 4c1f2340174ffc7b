-- Arithmetic that may leave its type or divide by 0: what each part of its SQL evaluates to.
use Rattle.sql_outcomes.proofs.Common.{◌≡◌, ◌≢◌, ◌⊎◌, inl, inr, zero, suc, ℤ, pos, negsuc, Bool, true, false, Option, Some, None, is_some, Result, Ok, Err, IsTrue, refl, sym, ap, subst, ◌∙◌, arith, FitsSigned, ◌+ℤ◌, ◌-ℤ◌, ◌*ℤ◌, w64, IsNumberOf, null, whole, PrimitiveType, ComputesTo, number_outcome, number_val, Outcome, gives, overflow, divides_by_zero, ArithmeticGives, IsDividing, MakesNumber, and3, not3, ArithFault, Overflow, DivideByZero, ArithmeticOperator, ComparisonOperator, BothNumbers, ChoiceGives, GivesInRange, GivesWhole, StrictlyGives, truth}
use Rattle.sql_outcomes.proofs.outcomes.Apart.{no_number}
use Rattle.odata_functions.specs.Division.{IsDivision}
use Rattle.sql_meaning.proofs.OneStep.{MakesNumber-one, OneDivision}

-- what is known of division
pub record Divides : Type 0 where
  pub there : (a b : ℤ) → b ≢ pos 0 → (q : ℤ) × (r : ℤ) × IsDivision a b q r
  pub by_zero : (a q r : ℤ) → IsDivision a (pos 0) q r → ⊥
  pub one : OneDivision

-- whether the divisor is 0; the divisor, null instead of 0; the number without bounds; whether it lies within the type;
-- and what comes of it there
pub record Parts (operator : ArithmeticOperator) (type : PrimitiveType) (m k : Option ℤ) (o : Outcome) : Type 0 where
  pub is_zero : Option Bool
  pub divisor : Option ℤ
  pub wide : Option ℤ
  pub inside : Option Bool
  pub inner : Outcome
  pub zero_given : StrictlyGives ComparisonOperator.Eq (number_val k) (whole (pos 0)) (truth is_zero)
  pub divisor_given : ChoiceGives is_zero (gives null) (gives (number_val k)) (gives (number_val divisor))
  pub wide_given : BothNumbers m divisor (GivesWhole operator) (gives (number_val wide))
  pub inside_given : GivesInRange type wide (truth inside)
  pub inner_given : ChoiceGives (not3 inside) overflow (gives (number_val wide)) inner
  pub outer_given : ChoiceGives (and3 is_zero (Some (is_some m))) divides_by_zero inner o

no_truth : IsTrue false → ⊥
no_truth is_so = cc

decided_zero : (y : ℤ) → (y ≡ pos 0) ⊎ (y ≢ pos 0)
decided_zero (pos zero) = inl refl
decided_zero (pos (suc n)) = inr (λ is. let e : suc n ≡ zero = cc is in omega (arith, e))
decided_zero (negsuc n) = inr (λ is. cc)

-- the operator makes a number of two, unless it divides by 0
made_free : Divides → (operator : ArithmeticOperator) (a b : ℤ) → (IsDividing operator → b ≡ pos 0 → ⊥) → (n : ℤ) × MakesNumber operator a b n
made_free known ArithmeticOperator.Add a b never = (a +ℤ b, refl)
made_free known ArithmeticOperator.Sub a b never = (a -ℤ b, refl)
made_free known ArithmeticOperator.Mul a b never = (a *ℤ b, refl)
made_free known ArithmeticOperator.Div a b never = let d = known.there a b (never tt) in (d.0, (d.1, d.2))
made_free known ArithmeticOperator.Mod a b never = let d = known.there a b (never tt) in (d.1, (d.0, d.2))

none_by_zero : Divides → (operator : ArithmeticOperator) (a b n : ℤ) → IsDividing operator → b ≡ pos 0 → MakesNumber operator a b n → ⊥
none_by_zero known ArithmeticOperator.Div a b n divides is given = known.by_zero a n given.0 (subst (λ (z : ℤ). IsDivision a z n given.0) is given.1)
none_by_zero known ArithmeticOperator.Mod a b n divides is given = known.by_zero a given.0 n (subst (λ (z : ℤ). IsDivision a z given.0 n) is given.1)
none_by_zero known _ a b n divides is given = divides

-- whether a number lies within the type, and what comes of it
pub record Bounded (type : PrimitiveType) (n : ℤ) (o : Outcome) : Type 0 where
  pub inside : Bool
  pub reports : (IsTrue inside → IsNumberOf type n) × (IsNumberOf type n → IsTrue inside)
  pub result : ChoiceGives (not3 (Some inside)) overflow (gives (whole n)) o

module _ (known : Divides) (operator : ArithmeticOperator) (type : PrimitiveType) where
  -- by 0
  by_zero_given : (x y : ℤ) (answer : Result (Option ℤ) ArithFault) → IsDividing operator → y ≡ pos 0 → ArithmeticGives operator type (Some x) (Some y) answer
      → number_outcome answer ≡ divides_by_zero
  by_zero_given x y (Err DivideByZero) divides is given = refl
  by_zero_given x y _ divides is given = absurd (none_by_zero known operator x y given.0 divides is given.1)

  -- by another number, or without division
  bounded_free : (x y n : ℤ) (answer : Result (Option ℤ) ArithFault) → (IsDividing operator → y ≡ pos 0 → ⊥) → MakesNumber operator x y n → ArithmeticGives operator type (Some x) (Some y) answer
      → Bounded type n (number_outcome answer)
  bounded_free x y n (Ok (Some m)) never is given =
      let same : given.0 ≡ n = MakesNumber-one known.one operator x y given.0 n given.1 is in
      let value : m ≡ given.0 = cc given.2.0 in
      record {
        inside = true;
        reports = (λ is_so. subst (IsNumberOf type) same given.2.1, λ within. refl);
        result = ap (λ (z : ℤ). gives (whole z)) (value ∙ same);
      }
  bounded_free x y n (Ok None) never is given = let none : None ≡ Some given.0 = given.2.0 in absurd (no_number given.0 none)
  bounded_free x y n (Err Overflow) never is given =
      let same : given.0 ≡ n = MakesNumber-one known.one operator x y given.0 n given.1 is in
      record {
        inside = false;
        reports = (λ is_so. absurd (no_truth is_so), λ within. absurd (given.2.1 (subst (IsNumberOf type) (sym same) within)));
        result = refl;
      }
  bounded_free x y n (Err DivideByZero) never is given = absurd (never given.0 given.1)

  -- nothing is computed
  unmade : (m k : Option ℤ) (o : Outcome) (is_zero : Option Bool) (divisor : Option ℤ) → StrictlyGives ComparisonOperator.Eq (number_val k) (whole (pos 0)) (truth is_zero)
      → ChoiceGives is_zero (gives null) (gives (number_val k)) (gives (number_val divisor)) → BothNumbers m divisor (GivesWhole operator) (gives null)
      → ChoiceGives (and3 is_zero (Some (is_some m))) divides_by_zero (gives null) o → Parts operator type m k o
  unmade m k o is_zero divisor zero_given divisor_given wide_given outer_given = record {
    is_zero = is_zero;
    divisor = divisor;
    wide = None;
    inside = None;
    inner = gives null;
    zero_given = zero_given;
    divisor_given = divisor_given;
    wide_given = wide_given;
    inside_given = refl;
    inner_given = refl;
    outer_given = outer_given;
  }

  pub parts : (m k : Option ℤ) (o : Outcome) → IsDividing operator → (m_fits : (x : ℤ) → m ≡ Some x → FitsSigned w64 x) → (k_fits : (y : ℤ) → k ≡ Some y → FitsSigned w64 y)
      → ComputesTo operator type m k o → Parts operator type m k o
  parts None (Some y) o divides m_fits k_fits given =
      elim (decided_zero y) [
        | inl is ↦ unmade None (Some y) o (Some true) None (tt, (λ is_so. is, λ same. refl)) refl refl (given.2 ∙ ap number_outcome given.1)
        | inr other ↦
            unmade None (Some y) o (Some false) (Some y) (tt, (λ is_so. absurd (no_truth is_so), λ same. absurd (other same))) refl refl (given.2 ∙ ap number_outcome given.1)
      ]
  parts (Some x) (Some y) o divides m_fits k_fits given =
      elim (decided_zero y) [
        | inl is ↦ unmade (Some x) (Some y) o (Some true) None (tt, (λ is_so. is, λ same. refl)) refl refl (given.2 ∙ by_zero_given x y given.0 divides is given.1)
        | inr other ↦ (
            let number = made_free known operator x y (λ divides. other) in
            let b = bounded_free x y number.0 given.0 (λ divides. other) number.1 given.1 in
            record {
              is_zero = Some false;
              divisor = Some y;
              wide = Some number.0;
              inside = Some b.inside;
              inner = number_outcome given.0;
              zero_given = (tt, (λ is_so. absurd (no_truth is_so), λ same. absurd (other same)));
              divisor_given = refl;
              wide_given = (m_fits x refl, k_fits y refl, number.0, number.1, refl);
              inside_given = b.reports;
              inner_given = b.result;
              outer_given = given.2;
            })
      ]
  parts m k o divides m_fits k_fits given = unmade m k o None None refl refl refl (given.2 ∙ ap number_outcome given.1)

  -- ---- where no divisor is 0

  -- the number without bounds; whether it lies within the type; and what comes of it
  pub record Free (m k : Option ℤ) (o : Outcome) : Type 0 where
    pub wide : Option ℤ
    pub inside : Option Bool
    pub wide_given : BothNumbers m k (GivesWhole operator) (gives (number_val wide))
    pub inside_given : GivesInRange type wide (truth inside)
    pub inner_given : ChoiceGives (not3 inside) overflow (gives (number_val wide)) o

  pub parts_free : (m k : Option ℤ) (o : Outcome) → ((y : ℤ) → k ≡ Some y → IsDividing operator → y ≡ pos 0 → ⊥) → (m_fits : (x : ℤ) → m ≡ Some x → FitsSigned w64 x)
      → (k_fits : (y : ℤ) → k ≡ Some y → FitsSigned w64 y) → ComputesTo operator type m k o → Free m k o
  parts_free None k o never m_fits k_fits given =
      record { wide = None; inside = None; wide_given = refl; inside_given = refl; inner_given = given.2 ∙ ap number_outcome given.1 }
  parts_free (Some x) None o never m_fits k_fits given =
      record { wide = None; inside = None; wide_given = refl; inside_given = refl; inner_given = given.2 ∙ ap number_outcome given.1 }
  parts_free (Some x) (Some y) o never m_fits k_fits given =
      let number = made_free known operator x y (never y refl) in
      let b = bounded_free x y number.0 given.0 (never y refl) number.1 given.1 in
      record {
        wide = Some number.0;
        inside = Some b.inside;
        wide_given = (m_fits x refl, k_fits y refl, number.0, number.1, refl);
        inside_given = b.reports;
        inner_given = subst (λ (p : Outcome). ChoiceGives (not3 (Some b.inside)) overflow (gives (whole number.0)) p) (sym given.2) b.result;
      }
