-- Comparisons of values that may be null.
use Rattle.sql_outcomes.proofs.Common.{◌≡◌, ◌≢◌, inl, inr, Bool, true, false, not, Option, Some, None, IsTrue, refl, sym, ap, subst, ◌∙◌, Val, null, boolean, CompareGives, Outcome, gives, AreEqual, ComparesTrue, and3, or3, ComparisonOperator, GivesIsNull, StrictlyGives, is_true, truth}
use Rattle.sql_outcomes.proofs.outcomes.Apart.{null_or_not}
use Rattle.sql_outcomes.proofs.outcomes.Comparisons.{OneIsNull, Reports, some_null, strict_beside_null, strict_of_values, reports, untrue_beside_null}

pub is_null_given : (v : Val) → v ≡ null → GivesIsNull v (gives (boolean true))
is_null_given v is = subst (λ (w : Val). GivesIsNull w (gives (boolean true))) (sym is) refl

pub not_null_given : (v : Val) → v ≢ null → GivesIsNull v (gives (boolean false))
not_null_given null other = absurd (other refl)
not_null_given v other = refl

-- ---- unequal is not equal

turned : (b n : Bool) (Fact : Type 0) → (IsTrue b → Fact) → (Fact → IsTrue b) → (IsTrue n → Fact → ⊥) → ((Fact → ⊥) → IsTrue n) → n ≡ not b
turned true true Fact holds given apart other = absurd (apart refl (holds refl))
turned true false Fact holds given apart other = refl
turned false true Fact holds given apart other = refl
turned false false Fact holds given apart other = absurd (cc (other (λ fact. cc (given fact))))

pub record Equality (l r : Val) (o : Outcome) : Type 0 where
  pub answer : Bool
  pub given : CompareGives ComparisonOperator.Eq l r (gives (boolean answer))
  pub is : o ≡ gives (boolean (not answer))

pub equality_of : ((v w : Val) → (answer : Bool) × (IsTrue answer → AreEqual v w) × (AreEqual v w → IsTrue answer)) → (l r : Val) (o : Outcome)
    → CompareGives ComparisonOperator.Ne l r o → Equality l r o
equality_of decided l r o given =
    let d = decided l r in
    let reported = reports (ComparesTrue ComparisonOperator.Ne l r) o given.1 in
    record {
      answer = d.0;
      given = (given.0, (d.1, d.2));
      is = reported.is ∙ ap (λ (b : Bool). gives (boolean b)) (turned d.0 reported.answer (AreEqual l r) d.1 d.2 reported.only_if reported.if_so);
    }

-- ---- a comparison that is true of two nulls

abbrev pub true_of : Option Bool → Bool
true_of (Some b) = b
true_of None = false

pub reported_true : (Fact : Type 0) (o : Outcome) → Reports Fact o → Fact → o ≡ gives (boolean true)
reported_true Fact o reported fact = reported.is ∙ ap (λ (b : Bool). gives (boolean b)) (reported.if_so fact)

pub is_true_of : (s : Option Bool) → is_true s ≡ gives (boolean (true_of s))
is_true_of (Some b) = refl
is_true_of None = refl

or_false : (b : Bool) → truth (or3 (Some b) (Some false)) ≡ gives (boolean b)
or_false true = refl
or_false false = refl

-- the comparison of SQL, whether each side is null, and what the filter evaluates to
pub record OrNulls (operator : ComparisonOperator) (l r : Val) (o : Outcome) : Type 0 where
  pub strict : Option Bool
  pub left_null : Bool
  pub right_null : Bool
  pub strict_given : StrictlyGives operator l r (truth strict)
  pub left_given : GivesIsNull l (gives (boolean left_null))
  pub right_given : GivesIsNull r (gives (boolean right_null))
  pub is : o ≡ truth (or3 (Some (true_of strict)) (and3 (Some left_null) (Some right_null)))

both_null : (operator : ComparisonOperator) (l r : Val) (o : Outcome) → ComparesTrue operator null null → l ≡ null → r ≡ null → CompareGives operator l r o → OrNulls operator l r o
both_null operator l r o of_nulls here there given =
    let fact : ComparesTrue operator l r = subst (λ (v : Val). ComparesTrue operator v r) (sym here) (subst (λ (v : Val). ComparesTrue operator null v) (sym there) of_nulls) in
    record {
      strict = None;
      left_null = true;
      right_null = true;
      strict_given = subst (λ (v : Val). StrictlyGives operator v r (gives null)) (sym here) refl;
      left_given = is_null_given l here;
      right_given = is_null_given r there;
      is = reported_true (ComparesTrue operator l r) o (reports (ComparesTrue operator l r) o given.1) fact;
    }

one_null : (operator : ComparisonOperator) (l r : Val) (o : Outcome) (p q : Bool) → operator ≢ ComparisonOperator.Ne → OneIsNull l r → and3 (Some p) (Some q) ≡ Some false
    → GivesIsNull l (gives (boolean p)) → GivesIsNull r (gives (boolean q)) → CompareGives operator l r o → OrNulls operator l r o
one_null operator l r o p q other one none left right given =
    let untrue = untrue_beside_null operator l r other one in
    let s = strict_beside_null operator l r o (some_null l r one) untrue given in
    record {
      strict = s.strict;
      left_null = p;
      right_null = q;
      strict_given = s.gives_strict;
      left_given = left;
      right_given = right;
      is = sym s.is_same ∙ is_true_of s.strict ∙ sym (or_false (true_of s.strict)) ∙ ap (λ (t : Option Bool). truth (or3 (Some (true_of s.strict)) t)) (sym none);
    }

pub or_nulls : (operator : ComparisonOperator) (l r : Val) (o : Outcome) → operator ≢ ComparisonOperator.Ne → ComparesTrue operator null null → CompareGives operator l r o → OrNulls operator l r o
or_nulls operator l r o other of_nulls given =
    elim (null_or_not l) [
      | inl here ↦ elim (null_or_not r) [
        | inl there ↦ both_null operator l r o of_nulls here there given
        | inr apart ↦ one_null operator l r o true false other (inl (here, apart)) refl (is_null_given l here) (not_null_given r apart) given
      ]
      | inr away ↦ elim (null_or_not r) [
        | inl there ↦ one_null operator l r o false true other (inr (away, there)) refl (not_null_given l away) (is_null_given r there) given
        | inr apart ↦ (
            let s = strict_of_values operator l r o away apart given in
            record {
              strict = s.strict;
              left_null = false;
              right_null = false;
              strict_given = s.gives_strict;
              left_given = not_null_given l away;
              right_given = not_null_given r apart;
              is = sym s.is_same ∙ is_true_of s.strict ∙ sym (or_false (true_of s.strict));
            })
      ]
    ]
