-- Comparisons of SQL beside those of the filter.
use Rattle.sql_outcomes.proofs.Common.{◌≡◌, ◌≢◌, ◌⊎◌, inl, inr, Bool, true, false, Option, Some, None, IsTrue, refl, sym, ap, subst, ◌∙◌, Val, null, boolean, CompareGives, GivesTruth, Outcome, gives, AreEqual, ComparesTrue, IsGreater, ComparisonOperator, StrictlyGives, is_true, truth}

-- ---- comparisons

-- a truth value that says whether a fact holds
pub record Reports (Fact : Type 0) (o : Outcome) : Type 0 where
  pub answer : Bool
  pub is : o ≡ gives (boolean answer)
  pub only_if : IsTrue answer → Fact
  pub if_so : Fact → IsTrue answer

pub reports : (Fact : Type 0) (o : Outcome) → GivesTruth Fact o → Reports Fact o
reports Fact (gives (boolean b)) given = record { answer = b; is = refl; only_if = given.0; if_so = given.1 }
reports Fact _ given = absurd given

-- what a comparison evaluates to is a truth value
pub compared_truth : (operator : ComparisonOperator) (l r : Val) (o : Outcome) → CompareGives operator l r o → (b : Bool) × (o ≡ gives (boolean b))
compared_truth operator l r o given = let t = reports (ComparesTrue operator l r) o given.1 in (t.answer, t.is)

not_so : (Fact : Type 0) (b : Bool) → (Fact → ⊥) → (IsTrue b → Fact) → b ≡ false
not_so Fact true none holds = absurd (none (holds refl))
not_so Fact false none holds = refl

-- a fact that does not hold is reported as false
pub reported_false : (Fact : Type 0) (o : Outcome) → Reports Fact o → (Fact → ⊥) → o ≡ gives (boolean false)
reported_false Fact o reported none = reported.is ∙ ap (λ (b : Bool). gives (boolean b)) (not_so Fact reported.answer none reported.only_if)

-- ---- values that are not null

pub strictly_given : (operator : ComparisonOperator) (l r : Val) (o : Outcome) → l ≢ null → r ≢ null → CompareGives operator l r o → StrictlyGives operator l r o
strictly_given operator null r o here there given = absurd (here refl)
strictly_given operator l null o here there given = absurd (there refl)
strictly_given operator l r o here there given = given

-- ---- null

pub null_left : (operator : ComparisonOperator) (r : Val) → StrictlyGives operator null r (gives null)
null_left operator r = refl

pub null_right : (operator : ComparisonOperator) (l : Val) → StrictlyGives operator l null (gives null)
null_right operator null = refl
null_right operator l = refl

null_alone : (v : Val) → v ≢ null → AreEqual null v → ⊥
null_alone null other same = other refl
null_alone v other same = same

alone_null : (v : Val) → v ≢ null → AreEqual v null → ⊥
alone_null null other same = other refl
alone_null v other same = same

pub not_above_null : (v : Val) → IsGreater v null → ⊥
not_above_null null is = is
not_above_null v is = is

-- one side is null and the other is not
abbrev pub OneIsNull : Val → Val → Type 0
OneIsNull l r = ((l ≡ null) × (r ≢ null)) ⊎ ((l ≢ null) × (r ≡ null))

pub not_equal : (l r : Val) → OneIsNull l r → AreEqual l r → ⊥
not_equal l r (inl one) same = null_alone r one.1 (subst (λ (v : Val). AreEqual v r) one.0 same)
not_equal l r (inr one) same = alone_null l one.0 (subst (λ (v : Val). AreEqual l v) one.1 same)

pub not_greater : (l r : Val) → (l ≡ null) ⊎ (r ≡ null) → IsGreater l r → ⊥
not_greater l r (inl is) above = subst (λ (v : Val). IsGreater v r) is above
not_greater l r (inr is) above = not_above_null l (subst (λ (v : Val). IsGreater l v) is above)

pub some_null : (l r : Val) → OneIsNull l r → (l ≡ null) ⊎ (r ≡ null)
some_null l r (inl one) = inl one.0
some_null l r (inr one) = inr one.1

pub swapped : (l r : Val) → (l ≡ null) ⊎ (r ≡ null) → (r ≡ null) ⊎ (l ≡ null)
swapped l r (inl is) = inr is
swapped l r (inr is) = inl is

-- beside one null no comparison but `ne` is true
pub untrue_beside_null : (operator : ComparisonOperator) (l r : Val) → operator ≢ ComparisonOperator.Ne → OneIsNull l r → ComparesTrue operator l r → ⊥
untrue_beside_null ComparisonOperator.Eq l r other one holds = not_equal l r one holds
untrue_beside_null ComparisonOperator.Ne l r other one holds = other refl
untrue_beside_null ComparisonOperator.Gt l r other one holds = not_greater l r (some_null l r one) holds
untrue_beside_null ComparisonOperator.Ge l r other one (inl above) = not_greater l r (some_null l r one) above
untrue_beside_null ComparisonOperator.Lt l r other one holds = not_greater r l (swapped l r (some_null l r one)) holds
untrue_beside_null ComparisonOperator.Le l r other one (inl above) = not_greater r l (swapped l r (some_null l r one)) above
untrue_beside_null _ l r other one (inr same) = not_equal l r one same

-- what the comparison of SQL evaluates to, and whether it is true is what the filter's evaluates to
pub record StrictReports (operator : ComparisonOperator) (l r : Val) (o : Outcome) : Type 0 where
  pub strict : Option Bool
  pub gives_strict : StrictlyGives operator l r (truth strict)
  pub is_same : is_true strict ≡ o

pub strict_of_values : (operator : ComparisonOperator) (l r : Val) (o : Outcome) → l ≢ null → r ≢ null → CompareGives operator l r o → StrictReports operator l r o
strict_of_values operator l r o here there given =
    let reported = reports (ComparesTrue operator l r) o given.1 in
    record {
      strict = Some reported.answer;
      gives_strict = subst (StrictlyGives operator l r) reported.is (strictly_given operator l r o here there given);
      is_same = sym reported.is;
    }

pub strict_beside_null : (operator : ComparisonOperator) (l r : Val) (o : Outcome) → (l ≡ null) ⊎ (r ≡ null) → (ComparesTrue operator l r → ⊥)
    → CompareGives operator l r o → StrictReports operator l r o
strict_beside_null operator l r o one untrue given = record {
  strict = None;
  gives_strict = nothing one;
  is_same = sym (reported_false (ComparesTrue operator l r) o (reports (ComparesTrue operator l r) o given.1) untrue);
}
  where
    nothing : (l ≡ null) ⊎ (r ≡ null) → StrictlyGives operator l r (gives null)
    nothing (inl is) = subst (λ (v : Val). StrictlyGives operator v r (gives null)) (sym is) (null_left operator r)
    nothing (inr is) = subst (λ (v : Val). StrictlyGives operator l v (gives null)) (sym is) (null_right operator l)
