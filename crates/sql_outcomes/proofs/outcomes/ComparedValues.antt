-- Values that are compared: kinds, moments by their instants, and null.
use Rattle.sql_outcomes.proofs.Common.{◌≡◌, ◌≢◌, ◌⊎◌, inl, inr, List, Bool, true, false, not, Option, Some, refl, sym, ap, subst, ◌∙◌, MomentParts, Val, Vals, boolean, items, moment, null, Filter, CompareGives, Outcome, gives, HaveEquality, AreEqual, ComparesTrue, not3, ComparisonOperator, Range, GivesIsNull, StrictlyGives, is_true, truth, SqlType, Operand, Source, Kind, IsGiven, compared_in, AreAlike, AreCompared, IsOfType, Fits, IsPut, IsTestable, IsTested, as_compared}
use Rattle.sql_outcomes.specs.TrueWhere.{IsTrueWhere}
use Rattle.sql_outcomes.proofs.outcomes.Apart.{null_or_not}
use Rattle.sql_outcomes.proofs.outcomes.Comparisons.{StrictReports, not_equal, not_greater, strict_beside_null, strict_of_values, swapped, reports, reported_false, untrue_beside_null}
use Rattle.sql_outcomes.proofs.outcomes.Nullable.{is_null_given, not_null_given, reported_true}

-- values of the other types are compared as they are
pub uncompared : (type : SqlType) (v : Val) → type ≢ SqlType.Moment → IsOfType type v → as_compared v ≡ v
uncompared SqlType.Moment (moment m) other fits = absurd (other refl)
uncompared SqlType.Truth (moment m) other fits = absurd fits
uncompared SqlType.Whole (moment m) other fits = absurd fits
uncompared SqlType.Text (moment m) other fits = absurd fits
uncompared SqlType.Date (moment m) other fits = absurd fits
uncompared SqlType.Instant (moment m) other fits = absurd fits
uncompared SqlType.Guid (moment m) other fits = absurd fits
uncompared SqlType.Member (moment m) other fits = absurd fits
uncompared type v other fits = refl

-- ---- kinds

pub alike_of : (left right : Kind) → AreCompared left right → left ≢ Kind.Null → right ≢ Kind.Null → AreAlike left right
alike_of Kind.Null right compared here there = absurd (here refl)
alike_of (Kind.Value s) (Kind.Value t) compared here there = record { type_of = t; left_is = ap Kind.Value compared; right_is = refl }
alike_of Kind.Structured (Kind.Value t) compared here there = absurd compared
alike_of _ Kind.Null compared here there = absurd (there refl)
alike_of _ Kind.Structured compared here there = absurd compared

module _ (filter : Filter) (ranges : List Range) (operand : Operand) where
  put_of : (source : Source) (kind : Kind) (type : SqlType) → kind ≡ Kind.Value type → IsTestable filter ranges operand source kind → IsPut filter ranges operand
  put_of (Source.Place path) kind type is tested = let e : Kind.Structured ≡ Kind.Value type = sym tested ∙ is in absurd (cc)
  put_of source Kind.Null type is tested = absurd (cc)
  put_of source Kind.Structured type is tested = absurd (cc)
  put_of source (Kind.Value t) type is tested = tested

  pub tested_put : (type : SqlType) → operand.kind ≡ Kind.Value type → IsTested filter ranges operand → IsPut filter ranges operand
  tested_put type is tested = put_of operand.source operand.kind type is tested

-- ---- values

pub given_value : (operand : Operand) (v : Val) → IsGiven operand → Fits operand v → v ≢ null
given_value operand v given fits = λ is. cc (fits.nullable is, given)

-- moments compare as their instants do
moments_compare : (operator : ComparisonOperator) (a b : MomentParts) (o : Outcome) → CompareGives operator (moment a) (moment b) o
    → CompareGives operator (as_compared (moment a)) (as_compared (moment b)) o
moments_compare ComparisonOperator.Eq a b o given = given
moments_compare _ a b o given = given

other_types : (Goes : Val → Val → Type 0) (type : SqlType) (l r : Val) → type ≢ SqlType.Moment → IsOfType type l → IsOfType type r → Goes l r → Goes (as_compared l) (as_compared r)
other_types Goes type l r other left right given =
    subst (λ (v : Val). Goes v (as_compared r)) (sym (uncompared type l other left)) (subst (λ (v : Val). Goes l v) (sym (uncompared type r other right)) given)

strict_moments : (operator : ComparisonOperator) (l r : Val) (o : Outcome) → IsOfType SqlType.Moment l → IsOfType SqlType.Moment r → StrictlyGives operator l r o
    → StrictlyGives operator (as_compared l) (as_compared r) o
strict_moments operator null r o left right given = given
strict_moments operator (moment a) null o left right given = given
strict_moments operator (moment a) (moment b) o left right given = moments_compare operator a b o given
strict_moments operator (moment a) r o left right given = absurd right
strict_moments operator l r o left right given = absurd left

equal_moments : (l r : Val) (o : Outcome) → IsOfType SqlType.Moment l → IsOfType SqlType.Moment r → CompareGives ComparisonOperator.Eq l r o
    → CompareGives ComparisonOperator.Eq (as_compared l) (as_compared r) o
equal_moments null null o left right given = given
equal_moments null (moment b) o left right given = given
equal_moments (moment a) null o left right given = given
equal_moments (moment a) (moment b) o left right given = moments_compare ComparisonOperator.Eq a b o given
equal_moments null r o left right given = absurd right
equal_moments (moment a) r o left right given = absurd right
equal_moments l r o left right given = absurd left

-- null beside a value of SQL, for `eq`
no_list : (type : SqlType) (values : Vals) → IsOfType type (items values) → ⊥
no_list SqlType.Truth values is = is
no_list _ values is = is

after_null : (type : SqlType) (v : Val) → IsOfType type v → HaveEquality null v
after_null type (items values) is = absurd (no_list type values is)
after_null type v is = tt

before_null : (type : SqlType) (v : Val) → IsOfType type v → HaveEquality v null
before_null type (items values) is = absurd (no_list type values is)
before_null type v is = tt

pub null_equality : (type : SqlType) (l r : Val) → IsOfType type l → IsOfType type r → (l ≡ null) ⊎ (r ≡ null) → HaveEquality l r
null_equality type l r left right (inl is) = subst (λ (v : Val). HaveEquality v r) (sym is) (after_null type r right)
null_equality type l r left right (inr is) = subst (λ (v : Val). HaveEquality l v) (sym is) (before_null type l left)

is_moment : (type : SqlType) → (type ≡ SqlType.Moment) ⊎ (type ≢ SqlType.Moment)
is_moment SqlType.Moment = inl refl
is_moment _ = inr (λ is. cc)

-- values of the other types are compared in their own
pub compared_other : (type : SqlType) → (type ≡ SqlType.Moment → ⊥) → type ≡ compared_in type
compared_other SqlType.Moment other = absurd (other refl)
compared_other _ other = refl

module _ (type : SqlType) (l r : Val) (o : Outcome) (left : IsOfType type l) (right : IsOfType type r) where
  pub strict_compared : (operator : ComparisonOperator) → StrictlyGives operator l r o → StrictlyGives operator (as_compared l) (as_compared r) o
  strict_compared operator given = elim (is_moment type) [
    | inl is ↦ strict_moments operator l r o (subst (λ (t : SqlType). IsOfType t l) is left) (subst (λ (t : SqlType). IsOfType t r) is right) given
    | inr other ↦ other_types (λ (v w : Val). StrictlyGives operator v w o) type l r other left right given
  ]

  pub equal_compared : CompareGives ComparisonOperator.Eq l r o → CompareGives ComparisonOperator.Eq (as_compared l) (as_compared r) o
  equal_compared given = elim (is_moment type) [
    | inl is ↦ equal_moments l r o (subst (λ (t : SqlType). IsOfType t l) is left) (subst (λ (t : SqlType). IsOfType t r) is right) given
    | inr other ↦ other_types (λ (v w : Val). CompareGives ComparisonOperator.Eq v w o) type l r other left right given
  ]

-- ---- where at most one side is null

pub one_given_reports : (operator : ComparisonOperator) (l r : Val) (o : Outcome) → operator ≢ ComparisonOperator.Ne → (l ≢ null) ⊎ (r ≢ null) → CompareGives operator l r o → StrictReports operator l r o
one_given_reports operator l r o other (inl here) given =
    elim (null_or_not r) [
      | inl is ↦ strict_beside_null operator l r o (inr is) (untrue_beside_null operator l r other (inr (here, is))) given
      | inr there ↦ strict_of_values operator l r o here there given
    ]
one_given_reports operator l r o other (inr there) given =
    elim (null_or_not l) [
      | inl is ↦ strict_beside_null operator l r o (inl is) (untrue_beside_null operator l r other (inl (is, there))) given
      | inr here ↦ strict_of_values operator l r o here there given
    ]

-- an order reports as much of nulls
abbrev pub IsOrder : ComparisonOperator → Type 0
IsOrder ComparisonOperator.Gt = Unit {0}
IsOrder ComparisonOperator.Lt = Unit {0}
IsOrder operator = ⊥

orders_no_null : (operator : ComparisonOperator) (l r : Val) → IsOrder operator → (l ≡ null) ⊎ (r ≡ null) → ComparesTrue operator l r → ⊥
orders_no_null ComparisonOperator.Gt l r order one holds = not_greater l r one holds
orders_no_null ComparisonOperator.Lt l r order one holds = not_greater r l (swapped l r one) holds
orders_no_null operator l r order one holds = absurd order

pub order_reports : (operator : ComparisonOperator) (l r : Val) (o : Outcome) → IsOrder operator → CompareGives operator l r o → StrictReports operator l r o
order_reports operator l r o order given =
    elim (null_or_not l) [
      | inl is ↦ strict_beside_null operator l r o (inl is) (orders_no_null operator l r order (inl is)) given
      | inr here ↦ elim (null_or_not r) [
        | inl is ↦ strict_beside_null operator l r o (inr is) (orders_no_null operator l r order (inr is)) given
        | inr there ↦ strict_of_values operator l r o here there given
      ]
    ]

-- ---- beside null

module _ (v : Val) (o : Outcome) where
  -- where the operator is true of two nulls it says whether the value is null
  pub beside_is_null : (operator : ComparisonOperator) → operator ≢ ComparisonOperator.Ne → ComparesTrue operator null null
      → CompareGives operator null v o ⊎ CompareGives operator v null o → GivesIsNull v o
  beside_is_null operator other of_nulls either = elim (null_or_not v) [
    | inl is ↦
        let here : ComparesTrue operator null v = subst (λ (w : Val). ComparesTrue operator null w) (sym is) of_nulls in
        let there : ComparesTrue operator v null = subst (λ (w : Val). ComparesTrue operator w null) (sym is) of_nulls in
        let so : o ≡ gives (boolean true) = elim either [
          | inl given ↦ reported_true (ComparesTrue operator null v) o (reports (ComparesTrue operator null v) o given.1) here
          | inr given ↦ reported_true (ComparesTrue operator v null) o (reports (ComparesTrue operator v null) o given.1) there
        ] in
        subst (λ (x : Outcome). GivesIsNull v x) (sym so) (is_null_given v is)
    | inr away ↦
        let so : o ≡ gives (boolean false) = elim either [
          | inl given ↦ reported_false (ComparesTrue operator null v) o (reports (ComparesTrue operator null v) o given.1) (untrue_beside_null operator null v other (inl (refl, away)))
          | inr given ↦ reported_false (ComparesTrue operator v null) o (reports (ComparesTrue operator v null) o given.1) (untrue_beside_null operator v null other (inr (away, refl)))
        ] in
        subst (λ (x : Outcome). GivesIsNull v x) (sym so) (not_null_given v away)
  ]

  pub beside_is_false : (operator : ComparisonOperator) → IsOrder operator → CompareGives operator null v o ⊎ CompareGives operator v null o → o ≡ gives (boolean false)
  beside_is_false operator order (inl given) =
      reported_false (ComparesTrue operator null v) o (reports (ComparesTrue operator null v) o given.1) (orders_no_null operator null v order (inl refl))
  beside_is_false operator order (inr given) =
      reported_false (ComparesTrue operator v null) o (reports (ComparesTrue operator v null) o given.1) (orders_no_null operator v null order (inr refl))

  -- `ne` says whether it is not
  pub beside_is_not : CompareGives ComparisonOperator.Ne null v o ⊎ CompareGives ComparisonOperator.Ne v null o
      → (n : Bool) × GivesIsNull v (gives (boolean n)) × (o ≡ gives (boolean (not n)))
  beside_is_not either = elim (null_or_not v) [
    | inl is ↦ (
      true,
      is_null_given v is,
      elim either [
        | inl given ↦ reported_false (ComparesTrue ComparisonOperator.Ne null v) o (reports (ComparesTrue ComparisonOperator.Ne null v) o given.1)
            (λ differs. differs (subst (λ (w : Val). AreEqual null w) (sym is) tt))
        | inr given ↦ reported_false (ComparesTrue ComparisonOperator.Ne v null) o (reports (ComparesTrue ComparisonOperator.Ne v null) o given.1)
            (λ differs. differs (subst (λ (w : Val). AreEqual w null) (sym is) tt))
      ],
    )
    | inr away ↦ (
      false,
      not_null_given v away,
      elim either [
        | inl given ↦ reported_true (ComparesTrue ComparisonOperator.Ne null v) o (reports (ComparesTrue ComparisonOperator.Ne null v) o given.1)
            (λ same. not_equal null v (inl (refl, away)) same)
        | inr given ↦ reported_true (ComparesTrue ComparisonOperator.Ne v null) o (reports (ComparesTrue ComparisonOperator.Ne v null) o given.1)
            (λ same. not_equal v null (inr (away, refl)) same)
      ],
    )
  ]

pub not_truth : (b : Bool) → truth (not3 (Some b)) ≡ gives (boolean (not b))
not_truth true = refl
not_truth false = refl

-- where it is true, and where it is false

true_of_true : (s : Option Bool) → is_true s ≡ gives (boolean true) → s ≡ Some true
true_of_true (Some true) is = refl
true_of_true _ is = absurd (cc)

pub kept_where : (s : Option Bool) (o x : Outcome) → x ≡ truth s → is_true s ≡ o → IsTrueWhere (o ≡ gives (boolean true)) x
kept_where s o x same is = (s, same, (λ t. sym is ∙ ap is_true t, λ fact. true_of_true s (is ∙ fact)))

pub denied_where : (b : Bool) (o x : Outcome) → o ≡ gives (boolean b) → x ≡ truth (not3 (Some b)) → IsTrueWhere (o ≡ gives (boolean false)) x
denied_where true o x is same = (Some false, same, (λ t. absurd (cc), λ fact. let e : gives (boolean true) ≡ gives (boolean false) = sym is ∙ fact in absurd (cc)))
denied_where false o x is same = (Some true, same, (λ t. is, λ fact. refl))
