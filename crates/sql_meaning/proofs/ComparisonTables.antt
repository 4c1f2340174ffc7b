-- The tables of comparisons at each two codes, and those of comparisons with null at each one.
use Rattle.std.proofs.Common.{◌≡◌, ◌⊎◌, inl, inr, ⊎_elim, ℕ, ◌+◌, ◌*◌, List, [], ◌∷◌, Option, Some, None, Bool, true, false, refl, ap, ◌∙◌}
use Rattle.std.specs.Prelude.{slice_get}
use Rattle.edm_values.specs.Val.{Val, null, boolean, whole, text, date, moment, guid, member, fields, items}
use Rattle.odata_functions.specs.Comparison.{AreEqual, ComparesTrue, IsGreater}
use Rattle.odata_syntax.specs.declared.binary_operator.ComparisonOperator.{ComparisonOperator}
use Rattle.odata_syntax.specs.declared.binary_operator.ComparisonOperator.TheVariants.{Eq, Ne, Gt, Ge, Lt, Le}
use Rattle.odata_filter_operations.specs.CompareGives.{CompareGives, GivesTruth}
use Rattle.odata_filter_operations.specs.LeftFirst.{After, Then}
use Rattle.odata_filter_operations.specs.Outcome.{Outcome, gives, overflow, divides_by_zero}
use Rattle.odata_filter_operations.specs.TruthGives.{truth_val}
use Rattle.sql_tree.specs.TableDigits.{digits_of, arity_of_table}
use Rattle.sql_tree.specs.declared.look_up.LookUp.{LookUp}
use Rattle.sql_meaning.specs.Codes.{IsCoded, code_of}
use Rattle.sql_meaning.specs.Tables.{IsTableBesideNull, IsTableOfComparison}
use Rattle.sql_meaning.proofs.Tables.{by_code, coded, of_right}

-- ---- whether a fact holds

-- the fact holds, or it does not
abbrev Decides : Bool → Type 0 → Type 0
Decides true Fact = Fact
Decides false Fact = ¬ Fact

decided : (answer : Bool) (Fact : Type 0) (o : Outcome) → Decides answer Fact → GivesTruth Fact o → o ≡ gives (boolean answer)
decided true Fact (gives (boolean true)) fact h = refl
decided true Fact (gives (boolean false)) fact h = cc (h.1 fact)
decided false Fact (gives (boolean true)) none h = absurd (none (h.0 refl))
decided false Fact (gives (boolean false)) none h = refl
decided answer Fact (gives null) known h = absurd h
decided answer Fact (gives (whole n)) known h = absurd h
decided answer Fact (gives (text s)) known h = absurd h
decided answer Fact (gives (date d)) known h = absurd h
decided answer Fact (gives (moment m)) known h = absurd h
decided answer Fact (gives (guid g)) known h = absurd h
decided answer Fact (gives (member n)) known h = absurd h
decided answer Fact (gives (fields f)) known h = absurd h
decided answer Fact (gives (items v)) known h = absurd h
decided answer Fact overflow known h = absurd h
decided answer Fact divides_by_zero known h = absurd h

abbrev denied : Bool → Bool
denied true = false
denied false = true

abbrev either : Bool → Bool → Bool
either true b = true
either false b = b

decides_not : (a : Bool) (Fact : Type 0) → Decides a Fact → Decides (denied a) (¬ Fact)
decides_not true Fact fact = λ none. none fact
decides_not false Fact none = none

decides_or : (a b : Bool) (Fact Other : Type 0) → Decides a Fact → Decides b Other → Decides (either a b) (Fact ⊎ Other)
decides_or true b Fact Other fact other = inl fact
decides_or false true Fact Other none other = inr other
decides_or false false Fact Other none no_other = λ one. ⊎_elim (λ p. none p) (λ q. no_other q) one

-- ---- of two truth values or nulls

abbrev are_equal : Option Bool → Option Bool → Bool
are_equal (Some false) (Some false) = true
are_equal (Some false) (Some true) = false
are_equal (Some false) None = false
are_equal (Some true) (Some false) = false
are_equal (Some true) (Some true) = true
are_equal (Some true) None = false
are_equal None (Some b) = false
are_equal None None = true

equal_decides : (s t : Option Bool) → Decides (are_equal s t) (AreEqual (truth_val s) (truth_val t))
equal_decides (Some false) (Some false) = refl
equal_decides (Some false) (Some true) = λ p. cc p
equal_decides (Some false) None = λ p. p
equal_decides (Some true) (Some false) = λ p. cc p
equal_decides (Some true) (Some true) = refl
equal_decides (Some true) None = λ p. p
equal_decides None (Some b) = λ p. p
equal_decides None None = tt

abbrev is_greater : Option Bool → Option Bool → Bool
is_greater (Some true) (Some false) = true
is_greater (Some true) (Some true) = false
is_greater (Some true) None = false
is_greater (Some false) t = false
is_greater None t = false

greater_decides : (s t : Option Bool) → Decides (is_greater s t) (IsGreater (truth_val s) (truth_val t))
greater_decides (Some true) (Some false) = (refl, refl)
greater_decides (Some true) (Some true) = λ p. cc (p.1)
greater_decides (Some true) None = λ p. p
greater_decides (Some false) (Some b) = λ p. cc (p.0)
greater_decides (Some false) None = λ p. p
greater_decides None (Some b) = λ p. p
greater_decides None None = λ p. p

-- ---- tables by what is decided

abbrev bit : Bool → ℕ
bit answer = code_of (gives (boolean answer))

-- the digits at two codes: the first fault stays
abbrev digits_for : (Option Bool → Option Bool → Bool) → List ℕ
digits_for answer =
    bit (answer (Some false) (Some false)) ∷ bit (answer (Some false) (Some true)) ∷ bit (answer (Some false) None) ∷ 3 ∷ 4
    ∷ bit (answer (Some true) (Some false)) ∷ bit (answer (Some true) (Some true)) ∷ bit (answer (Some true) None) ∷ 3 ∷ 4
    ∷ bit (answer None (Some false)) ∷ bit (answer None (Some true)) ∷ bit (answer None None) ∷ 3 ∷ 4
    ∷ 3 ∷ 3 ∷ 3 ∷ 3 ∷ 3 ∷ 4 ∷ 4 ∷ 4 ∷ 4 ∷ 4 ∷ []

-- and at one code
abbrev digits_beside : (Option Bool → Bool) → List ℕ
digits_beside answer = bit (answer (Some false)) ∷ bit (answer (Some true)) ∷ bit (answer None) ∷ 3 ∷ 4 ∷ []

module _ (operator : ComparisonOperator) (answer : Option Bool → Option Bool → Bool)
    (decides : (s t : Option Bool) → Decides (answer s t) (ComparesTrue operator (truth_val s) (truth_val t))) where
  given : (s t : Option Bool) (o : Outcome) → CompareGives operator (truth_val s) (truth_val t) o → o ≡ gives (boolean (answer s t))
  given s t o h = decided (answer s t) (ComparesTrue operator (truth_val s) (truth_val t)) o (decides s t) h.1

  -- what stands in the digits at two codes
  abbrev At : Outcome → Outcome → ℕ → Type 0
  At left right digit = slice_get (digits_for answer) (5 * code_of left + code_of right) ≡ Some digit

  pair_digit : (s t : Option Bool) → At (gives (truth_val s)) (gives (truth_val t)) (bit (answer s t))
  pair_digit (Some false) (Some false) = refl
  pair_digit (Some false) (Some true) = refl
  pair_digit (Some false) None = refl
  pair_digit (Some true) (Some false) = refl
  pair_digit (Some true) (Some true) = refl
  pair_digit (Some true) None = refl
  pair_digit None (Some false) = refl
  pair_digit None (Some true) = refl
  pair_digit None None = refl

  paired : (s t : Option Bool) (o : Outcome) → CompareGives operator (truth_val s) (truth_val t) o → At (gives (truth_val s)) (gives (truth_val t)) (code_of o)
  paired s t o h = pair_digit s t ∙ coded (gives (boolean (answer s t))) o (given s t o h)

  -- a truth value or null on the left
  truth_first : (s : Option Bool) (right o : Outcome) → At (gives (truth_val s)) overflow 3 → At (gives (truth_val s)) divides_by_zero 4 → IsCoded right
      → After (λ y. y ≡ right) (CompareGives operator (truth_val s)) o → At (gives (truth_val s)) right (code_of o)
  truth_first s right o third fourth r h =
      by_code (λ x. Then x (CompareGives operator (truth_val s)) o → At (gives (truth_val s)) x (code_of o))
      (paired s (Some false) o) (paired s (Some true) o) (paired s None o) (λ is. third ∙ coded overflow o is) (λ is. fourth ∙ coded divides_by_zero o is)
      right r (of_right right o (CompareGives operator (truth_val s)) h)

  two_looked : (left right o : Outcome) → IsCoded left → IsCoded right → Then left (λ l. After (λ y. y ≡ right) (CompareGives operator l)) o
      → At left right (code_of o)
  two_looked left right o l r =
      by_code (λ x. Then x (λ v. After (λ y. y ≡ right) (CompareGives operator v)) o → At x right (code_of o))
      (truth_first (Some false) right o refl refl r) (truth_first (Some true) right o refl refl r) (truth_first None right o refl refl r)
      (λ is. by_code (λ x. At overflow x 3) refl refl refl refl refl right r ∙ coded overflow o is)
      (λ is. by_code (λ x. At divides_by_zero x 4) refl refl refl refl refl right r ∙ coded divides_by_zero o is) left l

  pub comparison_table : (table : LookUp) → digits_of table ≡ digits_for answer → IsTableOfComparison table operator
  comparison_table table same left right o l r h =
      ap (λ (digits : List ℕ). slice_get digits (5 * code_of left + code_of right)) same ∙ two_looked left right o l r h

  one_looked : (answer_of : Option Bool → Bool) (Goes : Val → Outcome → Type 0) (x o : Outcome) → IsCoded x
      → ((t : Option Bool) → Goes (truth_val t) o → o ≡ gives (boolean (answer_of t))) → Then x Goes o
      → slice_get (digits_beside answer_of) (code_of x) ≡ Some (code_of o)
  one_looked answer_of Goes x o c known =
      by_code (λ y. Then y Goes o → slice_get (digits_beside answer_of) (code_of y) ≡ Some (code_of o))
      (λ is. coded (gives (boolean (answer_of (Some false)))) o (known (Some false) is)) (λ is. coded (gives (boolean (answer_of (Some true)))) o (known (Some true) is))
      (λ is. coded (gives (boolean (answer_of None))) o (known None is)) (coded overflow o) (coded divides_by_zero o) x c

  pub beside_null : (table : LookUp) → arity_of_table table ≡ 1 → digits_of table ≡ digits_beside (λ s. answer s None) → digits_of table ≡ digits_beside (answer None)
      → IsTableBesideNull table operator
  beside_null table of_one right_same left_same = record {
    of_one = of_one;
    right_null = λ left o l h.
        ap (λ (digits : List ℕ). slice_get digits (code_of left)) right_same
        ∙ one_looked (λ s. answer s None) (λ v. CompareGives operator v null) left o l (λ s is. given s None o is) h;
    left_null = λ right o r h.
        ap (λ (digits : List ℕ). slice_get digits (code_of right)) left_same
        ∙ one_looked (answer None) (λ v. CompareGives operator null v) right o r (λ t is. given None t o is) h;
  }

-- ---- each operator

ne_answer : (s t : Option Bool) → Decides (denied (are_equal s t)) (ComparesTrue Ne (truth_val s) (truth_val t))
ne_answer s t = decides_not (are_equal s t) (AreEqual (truth_val s) (truth_val t)) (equal_decides s t)

ge_answer : (s t : Option Bool) → Decides (either (is_greater s t) (are_equal s t)) (ComparesTrue Ge (truth_val s) (truth_val t))
ge_answer s t =
    decides_or (is_greater s t) (are_equal s t) (IsGreater (truth_val s) (truth_val t)) (AreEqual (truth_val s) (truth_val t)) (greater_decides s t) (equal_decides s t)

lt_answer : (s t : Option Bool) → Decides (is_greater t s) (ComparesTrue Lt (truth_val s) (truth_val t))
lt_answer s t = greater_decides t s

le_answer : (s t : Option Bool) → Decides (either (is_greater t s) (are_equal s t)) (ComparesTrue Le (truth_val s) (truth_val t))
le_answer s t =
    decides_or (is_greater t s) (are_equal s t) (IsGreater (truth_val t) (truth_val s)) (AreEqual (truth_val s) (truth_val t)) (greater_decides t s) (equal_decides s t)

pub eq_table : IsTableOfComparison LookUp.Equal Eq
eq_table = comparison_table Eq are_equal equal_decides LookUp.Equal refl

pub ne_table : IsTableOfComparison LookUp.NotEqual Ne
ne_table = comparison_table Ne (λ s t. denied (are_equal s t)) ne_answer LookUp.NotEqual refl

pub gt_table : IsTableOfComparison LookUp.Greater Gt
gt_table = comparison_table Gt is_greater greater_decides LookUp.Greater refl

pub ge_table : IsTableOfComparison LookUp.AtLeast Ge
ge_table = comparison_table Ge (λ s t. either (is_greater s t) (are_equal s t)) ge_answer LookUp.AtLeast refl

pub lt_table : IsTableOfComparison LookUp.Less Lt
lt_table = comparison_table Lt (λ s t. is_greater t s) lt_answer LookUp.Less refl

pub le_table : IsTableOfComparison LookUp.AtMost Le
le_table = comparison_table Le (λ s t. either (is_greater t s) (are_equal s t)) le_answer LookUp.AtMost refl

pub eq_beside_null : IsTableBesideNull LookUp.IsNull Eq
eq_beside_null = beside_null Eq are_equal equal_decides LookUp.IsNull refl refl refl

pub ne_beside_null : IsTableBesideNull LookUp.IsNotNull Ne
ne_beside_null = beside_null Ne (λ s t. denied (are_equal s t)) ne_answer LookUp.IsNotNull refl refl refl

pub gt_beside_null : IsTableBesideNull LookUp.Never Gt
gt_beside_null = beside_null Gt is_greater greater_decides LookUp.Never refl refl refl

pub ge_beside_null : IsTableBesideNull LookUp.IsNull Ge
ge_beside_null = beside_null Ge (λ s t. either (is_greater s t) (are_equal s t)) ge_answer LookUp.IsNull refl refl refl

pub lt_beside_null : IsTableBesideNull LookUp.Never Lt
lt_beside_null = beside_null Lt (λ s t. is_greater t s) lt_answer LookUp.Never refl refl refl

pub le_beside_null : IsTableBesideNull LookUp.IsNull Le
le_beside_null = beside_null Le (λ s t. either (is_greater t s) (are_equal s t)) le_answer LookUp.IsNull refl refl refl
