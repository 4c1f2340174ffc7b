-- What each operator of SQL evaluates to, of terms that evaluate to such values.
use Rattle.sql_outcomes.proofs.Common.{◌≡◌, ℤ, Bool, Option, Some, None, refl, Val, PrimitiveType, number_val, CompareGives, Outcome, gives, and3, not3, or3, ArithmeticOperator, ComparisonOperator, Term, no_terms, more_terms, LookUp, Carrier, SqlNode, SqlType, OneLooked, TwoLooked, BothNumbers, OfNumber, OfTruth, Over, ChoiceGives, FirstGiven, GivesInRange, GivesIsNull, GivesWhole, GivesWithin64, StrictlyGives, code_of_truth, is_true, truth, NodeMeans, SqlMeans, Asked, Bound}
use Rattle.sql_meaning.specs.SqlTypeHolds.{IsComparedAs}
use Rattle.sql_outcomes.proofs.outcomes.Truths.{of_truth}

pub of_number : (n : Option ℤ) (Goes : Option ℤ → Outcome → Type 0) (o : Outcome) → Goes n o → OfNumber Goes (gives (number_val n)) o
of_number None Goes o given = given
of_number (Some n) Goes o given = given

module _ (asked : Asked) (bound : Bound) where
  -- ---- truth values

  pub not_means : (a : Term) (t : Option Bool) → SqlMeans asked bound a (truth t) → NodeMeans asked bound SqlNode.Not (more_terms a no_terms) (truth (not3 t))
  not_means a t is = (truth t, is, of_truth t (λ u o. o ≡ truth (not3 u)) (truth (not3 t)) refl)

  pub and_means : (a b : Term) (s t : Option Bool) → SqlMeans asked bound a (truth s) → SqlMeans asked bound b (truth t)
      → NodeMeans asked bound SqlNode.And (more_terms a (more_terms b no_terms)) (truth (and3 s t))
  and_means a b s t left right = (truth s, left, of_truth s (λ u. Over (SqlMeans asked bound b) (OfTruth (λ v o. o ≡ truth (and3 u v)))) (truth (and3 s t)) (truth t, right, of_truth t (λ u o. o ≡ truth (and3 s u)) (truth (and3 s t)) refl))

  pub or_means : (a b : Term) (s t : Option Bool) → SqlMeans asked bound a (truth s) → SqlMeans asked bound b (truth t)
      → NodeMeans asked bound SqlNode.Or (more_terms a (more_terms b no_terms)) (truth (or3 s t))
  or_means a b s t left right = (truth s, left, of_truth s (λ u. Over (SqlMeans asked bound b) (OfTruth (λ v o. o ≡ truth (or3 u v)))) (truth (or3 s t)) (truth t, right, of_truth t (λ u o. o ≡ truth (or3 s u)) (truth (or3 s t)) refl))

  pub is_true_means : (a : Term) (t : Option Bool) → SqlMeans asked bound a (truth t) → NodeMeans asked bound SqlNode.IsTrue (more_terms a no_terms) (is_true t)
  is_true_means a t is = (truth t, is, of_truth t (λ u o. o ≡ is_true u) (is_true t) refl)

  pub truth_code_means : (a : Term) (t : Option Bool) → SqlMeans asked bound a (truth t)
      → NodeMeans asked bound SqlNode.TruthCode (more_terms a no_terms) (code_of_truth t)
  truth_code_means a t is = (truth t, is, of_truth t (λ u o. o ≡ code_of_truth u) (code_of_truth t) refl)

  -- ---- values

  pub is_null_means : (a : Term) (v : Val) (o : Outcome) → SqlMeans asked bound a (gives v) → GivesIsNull v o → NodeMeans asked bound SqlNode.IsNull (more_terms a no_terms) o
  is_null_means a v o is given = (gives v, is, given)

  pub compare_means : (operator : ComparisonOperator) (type : SqlType) (a b : Term) (l r : Val) (o : Outcome)
      → IsComparedAs type l → IsComparedAs type r → SqlMeans asked bound a (gives l) → SqlMeans asked bound b (gives r) → StrictlyGives operator l r o
      → NodeMeans asked bound (SqlNode.Compare operator type) (more_terms a (more_terms b no_terms)) o
  compare_means operator type a b l r o of_left of_right left right given = (gives l, left, (of_left, (gives r, right, (of_right, given))))

  pub same_means : (type : SqlType) (a b : Term) (l r : Val) (o : Outcome) → IsComparedAs type l → IsComparedAs type r → SqlMeans asked bound a (gives l) → SqlMeans asked bound b (gives r)
      → CompareGives ComparisonOperator.Eq l r o → NodeMeans asked bound (SqlNode.Same type) (more_terms a (more_terms b no_terms)) o
  same_means type a b l r o of_left of_right left right given = (gives l, left, (of_left, (gives r, right, (of_right, given))))

  pub case_means : (a b c : Term) (t : Option Bool) (x y o : Outcome) → SqlMeans asked bound a (truth t) → SqlMeans asked bound b x → SqlMeans asked bound c y
      → ChoiceGives t x y o → NodeMeans asked bound SqlNode.Case (more_terms a (more_terms b (more_terms c no_terms))) o
  case_means a b c t x y o condition first second given = (truth t, condition, of_truth t (λ u. Over (SqlMeans asked bound b) (λ v. Over (SqlMeans asked bound c) (ChoiceGives u v))) o (x, first, (y, second, given)))

  pub coalesce_means : (a b : Term) (x y o : Outcome) → SqlMeans asked bound a x → SqlMeans asked bound b y → FirstGiven x y o
      → NodeMeans asked bound SqlNode.Coalesce (more_terms a (more_terms b no_terms)) o
  coalesce_means a b x y o first second given = (x, first, (y, second, given))

  -- ---- numbers

  pub plain_means : (operator : ArithmeticOperator) (a b : Term) (m n : Option ℤ) (o : Outcome) → SqlMeans asked bound a (gives (number_val m)) → SqlMeans asked bound b (gives (number_val n))
      → BothNumbers m n (GivesWithin64 operator) o → NodeMeans asked bound (SqlNode.Plain operator) (more_terms a (more_terms b no_terms)) o
  plain_means operator a b m n o left right given =
      (gives (number_val m), left, of_number m (λ u. Over (SqlMeans asked bound b) (OfNumber (λ v. BothNumbers u v (GivesWithin64 operator)))) o (gives (number_val n), right, of_number n (λ k. BothNumbers m k (GivesWithin64 operator)) o given))

  pub wide_means : (operator : ArithmeticOperator) (a b : Term) (m n : Option ℤ) (o : Outcome) → SqlMeans asked bound a (gives (number_val m)) → SqlMeans asked bound b (gives (number_val n))
      → BothNumbers m n (GivesWhole operator) o → NodeMeans asked bound (SqlNode.Wide operator) (more_terms a (more_terms b no_terms)) o
  wide_means operator a b m n o left right given =
      (gives (number_val m), left, of_number m (λ u. Over (SqlMeans asked bound b) (OfNumber (λ v. BothNumbers u v (GivesWhole operator)))) o (gives (number_val n), right, of_number n (λ k. BothNumbers m k (GivesWhole operator)) o given))

  pub within_means : (type : PrimitiveType) (a : Term) (n : Option ℤ) (o : Outcome) → SqlMeans asked bound a (gives (number_val n)) → GivesInRange type n o
      → NodeMeans asked bound (SqlNode.Within type) (more_terms a no_terms) o
  within_means type a n o is given = (gives (number_val n), is, of_number n (GivesInRange type) o given)

  -- ---- faults and codes

  pub carried_means : (carrier : Carrier) (a : Term) (v : Val) → SqlMeans asked bound a (gives v) → NodeMeans asked bound (SqlNode.Carried carrier) (more_terms a no_terms) (gives v)
  carried_means carrier a v is = (gives v, is, refl)

  pub looked_means : (table : LookUp) (a : Term) (x o : Outcome) → SqlMeans asked bound a x → OneLooked table x o → NodeMeans asked bound (SqlNode.LookUp table) (more_terms a no_terms) o
  looked_means table a x o is given = (x, is, given)

  pub looked_two_means : (table : LookUp) (a b : Term) (x y o : Outcome) → SqlMeans asked bound a x → SqlMeans asked bound b y → TwoLooked table x y o
      → NodeMeans asked bound (SqlNode.LookUp table) (more_terms a (more_terms b no_terms)) o
  looked_two_means table a b x y o left right given = (x, left, (y, right, given))
