-- A function of SQL gives at most one outcome of the outcomes of its arguments.
use Rattle.std.proofs.Common.{◌≡◌, ℕ, ℤ, List, [], ◌∷◌, Bool, true, false, length, sym, ap, subst, ◌∙◌}
use Rattle.std.specs.Prelude.{pos}
use Rattle.std.specs.Str.{chars}
use Rattle.edm_values.specs.Instant.{instant}
use Rattle.edm_values.specs.MomentParts.{MomentParts}
use Rattle.edm_values.specs.Val.{Val, null, whole, text, date, moment}
use Rattle.odata_filter_operations.specs.ArgumentValues.{OfMoment, OfText, OfTexts}
use Rattle.odata_filter_operations.specs.CallGives.{UnlessNull, has_null}
use Rattle.odata_filter_operations.specs.Outcome.{Outcome, gives, overflow, divides_by_zero}
use Rattle.odata_functions.specs.Texts.{IsPlaceOf}
use Rattle.sql_tree.specs.declared.sql_node.SqlFunction.{SqlFunction}
use Rattle.odata_signatures.specs.declared.function.Function.{Function}
use Rattle.sql_meaning.specs.SqlFunctionGives.{OfDateAlone, OfGiven, OfMomentAlone, SqlFunctionGives, function_of}
use Rattle.sql_meaning.specs.SqlMeans.{AreValues, CalledGives}
use Rattle.sql_meaning.specs.Table.{Asked}
use Rattle.sql_meaning.proofs.OneStep.{AtMostOne, OneEach, same_one}

of_text : (Gives : List ℕ → Outcome → Type 0) → ((t : List ℕ) → AtMostOne (Gives t)) → (values : List Val) → AtMostOne (OfText Gives values)
of_text Gives one (text t ∷ []) a b p q = one t a b p q
of_text Gives one _ a b p q = absurd p

of_texts : (Gives : List ℕ → List ℕ → Outcome → Type 0) → ((s t : List ℕ) → AtMostOne (Gives s t)) → (values : List Val) → AtMostOne (OfTexts Gives values)
of_texts Gives one (text s ∷ text t ∷ []) a b p q = one s t a b p q
of_texts Gives one _ a b p q = absurd p

of_moment : (Gives : MomentParts → Outcome → Type 0) → ((m : MomentParts) → AtMostOne (Gives m)) → (values : List Val) → AtMostOne (OfMoment Gives values)
of_moment Gives one (moment m ∷ []) a b p q = one m a b p q
of_moment Gives one _ a b p q = absurd p

of_date_alone : (Goes : List Val → Outcome → Type 0) → ((values : List Val) → AtMostOne (Goes values)) → (values : List Val) → AtMostOne (OfDateAlone Goes values)
of_date_alone Goes one (date d ∷ []) a b p q = one (date d ∷ []) a b p q
of_date_alone Goes one _ a b p q = absurd p

of_moment_alone : (Goes : List Val → Outcome → Type 0) → ((values : List Val) → AtMostOne (Goes values)) → (values : List Val) → AtMostOne (OfMomentAlone Goes values)
of_moment_alone Goes one (moment m ∷ []) a b p q = one (moment m ∷ []) a b p q
of_moment_alone Goes one _ a b p q = absurd p

unless_null : (is_null : Bool) (Gives : Outcome → Type 0) → AtMostOne Gives → AtMostOne (UnlessNull is_null Gives)
unless_null true Gives one a b p q = same_one (gives null) a b p q
unless_null false Gives one a b p q = one a b p q

module _ (known : OneEach) where
  place_given : (s t : List ℕ) → AtMostOne (λ o. (n : ℤ) × IsPlaceOf (chars s) (chars t) n × (o ≡ gives (whole n)))
  place_given s t a b p q =
      p.2 ∙ ap (λ (n : ℤ). gives (whole n)) (known.place (chars s) (chars t) p.0 q.0 p.1 q.1) ∙ sym q.2

  OfGiven-one : (now : MomentParts) (function : SqlFunction) (values : List Val) → AtMostOne (OfGiven now function values)
  OfGiven-one now SqlFunction.Instant values = of_moment _ (λ m. same_one (gives (whole (instant m)))) values
  OfGiven-one now SqlFunction.Length values = of_text _ (λ s. same_one (gives (whole (pos (length (chars s)))))) values
  OfGiven-one now SqlFunction.IndexOf values = of_texts _ place_given values
  OfGiven-one now SqlFunction.YearOfDate values = of_date_alone _ (known.values.called now Function.Year) values
  OfGiven-one now SqlFunction.MonthOfDate values = of_date_alone _ (known.values.called now Function.Month) values
  OfGiven-one now SqlFunction.DayOfDate values = of_date_alone _ (known.values.called now Function.Day) values
  OfGiven-one now SqlFunction.YearOfMoment values = of_moment_alone _ (known.values.called now Function.Year) values
  OfGiven-one now SqlFunction.MonthOfMoment values = of_moment_alone _ (known.values.called now Function.Month) values
  OfGiven-one now SqlFunction.DayOfMoment values = of_moment_alone _ (known.values.called now Function.Day) values
  OfGiven-one now function values = known.values.called now (function_of function) values

  SqlFunctionGives-one : (now : MomentParts) (function : SqlFunction) (values : List Val) → AtMostOne (SqlFunctionGives now function values)
  SqlFunctionGives-one now function values = unless_null (has_null values) (OfGiven now function values) (OfGiven-one now function values)

  AreValues-one : (os : List Outcome) (vs ws : List Val) → AreValues os vs → AreValues os ws → vs ≡ ws
  AreValues-one [] vs ws p q = p ∙ sym q
  AreValues-one (gives v ∷ os) (x ∷ xs) (y ∷ ys) p q =
      let first : x ≡ y = p.0 ∙ sym q.0 in
      let rest : xs ≡ ys = AreValues-one os xs ys p.1 q.1 in
      cc
  AreValues-one (gives v ∷ os) (x ∷ xs) [] p q = absurd q
  AreValues-one (gives v ∷ os) [] ws p q = absurd p
  AreValues-one (overflow ∷ os) vs ws p q = absurd p
  AreValues-one (divides_by_zero ∷ os) vs ws p q = absurd p

  pub CalledGives-one : (asked : Asked) (function : SqlFunction) (os : List Outcome) → AtMostOne (CalledGives asked function os)
  CalledGives-one asked function os a b p q =
      SqlFunctionGives-one asked.now function p.0 a b p.2
      (subst (λ (vs : List Val). SqlFunctionGives asked.now function vs b) (AreValues-one os q.0 p.0 q.1 p.1) q.2)
