-- A function gives at most one outcome of the values of its arguments.
use Rattle.std.proofs.Common.{◌≡◌, ℕ, ℤ, List, [], ◌∷◌, length, ap, subst, sym, ◌∙◌}
use Rattle.std.specs.Prelude.{pos}
use Rattle.std.specs.Str.{chars}
use Rattle.edm_values.specs.Civil.{Date, epoch_day}
use Rattle.edm_values.specs.Instant.{offset_of}
use Rattle.edm_values.specs.MomentParts.{MomentParts}
use Rattle.edm_values.specs.Val.{Val, whole, text, date, moment}
use Rattle.edm_values.specs.declared.primitive.PrimitiveType.TheVariants.{Int32}
use Rattle.odata_functions.specs.DateParts.{IsDayOf, IsMonthOf, IsYearOf, date_of, hour_of, minute_of, second_of}
use Rattle.odata_functions.specs.Texts.{HasEnd, HasPart, HasStart, IsPlaceOf, IsTrimmed}
use Rattle.odata_signatures.specs.declared.function.Function.{Function}
use Rattle.odata_filter_operations.specs.ArgumentValues.{OfDate, OfMoment, OfNone, OfText, OfTextAndNumbers, OfTexts}
use Rattle.odata_filter_operations.specs.FunctionGives.{FunctionGives, GivesCount, GivesText}
use Rattle.odata_filter_operations.specs.Outcome.{Outcome, gives}
use Rattle.odata_meaning.specs.private.LawsBelow.{OneEach}
use Rattle.odata_meaning.proofs.meaning.NumberComes.{GivesNumber-one}
use Rattle.odata_meaning.proofs.meaning.OneLeaf.{GivesTruth-one}
use Rattle.odata_meaning.proofs.meaning.OneStep.{AtMostOne, same_one}

-- ---- arguments by their kinds

OfNone-one : (Gives : Outcome → Type 0) → AtMostOne Gives → (values : List Val) → AtMostOne (OfNone Gives values)
OfNone-one Gives one [] a b p q = one a b p q
OfNone-one Gives one (v ∷ more) a b p q = absurd p

OfText-one : (Gives : List ℕ → Outcome → Type 0) → ((t : List ℕ) → AtMostOne (Gives t)) → (values : List Val) → AtMostOne (OfText Gives values)
OfText-one Gives one (text t ∷ []) a b p q = one t a b p q
OfText-one Gives one _ a b p q = absurd p

OfTexts-one : (Gives : List ℕ → List ℕ → Outcome → Type 0) → ((s t : List ℕ) → AtMostOne (Gives s t)) → (values : List Val) → AtMostOne (OfTexts Gives values)
OfTexts-one Gives one (text s ∷ text t ∷ []) a b p q = one s t a b p q
OfTexts-one Gives one _ a b p q = absurd p

OfTextAndNumbers-one : (OfOne : List ℕ → ℤ → Outcome → Type 0) (OfTwo : List ℕ → ℤ → ℤ → Outcome → Type 0)
    → ((t : List ℕ) (n : ℤ) → AtMostOne (OfOne t n)) → ((t : List ℕ) (n m : ℤ) → AtMostOne (OfTwo t n m)) → (values : List Val) → AtMostOne (OfTextAndNumbers OfOne OfTwo values)
OfTextAndNumbers-one OfOne OfTwo one two (text t ∷ whole n ∷ []) a b p q = one t n a b p q
OfTextAndNumbers-one OfOne OfTwo one two (text t ∷ whole n ∷ whole m ∷ []) a b p q = two t n m a b p q
OfTextAndNumbers-one OfOne OfTwo one two _ a b p q = absurd p

OfMoment-one : (Gives : MomentParts → Outcome → Type 0) → ((m : MomentParts) → AtMostOne (Gives m)) → (values : List Val) → AtMostOne (OfMoment Gives values)
OfMoment-one Gives one (moment m ∷ []) a b p q = one m a b p q
OfMoment-one Gives one _ a b p q = absurd p

OfDate-one : (Gives : Date → Outcome → Type 0) → ((d : Date) → AtMostOne (Gives d)) → (values : List Val) → AtMostOne (OfDate Gives values)
OfDate-one Gives one (date d ∷ []) a b p q = one d a b p q
OfDate-one Gives one (moment m ∷ []) a b p q = one m.civil.date a b p q
OfDate-one Gives one _ a b p q = absurd p

-- ---- what is given

GivesText-one : (characters : List ℕ) → AtMostOne (GivesText characters)
GivesText-one characters a b p q = same_one _ a b p q

module _ (known : OneEach) where
  GivesCount-one : (n : ℤ) → AtMostOne (GivesCount n)
  GivesCount-one n = GivesNumber-one known Int32 n

  place_one : (s t : List ℕ) → AtMostOne (λ o. (n : ℤ) × IsPlaceOf (chars s) (chars t) n × GivesCount n o)
  place_one s t a b p q =
      let same : q.0 ≡ p.0 = known.place (chars s) (chars t) q.0 p.0 q.1 p.1 in
      GivesCount-one p.0 a b p.2 (subst (λ (n : ℤ). GivesCount n b) same q.2)

  trimmed_one : (s : List ℕ) → AtMostOne (λ o. (part : List ℕ) × IsTrimmed (chars s) part × GivesText part o)
  trimmed_one s a b p q =
      let same : q.0 ≡ p.0 = known.trimmed (chars s) q.0 p.0 q.1 p.1 in
      GivesText-one p.0 a b p.2 (subst (λ (part : List ℕ). GivesText part b) same q.2)

  year_one : (d : Date) → AtMostOne (λ o. (n : ℤ) × IsYearOf (epoch_day d) n × GivesCount n o)
  year_one d a b p q =
      let same : q.0 ≡ p.0 = (known.dates (epoch_day d) q.0 p.0 q.1.0 p.1.0 q.1.1 p.1.1 q.1.2 p.1.2).0 in
      GivesCount-one p.0 a b p.2 (subst (λ (n : ℤ). GivesCount n b) same q.2)

  month_one : (d : Date) → AtMostOne (λ o. (n : ℤ) × IsMonthOf (epoch_day d) n × GivesCount n o)
  month_one d a b p q =
      let months : q.1.1 ≡ p.1.1 = (known.dates (epoch_day d) q.1.0 p.1.0 q.1.1 p.1.1 q.1.2 p.1.2 q.1.4 p.1.4).1 in
      let same : q.0 ≡ p.0 = q.1.3 ∙ ap pos months ∙ sym p.1.3 in
      GivesCount-one p.0 a b p.2 (subst (λ (n : ℤ). GivesCount n b) same q.2)

  day_one : (d : Date) → AtMostOne (λ o. (n : ℤ) × IsDayOf (epoch_day d) n × GivesCount n o)
  day_one d a b p q =
      let days : q.1.2 ≡ p.1.2 = (known.dates (epoch_day d) q.1.0 p.1.0 q.1.1 p.1.1 q.1.2 p.1.2 q.1.4 p.1.4).2 in
      let same : q.0 ≡ p.0 = q.1.3 ∙ ap pos days ∙ sym p.1.3 in
      GivesCount-one p.0 a b p.2 (subst (λ (n : ℤ). GivesCount n b) same q.2)

  pub FunctionGives-one : (now : MomentParts) (function : Function) (values : List Val) → AtMostOne (FunctionGives now function values)
  FunctionGives-one now Function.Contains values = OfTexts-one _ (λ s t. GivesTruth-one (HasPart (chars s) (chars t))) values
  FunctionGives-one now Function.StartsWith values = OfTexts-one _ (λ s t. GivesTruth-one (HasStart (chars s) (chars t))) values
  FunctionGives-one now Function.EndsWith values = OfTexts-one _ (λ s t. GivesTruth-one (HasEnd (chars s) (chars t))) values
  FunctionGives-one now Function.Concat values = OfTexts-one _ (λ s t. GivesText-one _) values
  FunctionGives-one now Function.Length values = OfText-one _ (λ s. GivesCount-one (pos (length (chars s)))) values
  FunctionGives-one now Function.IndexOf values = OfTexts-one _ place_one values
  FunctionGives-one now Function.Substring values = OfTextAndNumbers-one _ _ (λ s n. GivesText-one _) (λ s n m. GivesText-one _) values
  FunctionGives-one now Function.Trim values = OfText-one _ trimmed_one values
  FunctionGives-one now Function.ToLower values = OfText-one _ (λ s. GivesText-one _) values
  FunctionGives-one now Function.ToUpper values = OfText-one _ (λ s. GivesText-one _) values
  FunctionGives-one now Function.Year values = OfDate-one _ year_one values
  FunctionGives-one now Function.Month values = OfDate-one _ month_one values
  FunctionGives-one now Function.Day values = OfDate-one _ day_one values
  FunctionGives-one now Function.Hour values = OfMoment-one _ (λ m. GivesCount-one (hour_of m)) values
  FunctionGives-one now Function.Minute values = OfMoment-one _ (λ m. GivesCount-one (minute_of m)) values
  FunctionGives-one now Function.Second values = OfMoment-one _ (λ m. GivesCount-one (second_of m)) values
  FunctionGives-one now Function.TotalOffsetMinutes values = OfMoment-one _ (λ m. GivesCount-one (offset_of m)) values
  FunctionGives-one now Function.Date values = OfMoment-one _ (λ m a b p q. same_one (gives (date (date_of m))) a b p q) values
  FunctionGives-one now Function.Now values = OfNone-one _ (λ a b p q. same_one (gives (moment now)) a b p q) values
