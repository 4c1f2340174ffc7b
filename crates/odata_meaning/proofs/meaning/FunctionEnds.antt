-- A function has an outcome on arguments of its kinds none of which is null.
use Rattle.std.proofs.Common.{◌≡◌, ◌≤◌, ℕ, ℤ, List, [], ◌∷◌, Bool, true, false, IsTrue, ◌++◌, length, map, refl, sym, subst}
use Rattle.std.specs.Prelude.{◌↔◌, pos, encode_utf8_all}
use Rattle.std.proofs.Math.Utf8.{scalars}
use Rattle.std.proofs.lemmas.Str.{scalars-chars}
use Rattle.std.specs.Char.{to_ascii_lowercase, to_ascii_uppercase}
use Rattle.std.specs.Str.{IsUtf8, chars}
use Rattle.edm_values.specs.Civil.{Date, epoch_day}
use Rattle.edm_values.specs.Instant.{offset_of}
use Rattle.edm_values.specs.MomentParts.{IsMoment, MomentParts}
use Rattle.edm_values.specs.Val.{Val, boolean, whole, text, date, moment}
use Rattle.edm_values.specs.declared.primitive.PrimitiveType.{PrimitiveType}
use Rattle.csdl_schema.specs.ExprType.{ExprType, single, primitive}
use Rattle.csdl_schema.specs.SchemaModel.{Slots}
use Rattle.odata_functions.specs.DateParts.{IsDayOf, IsMonthOf, IsYearOf, date_of, hour_of, minute_of, second_of}
use Rattle.odata_functions.specs.Texts.{HasEnd, HasPart, HasStart, IsPlaceOf, IsTrimmed, from_zero, part_from, rest_from}
use Rattle.odata_signatures.specs.Functions.{row_of}
use Rattle.odata_signatures.specs.declared.argument_kind.ArgumentKind.TheVariants.{Text, Number, DateOrMoment, Moment}
use Rattle.odata_signatures.specs.declared.function.Function.{Function}
use Rattle.odata_filter_operations.specs.ArgumentValues.{OfDate, OfMoment, OfText, OfTextAndNumbers, OfTexts}
use Rattle.odata_filter_operations.specs.CallGives.{has_null}
use Rattle.odata_filter_operations.specs.CompareGives.{GivesTruth}
use Rattle.odata_filter_operations.specs.FunctionGives.{FunctionGives, GivesCount, GivesText}
use Rattle.odata_filter_operations.specs.Outcome.{Outcome, gives}
use Rattle.odata_filter_operations.specs.FunctionCalls.{Applies, AreArguments}
use Rattle.odata_meaning.proofs.meaning.ArgumentForms.{IsDated, IsPartAsked, one_dated, one_moment, one_text, part_asked, two_texts}
use Rattle.odata_meaning.proofs.meaning.Ends.{Ends}
use Rattle.odata_meaning.specs.private.LawsBelow.{SomeEach}
use Rattle.odata_meaning.proofs.meaning.MadeTexts.{dropped_characters, inner_characters, joined_characters, lower_characters, made_text, taken_characters, upper_characters}
use Rattle.odata_meaning.proofs.meaning.NumberComes.{number_given}
use Rattle.odata_meaning.proofs.meaning.TypeValues.{date_has, moment_has, text_has, truth_has}

module _ (slots : Slots) (type : ExprType) where
  -- ---- arguments by their kinds

  text_ends : (Gives : List ℕ → Outcome → Type 0) → ((t : List ℕ) → IsUtf8 t → Ends slots type (Gives t)) → (values : List Val)
      → 1 ≤ length values → AreArguments (Text ∷ []) values → has_null values ≡ false → Ends slots type (OfText Gives values)
  text_ends Gives ends values enough are full =
      let form = one_text values enough are full in
      let there = subst (AreArguments (Text ∷ [])) form.1 are in
      subst (λ (vs : List Val). Ends slots type (OfText Gives vs)) (sym form.1) (ends form.0 there.0)

  texts_end : (Gives : List ℕ → List ℕ → Outcome → Type 0) → ((s t : List ℕ) → IsUtf8 s → IsUtf8 t → Ends slots type (Gives s t)) → (values : List Val)
      → 2 ≤ length values → AreArguments (Text ∷ Text ∷ []) values → has_null values ≡ false → Ends slots type (OfTexts Gives values)
  texts_end Gives ends values enough are full =
      let form = two_texts values enough are full in
      let there = subst (AreArguments (Text ∷ Text ∷ [])) form.2 are in
      subst (λ (vs : List Val). Ends slots type (OfTexts Gives vs)) (sym form.2) (ends form.0 form.1 there.0 there.1.0)

  moment_ends : (Gives : MomentParts → Outcome → Type 0) → ((m : MomentParts) → IsMoment m.civil m.offset_minutes → Ends slots type (Gives m)) → (values : List Val)
      → 1 ≤ length values → AreArguments (Moment ∷ []) values → has_null values ≡ false → Ends slots type (OfMoment Gives values)
  moment_ends Gives ends values enough are full =
      let form = one_moment values enough are full in
      let there = subst (AreArguments (Moment ∷ [])) form.1 are in
      subst (λ (vs : List Val). Ends slots type (OfMoment Gives vs)) (sym form.1) (ends form.0 there.0)

  dated_ends : (Gives : Date → Outcome → Type 0) → ((d : Date) → Ends slots type (Gives d)) → (v : Val) → IsDated v → Ends slots type (OfDate Gives (v ∷ []))
  dated_ends Gives ends (date d) is = ends d
  dated_ends Gives ends (moment m) is = ends m.civil.date
  dated_ends Gives ends _ is = absurd is

  date_ends : (Gives : Date → Outcome → Type 0) → ((d : Date) → Ends slots type (Gives d)) → (values : List Val)
      → 1 ≤ length values → AreArguments (DateOrMoment ∷ []) values → has_null values ≡ false → Ends slots type (OfDate Gives values)
  date_ends Gives ends values enough are full =
      let form = one_dated values enough are full in
      subst (λ (vs : List Val). Ends slots type (OfDate Gives vs)) (sym form.2) (dated_ends Gives ends form.0 form.1)

  asked_ends : (OfOne : List ℕ → ℤ → Outcome → Type 0) (OfTwo : List ℕ → ℤ → ℤ → Outcome → Type 0) → ((t : List ℕ) (n : ℤ) → IsUtf8 t → Ends slots type (OfOne t n))
      → ((t : List ℕ) (n m : ℤ) → IsUtf8 t → Ends slots type (OfTwo t n m)) → (values : List Val) → IsPartAsked values → AreArguments (Text ∷ Number ∷ Number ∷ []) values
      → Ends slots type (OfTextAndNumbers OfOne OfTwo values)
  asked_ends OfOne OfTwo one two (text t ∷ whole n ∷ []) is are = one t n are.0
  asked_ends OfOne OfTwo one two (text t ∷ whole n ∷ whole m ∷ []) is are = two t n m are.0
  asked_ends OfOne OfTwo one two _ is are = absurd is

-- ---- what is given

pub truth_given : (slots : Slots) (Fact : Type 0) → (answer : Bool) × (IsTrue answer ↔ Fact) → Ends slots (single (primitive PrimitiveType.Bool)) (GivesTruth Fact)
truth_given slots Fact decided = (gives (boolean decided.0), (decided.1, truth_has slots decided.0))

text_given : (slots : Slots) (characters : List ℕ) → scalars characters ≡ true → Ends slots (single (primitive PrimitiveType.String)) (GivesText characters)
text_given slots characters are = (gives (text (encode_utf8_all characters)), (refl, text_has slots (encode_utf8_all characters) (made_text characters are)))

module _ (some : SomeEach) (slots : Slots) where
  count_given : (n : ℤ) → Ends slots (single (primitive PrimitiveType.Int32)) (GivesCount n)
  count_given n = number_given some slots PrimitiveType.Int32 tt n

  place_given : (s t : List ℕ) → Ends slots (single (primitive PrimitiveType.Int32)) (λ o. (n : ℤ) × IsPlaceOf (chars s) (chars t) n × GivesCount n o)
  place_given s t =
      let place = some.place (chars s) (chars t) in
      let ends = count_given place.0 in
      (ends.0, ((place.0, place.1, ends.1.0), ends.1.1))

  trimmed_given : (s : List ℕ) → IsUtf8 s → Ends slots (single (primitive PrimitiveType.String)) (λ o. (part : List ℕ) × IsTrimmed (chars s) part × GivesText part o)
  trimmed_given s of_s =
      let trimmed = some.trimmed (chars s) in
      let ends = text_given slots trimmed.0 (inner_characters (chars s) trimmed.1.before trimmed.0 trimmed.1.behind trimmed.1.split (scalars-chars s of_s)) in
      (ends.0, ((trimmed.0, trimmed.1, ends.1.0), ends.1.1))

  year_given : (d : Date) → Ends slots (single (primitive PrimitiveType.Int32)) (λ o. (n : ℤ) × IsYearOf (epoch_day d) n × GivesCount n o)
  year_given d = let ends = count_given d.year in (ends.0, ((d.year, (d.month, d.day, some.dates d), ends.1.0), ends.1.1))

  month_given : (d : Date) → Ends slots (single (primitive PrimitiveType.Int32)) (λ o. (n : ℤ) × IsMonthOf (epoch_day d) n × GivesCount n o)
  month_given d = let ends = count_given (pos d.month) in (ends.0, ((pos d.month, (d.year, d.month, d.day, refl, some.dates d), ends.1.0), ends.1.1))

  day_given : (d : Date) → Ends slots (single (primitive PrimitiveType.Int32)) (λ o. (n : ℤ) × IsDayOf (epoch_day d) n × GivesCount n o)
  day_given d = let ends = count_given (pos d.day) in (ends.0, ((pos d.day, (d.year, d.month, d.day, refl, some.dates d), ends.1.0), ends.1.1))

  pub function_ends : (now : MomentParts) → IsMoment now.civil now.offset_minutes → (function : Function) (values : List Val) → has_null values ≡ false → Applies function values
      → Ends slots (single (primitive (row_of function).gives)) (FunctionGives now function values)
  function_ends now is_moment Function.Contains values full applies =
      texts_end slots _ _ (λ s t of_s of_t. truth_given slots (HasPart (chars s) (chars t)) (some.part (chars s) (chars t))) values applies.enough applies.are full
  function_ends now is_moment Function.StartsWith values full applies =
      texts_end slots _ _ (λ s t of_s of_t. truth_given slots (HasStart (chars s) (chars t)) (some.start (chars s) (chars t))) values applies.enough applies.are full
  function_ends now is_moment Function.EndsWith values full applies =
      texts_end slots _ _ (λ s t of_s of_t. truth_given slots (HasEnd (chars s) (chars t)) (some.end (chars s) (chars t))) values applies.enough applies.are full
  function_ends now is_moment Function.Concat values full applies = texts_end slots _ _ (λ s t of_s of_t. text_given slots (chars s ++ chars t) (joined_characters (chars s) (chars t) (scalars-chars s of_s) (scalars-chars t of_t))) values applies.enough applies.are full
  function_ends now is_moment Function.Length values full applies = text_ends slots _ _ (λ s of_s. count_given (pos (length (chars s)))) values applies.enough applies.are full
  function_ends now is_moment Function.IndexOf values full applies = texts_end slots _ _ (λ s t of_s of_t. place_given s t) values applies.enough applies.are full
  function_ends now is_moment Function.Substring values full applies =
      asked_ends slots _ _ _
      (λ s n of_s. text_given slots (rest_from n (chars s)) (dropped_characters (from_zero n) (chars s) (scalars-chars s of_s)))
      (λ s n m of_s. text_given slots (part_from n m (chars s))
      (taken_characters (from_zero m) (rest_from n (chars s)) (dropped_characters (from_zero n) (chars s) (scalars-chars s of_s))))
      values (part_asked values applies.enough applies.are full) applies.are
  function_ends now is_moment Function.Trim values full applies = text_ends slots _ _ trimmed_given values applies.enough applies.are full
  function_ends now is_moment Function.ToLower values full applies =
      text_ends slots _ _ (λ s of_s. text_given slots (map to_ascii_lowercase (chars s)) (lower_characters (chars s) (scalars-chars s of_s))) values applies.enough applies.are full
  function_ends now is_moment Function.ToUpper values full applies =
      text_ends slots _ _ (λ s of_s. text_given slots (map to_ascii_uppercase (chars s)) (upper_characters (chars s) (scalars-chars s of_s))) values applies.enough applies.are full
  function_ends now is_moment Function.Year values full applies = date_ends slots _ _ year_given values applies.enough applies.are full
  function_ends now is_moment Function.Month values full applies = date_ends slots _ _ month_given values applies.enough applies.are full
  function_ends now is_moment Function.Day values full applies = date_ends slots _ _ day_given values applies.enough applies.are full
  function_ends now is_moment Function.Hour values full applies = moment_ends slots _ _ (λ m is. count_given (hour_of m)) values applies.enough applies.are full
  function_ends now is_moment Function.Minute values full applies = moment_ends slots _ _ (λ m is. count_given (minute_of m)) values applies.enough applies.are full
  function_ends now is_moment Function.Second values full applies = moment_ends slots _ _ (λ m is. count_given (second_of m)) values applies.enough applies.are full
  function_ends now is_moment Function.TotalOffsetMinutes values full applies = moment_ends slots _ _ (λ m is. count_given (offset_of m)) values applies.enough applies.are full
  function_ends now is_moment Function.Date values full applies = moment_ends slots _ _ (λ m is. (gives (date (date_of m)), (refl, date_has slots (date_of m) is.0))) values applies.enough applies.are full
  function_ends now is_moment Function.Now [] full applies = (gives (moment now), (refl, moment_has slots now is_moment))
  function_ends now is_moment Function.Now (v ∷ more) full applies = absurd applies.are
