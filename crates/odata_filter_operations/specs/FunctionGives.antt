-- What each function makes of the values of its arguments (OData URL Conventions 4.01, sections 5.1.1.5 to 5.1.1.8).
use Rattle.std.specs.Prelude.{◌≡◌, ◌++◌, ℕ, ℤ, pos, List, length, map, encode_utf8_all}
use Rattle.std.specs.Char.{to_ascii_lowercase, to_ascii_uppercase}
use Rattle.std.specs.Str.{chars}
use Rattle.edm_values.specs.Civil.{epoch_day}
use Rattle.edm_values.specs.Instant.{offset_of}
use Rattle.edm_values.specs.MomentParts.{MomentParts}
use Rattle.edm_values.specs.Val.{Val, text, date, moment}
use Rattle.edm_values.specs.declared.primitive.PrimitiveType.TheVariants.{Int32}
use Rattle.odata_functions.specs.DateParts.{IsDayOf, IsMonthOf, IsYearOf, date_of, hour_of, minute_of, second_of}
use Rattle.odata_functions.specs.Texts.{HasEnd, HasPart, HasStart, IsPlaceOf, IsTrimmed, part_from, rest_from}
use Rattle.odata_signatures.specs.declared.function.Function.{Function}
use Rattle.odata_filter_operations.specs.ArgumentValues.{OfDate, OfMoment, OfNone, OfText, OfTextAndNumbers, OfTexts}
use Rattle.odata_filter_operations.specs.CalculationGives.{GivesNumber}
use Rattle.odata_filter_operations.specs.CompareGives.{GivesTruth}
use Rattle.odata_filter_operations.specs.Outcome.{Outcome, gives}

-- a number as a whole number of type Int32; outside it Overflow
abbrev pub GivesCount : ℤ → Outcome → Type 0
GivesCount = GivesNumber Int32

-- the text of these characters
abbrev pub GivesText : List ℕ → Outcome → Type 0
GivesText characters o = o ≡ gives (text (encode_utf8_all characters))

-- at the moment that `now` stands for
abbrev pub FunctionGives : MomentParts → Function → List Val → Outcome → Type 0
FunctionGives now Function.Contains = OfTexts (λ s t. GivesTruth (HasPart (chars s) (chars t)))
FunctionGives now Function.StartsWith = OfTexts (λ s t. GivesTruth (HasStart (chars s) (chars t)))
FunctionGives now Function.EndsWith = OfTexts (λ s t. GivesTruth (HasEnd (chars s) (chars t)))
FunctionGives now Function.Concat = OfTexts (λ s t. GivesText (chars s ++ chars t))
FunctionGives now Function.Length = OfText (λ s. GivesCount (pos (length (chars s))))
FunctionGives now Function.IndexOf = OfTexts (λ s t o. (n : ℤ) × IsPlaceOf (chars s) (chars t) n × GivesCount n o)
FunctionGives now Function.Substring =
    OfTextAndNumbers (λ s n. GivesText (rest_from n (chars s))) (λ s n m. GivesText (part_from n m (chars s)))
FunctionGives now Function.Trim = OfText (λ s o. (part : List ℕ) × IsTrimmed (chars s) part × GivesText part o)
FunctionGives now Function.ToLower = OfText (λ s. GivesText (map to_ascii_lowercase (chars s)))
FunctionGives now Function.ToUpper = OfText (λ s. GivesText (map to_ascii_uppercase (chars s)))
FunctionGives now Function.Year = OfDate (λ d o. (n : ℤ) × IsYearOf (epoch_day d) n × GivesCount n o)
FunctionGives now Function.Month = OfDate (λ d o. (n : ℤ) × IsMonthOf (epoch_day d) n × GivesCount n o)
FunctionGives now Function.Day = OfDate (λ d o. (n : ℤ) × IsDayOf (epoch_day d) n × GivesCount n o)
FunctionGives now Function.Hour = OfMoment (λ m. GivesCount (hour_of m))
FunctionGives now Function.Minute = OfMoment (λ m. GivesCount (minute_of m))
FunctionGives now Function.Second = OfMoment (λ m. GivesCount (second_of m))
FunctionGives now Function.TotalOffsetMinutes = OfMoment (λ m. GivesCount (offset_of m))
FunctionGives now Function.Date = OfMoment (λ m o. o ≡ gives (date (date_of m)))
FunctionGives now Function.Now = OfNone (λ o. o ≡ gives (moment now))
