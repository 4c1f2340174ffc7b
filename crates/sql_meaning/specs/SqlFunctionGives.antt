-- What the functions make of values that are not null: what the filter's functions make of them (OData URL Conventions
-- 4.01, sections 5.1.1.5 to 5.1.1.8). A count of characters is not bound to a type.
use Rattle.std.specs.Prelude.{◌≡◌, ℤ, pos, length, List, [], ◌∷◌}
use Rattle.std.specs.Str.{chars}
use Rattle.edm_values.specs.Instant.{instant}
use Rattle.edm_values.specs.MomentParts.{MomentParts}
use Rattle.edm_values.specs.Val.{Val, whole, date, moment}
use Rattle.odata_functions.specs.Texts.{IsPlaceOf}
use Rattle.odata_signatures.specs.declared.function.Function.{Function}
use Rattle.odata_filter_operations.specs.ArgumentValues.{OfMoment, OfText, OfTexts}
use Rattle.odata_filter_operations.specs.CallGives.{UnlessNull, has_null}
use Rattle.odata_filter_operations.specs.FunctionGives.{FunctionGives}
use Rattle.odata_filter_operations.specs.Outcome.{Outcome, gives}
use Rattle.sql_tree.specs.declared.sql_node.SqlFunction.{SqlFunction}

-- the filter's function of that meaning
abbrev pub function_of : SqlFunction → Function
function_of SqlFunction.Contains = Function.Contains
function_of SqlFunction.StartsWith = Function.StartsWith
function_of SqlFunction.EndsWith = Function.EndsWith
function_of SqlFunction.Concat = Function.Concat
function_of SqlFunction.Length = Function.Length
function_of SqlFunction.IndexOf = Function.IndexOf
function_of SqlFunction.RestFrom = Function.Substring
function_of SqlFunction.PartFrom = Function.Substring
function_of SqlFunction.Trim = Function.Trim
function_of SqlFunction.ToLower = Function.ToLower
function_of SqlFunction.ToUpper = Function.ToUpper
function_of SqlFunction.YearOfDate = Function.Year
function_of SqlFunction.MonthOfDate = Function.Month
function_of SqlFunction.DayOfDate = Function.Day
function_of SqlFunction.YearOfMoment = Function.Year
function_of SqlFunction.MonthOfMoment = Function.Month
function_of SqlFunction.DayOfMoment = Function.Day
function_of SqlFunction.Hour = Function.Hour
function_of SqlFunction.Minute = Function.Minute
function_of SqlFunction.Second = Function.Second
function_of SqlFunction.OffsetMinutes = Function.TotalOffsetMinutes
function_of SqlFunction.DateOfMoment = Function.Date
function_of SqlFunction.Instant = Function.Now

-- a date alone, or a moment alone: an engine stores them differently, so each has functions of its own
abbrev pub OfDateAlone : (List Val → Outcome → Type 0) → List Val → Outcome → Type 0
OfDateAlone Goes (date d ∷ []) o = Goes (date d ∷ []) o
OfDateAlone Goes values o = ⊥

abbrev pub OfMomentAlone : (List Val → Outcome → Type 0) → List Val → Outcome → Type 0
OfMomentAlone Goes (moment m ∷ []) o = Goes (moment m ∷ []) o
OfMomentAlone Goes values o = ⊥

-- of values that are not null
abbrev pub OfGiven : MomentParts → SqlFunction → List Val → Outcome → Type 0
OfGiven now SqlFunction.Instant = OfMoment (λ m o. o ≡ gives (whole (instant m)))
OfGiven now SqlFunction.Length = OfText (λ s o. o ≡ gives (whole (pos (length (chars s)))))
OfGiven now SqlFunction.IndexOf = OfTexts (λ s t o. (n : ℤ) × IsPlaceOf (chars s) (chars t) n × (o ≡ gives (whole n)))
OfGiven now SqlFunction.YearOfDate = OfDateAlone (FunctionGives now Function.Year)
OfGiven now SqlFunction.MonthOfDate = OfDateAlone (FunctionGives now Function.Month)
OfGiven now SqlFunction.DayOfDate = OfDateAlone (FunctionGives now Function.Day)
OfGiven now SqlFunction.YearOfMoment = OfMomentAlone (FunctionGives now Function.Year)
OfGiven now SqlFunction.MonthOfMoment = OfMomentAlone (FunctionGives now Function.Month)
OfGiven now SqlFunction.DayOfMoment = OfMomentAlone (FunctionGives now Function.Day)
OfGiven now function = FunctionGives now (function_of function)

-- null where one is null
abbrev pub SqlFunctionGives : MomentParts → SqlFunction → List Val → Outcome → Type 0
SqlFunctionGives now function values = UnlessNull (has_null values) (OfGiven now function values)
