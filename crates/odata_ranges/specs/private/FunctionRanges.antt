-- What a function evaluates to, of arguments within two ranges (OData URL Conventions 4.01, sections 5.1.1.5 to
-- 5.1.1.8).
use Rattle.std.specs.Prelude.{List, [], ◌∷◌}
use Rattle.std.specs.Str.{IsUtf8}
use Rattle.edm_values.specs.MomentParts.{IsFourDigitYear, IsMoment, MomentParts}
use Rattle.edm_values.specs.Val.{Val, text, date, moment}
use Rattle.odata_filter_operations.specs.FunctionGives.{FunctionGives}
use Rattle.odata_filter_operations.specs.Outcome.{Outcome}
use Rattle.odata_ranges.specs.Within.{IsValueWithin, IsWithin}
use Rattle.odata_ranges.specs.declared.range.Range.{Range}
use Rattle.odata_signatures.specs.declared.function.Function.{Function}

-- a text in UTF-8, a date or a moment that a literal can spell; any other value
abbrev pub IsSpellable : Val → Type 0
IsSpellable (text s) = IsUtf8 s
IsSpellable (date d) = IsFourDigitYear d.year
IsSpellable (moment m) = IsMoment m.civil m.offset_minutes
IsSpellable _ = Unit {0}

abbrev pub IsArgumentWithin : Range → Val → Type 0
IsArgumentWithin range v = IsSpellable v × IsValueWithin range v

-- the first argument lies within the first range, the second one within the second
abbrev pub AreWithin : Range → Range → List Val → Type 0
AreWithin first second [] = Unit {0}
AreWithin first second (v ∷ []) = IsArgumentWithin first v
AreWithin first second (v ∷ w ∷ more) = IsArgumentWithin first v × IsArgumentWithin second w

-- what the function makes of such arguments lies within a third
abbrev pub CalledWithin : Function → Range → Range → Range → Type 0
CalledWithin function first second result =
    (now : MomentParts) (values : List Val) (o : Outcome) → AreWithin first second values
    → FunctionGives now function values o → IsWithin result o
