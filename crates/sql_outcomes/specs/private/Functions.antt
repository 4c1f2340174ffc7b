-- Functions by what they make, and what is known of numbers and of the first argument.
use Rattle.std.specs.Prelude.{ℤ, Option, Some, None, FitsSigned, List, ◌∷◌}
use Rattle.std.specs.Int.{w64}
use Rattle.edm_values.specs.Val.{Val, null}
use Rattle.odata_ranges.specs.Within.{IsValueWithin}
use Rattle.odata_ranges.specs.declared.range.Range.{Range}
use Rattle.odata_signatures.specs.declared.function.Function.{Function}
use Rattle.sql_draft.specs.declared.sql_operand.Operand.{Operand}

-- null, which may stand instead of a fault, or a value within the range
abbrev pub IsLooselyWithin : Range → Val → Type 0
IsLooselyWithin range null = Unit {0}
IsLooselyWithin range v = IsValueWithin range v

abbrev pub IsFirstWithin : List Operand → List Val → Type 0
IsFirstWithin (operand ∷ operands) (v ∷ values) = IsLooselyWithin operand.range v
IsFirstWithin operands values = Unit {0}

-- a function whose result a carrier can carry: a text, or a count of characters
abbrev pub IsCarriedFunction : Function → Type 0
IsCarriedFunction Function.Concat = Unit {0}
IsCarriedFunction Function.Substring = Unit {0}
IsCarriedFunction Function.Trim = Unit {0}
IsCarriedFunction Function.ToLower = Unit {0}
IsCarriedFunction Function.ToUpper = Unit {0}
IsCarriedFunction Function.Length = Unit {0}
IsCarriedFunction Function.IndexOf = Unit {0}
IsCarriedFunction function = ⊥

-- one of a date or of a moment
abbrev pub IsTimeFunction : Function → Type 0
IsTimeFunction Function.Year = Unit {0}
IsTimeFunction Function.Month = Unit {0}
IsTimeFunction Function.Day = Unit {0}
IsTimeFunction Function.Hour = Unit {0}
IsTimeFunction Function.Minute = Unit {0}
IsTimeFunction Function.Second = Unit {0}
IsTimeFunction Function.TotalOffsetMinutes = Unit {0}
IsTimeFunction Function.Date = Unit {0}
IsTimeFunction Function.Now = Unit {0}
IsTimeFunction function = ⊥

-- a function that makes a count of characters
abbrev pub IsCounting : Function → Type 0
IsCounting Function.Length = Unit {0}
IsCounting Function.IndexOf = Unit {0}
IsCounting function = ⊥

-- ---- of two that are no faults

abbrev pub IsFitted : Option ℤ → Type 0
IsFitted None = Unit {0}
IsFitted (Some n) = FitsSigned w64 n
