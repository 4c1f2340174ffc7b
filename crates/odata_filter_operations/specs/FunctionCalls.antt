-- Which values a function may be applied to.
use Rattle.std.specs.Prelude.{◌≤◌, List, [], ◌∷◌, IsUtf8, length}
use Rattle.edm_values.specs.MomentParts.{IsFourDigitYear, IsMoment}
use Rattle.edm_values.specs.Val.{Val, null, whole, text, date, moment}
use Rattle.odata_signatures.specs.Functions.{row_of}
use Rattle.odata_signatures.specs.declared.argument_kind.ArgumentKind.{ArgumentKind}
use Rattle.odata_signatures.specs.declared.function.Function.{Function}

-- a value of that kind, as the types of that kind have it, or null
abbrev pub IsArgument : ArgumentKind → Val → Type 0
IsArgument kind null = Unit {0}
IsArgument ArgumentKind.Text (text t) = IsUtf8 t
IsArgument ArgumentKind.Number (whole n) = Unit {0}
IsArgument ArgumentKind.DateOrMoment (date d) = IsFourDigitYear d.year
IsArgument ArgumentKind.DateOrMoment (moment m) = IsMoment m.civil m.offset_minutes
IsArgument ArgumentKind.Moment (moment m) = IsMoment m.civil m.offset_minutes
IsArgument kind _ = ⊥

-- each value is of the kind at its index
abbrev pub AreArguments : List ArgumentKind → List Val → Type 0
AreArguments kinds [] = Unit {0}
AreArguments [] (v ∷ values) = ⊥
AreArguments (kind ∷ kinds) (v ∷ values) = IsArgument kind v × AreArguments kinds values

-- the function makes a text that none of its arguments holds
abbrev pub MakesText : Function → Type 0
MakesText Function.Concat = Unit {0}
MakesText Function.ToLower = Unit {0}
MakesText Function.ToUpper = Unit {0}
MakesText function = ⊥

-- the function may be applied to them
pub record Applies (function : Function) (values : List Val) : Type 0 where
  pub enough : (row_of function).least ≤ length values
  pub are : AreArguments (row_of function).arguments values
