-- The functions that a filter may call (OData URL Conventions 4.01, sections 5.1.1.5 to 5.1.1.8).
use Rattle.std.specs.Prelude.{◌≡◌, ℕ, List, [], ◌∷◌, codes}
use Rattle.edm_values.specs.declared.primitive.PrimitiveType.{PrimitiveType}
use Rattle.odata_signatures.specs.declared.argument_kind.ArgumentKind.{ArgumentKind}
use Rattle.odata_signatures.specs.declared.argument_kind.ArgumentKind.TheVariants.{Text, Number, DateOrMoment, Moment}
use Rattle.odata_signatures.specs.declared.function.Function.{Function}
use Rattle.odata_signatures.specs.declared.function.Signature.{Signature}

-- a function's name, what it takes, how many of these have to be given, and the type of what it gives
pub record FunctionRow : Type 0 where
  pub name : List ℕ
  pub arguments : List ArgumentKind
  pub least : ℕ
  pub gives : PrimitiveType

abbrev pub row : List ℕ → List ArgumentKind → ℕ → PrimitiveType → FunctionRow
row name arguments least gives = record { name = name; arguments = arguments; least = least; gives = gives }

-- the table
abbrev pub row_of : Function → FunctionRow
row_of Function.Contains = row (codes "contains") (Text ∷ Text ∷ []) 2 PrimitiveType.Bool
row_of Function.StartsWith = row (codes "startswith") (Text ∷ Text ∷ []) 2 PrimitiveType.Bool
row_of Function.EndsWith = row (codes "endswith") (Text ∷ Text ∷ []) 2 PrimitiveType.Bool
row_of Function.Concat = row (codes "concat") (Text ∷ Text ∷ []) 2 PrimitiveType.String
row_of Function.Length = row (codes "length") (Text ∷ []) 1 PrimitiveType.Int32
row_of Function.IndexOf = row (codes "indexof") (Text ∷ Text ∷ []) 2 PrimitiveType.Int32
row_of Function.Substring = row (codes "substring") (Text ∷ Number ∷ Number ∷ []) 2 PrimitiveType.String
row_of Function.Trim = row (codes "trim") (Text ∷ []) 1 PrimitiveType.String
row_of Function.ToLower = row (codes "tolower") (Text ∷ []) 1 PrimitiveType.String
row_of Function.ToUpper = row (codes "toupper") (Text ∷ []) 1 PrimitiveType.String
row_of Function.Year = row (codes "year") (DateOrMoment ∷ []) 1 PrimitiveType.Int32
row_of Function.Month = row (codes "month") (DateOrMoment ∷ []) 1 PrimitiveType.Int32
row_of Function.Day = row (codes "day") (DateOrMoment ∷ []) 1 PrimitiveType.Int32
row_of Function.Hour = row (codes "hour") (Moment ∷ []) 1 PrimitiveType.Int32
row_of Function.Minute = row (codes "minute") (Moment ∷ []) 1 PrimitiveType.Int32
row_of Function.Second = row (codes "second") (Moment ∷ []) 1 PrimitiveType.Int32
row_of Function.TotalOffsetMinutes = row (codes "totaloffsetminutes") (Moment ∷ []) 1 PrimitiveType.Int32
row_of Function.Date = row (codes "date") (Moment ∷ []) 1 PrimitiveType.Date
row_of Function.Now = row (codes "now") [] 0 PrimitiveType.DateTimeOffset

-- what the code stores of a row
pub record IsRow (signature : Signature) (row : FunctionRow) : Type 0 where
  pub name : signature.name.now ≡ row.name
  pub arguments : signature.arguments.now ≡ row.arguments
  pub least : signature.least ≡ row.least
  pub gives : signature.gives ≡ row.gives

-- the text, in lower case, names the function
abbrev pub IsNamed : Function → List ℕ → Type 0
IsNamed function text = (row_of function).name ≡ text
