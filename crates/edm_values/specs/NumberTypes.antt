-- The number types, the range of each, and the type of a literal (CSDL JSON 4.01, section 3.3; OData JSON Format 4.01,
-- section 7.1).
use Rattle.std.specs.Prelude.{◌≡◌, ◌⊎◌, ℤ, pos, ◌≤ℤ◌, FitsSigned}
use Rattle.std.specs.Int.{w8, w16, w32, w64}
use Rattle.edm_values.specs.declared.primitive.PrimitiveType.{PrimitiveType}
use Rattle.edm_values.specs.declared.primitive.PrimitiveType.TheVariants.{Byte, SByte, Int16, Int32, Int64}

-- the types whose values are whole numbers
abbrev pub IsNumberType : PrimitiveType → Type 0
IsNumberType Byte = Unit {0}
IsNumberType SByte = Unit {0}
IsNumberType Int16 = Unit {0}
IsNumberType Int32 = Unit {0}
IsNumberType Int64 = Unit {0}
IsNumberType _ = ⊥

-- a whole number within that type; no number is of a type that is none of numbers
abbrev pub IsNumberOf : PrimitiveType → ℤ → Type 0
IsNumberOf Byte n = (pos 0 ≤ℤ n) × (n ≤ℤ pos 255)
IsNumberOf SByte n = FitsSigned w8 n
IsNumberOf Int16 n = FitsSigned w16 n
IsNumberOf Int32 n = FitsSigned w32 n
IsNumberOf Int64 n = FitsSigned w64 n
IsNumberOf _ n = ⊥

-- the type of a whole number that is written as a literal: Edm.Int32 where it lies within that, else Edm.Int64
abbrev pub IsIntLiteralType : ℤ → PrimitiveType → Type 0
IsIntLiteralType n type = (IsNumberOf Int32 n × (type ≡ Int32)) ⊎ ((¬ (IsNumberOf Int32 n)) × (type ≡ Int64))
