-- The type in which numbers are computed (OData URL Conventions 4.01, section 5.1.1.18).
use Rattle.std.specs.Prelude.{Bool, true, false, Option, Some, None, if◌then◌else◌, ◌||◌}
use Rattle.edm_values.specs.declared.primitive.PrimitiveType.{PrimitiveType}
use Rattle.edm_values.specs.declared.primitive.PrimitiveType.TheVariants.{Int16, Int32, Int64}

abbrev pub is_int64 : Option PrimitiveType → Bool
is_int64 (Some Int64) = true
is_int64 _ = false

abbrev pub is_int32 : Option PrimitiveType → Bool
is_int32 (Some Int32) = true
is_int32 _ = false

-- of two operand types: Edm.Int64 if either is that, else Edm.Int32 if either is that, else Edm.Int16
abbrev pub wider_type : Option PrimitiveType → Option PrimitiveType → PrimitiveType
wider_type left right =
    if is_int64 left || is_int64 right then Int64
    else if is_int32 left || is_int32 right then Int32
    else Int16

-- None is the type of null: it counts as Edm.Int16 beside a number, and two of it give it again
abbrev pub promotion : Option PrimitiveType → Option PrimitiveType → Option PrimitiveType
promotion None None = None
promotion None (Some right) = Some (wider_type None (Some right))
promotion (Some left) right = Some (wider_type (Some left) right)

-- a negation is typed as if Edm.Int16 stood on the other side, and that of null has the type of null
abbrev pub negation_type : Option PrimitiveType → Option PrimitiveType
negation_type None = None
negation_type (Some type) = promotion (Some type) (Some Int16)

-- the types in which numbers are computed
abbrev pub IsPromoted : PrimitiveType → Type 0
IsPromoted Int16 = Unit {0}
IsPromoted Int32 = Unit {0}
IsPromoted Int64 = Unit {0}
IsPromoted _ = ⊥
