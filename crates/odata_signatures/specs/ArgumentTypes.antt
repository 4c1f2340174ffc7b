-- What the arguments of a function may be (OData URL Conventions 4.01, section 5.1.1.4).
use Rattle.std.specs.Prelude.{◌≡◌, ◌⊎◌, List, [], ◌∷◌}
use Rattle.edm_values.specs.NumberTypes.{IsNumberType}
use Rattle.edm_values.specs.declared.primitive.PrimitiveType.{PrimitiveType}
use Rattle.csdl_schema.specs.ExprType.{primitive, enumeration, structured}
use Rattle.csdl_schema.specs.ExprType.{ExprType, null_type, single, collection}
use Rattle.odata_signatures.specs.declared.argument_kind.ArgumentKind.{ArgumentKind}

-- the primitive types of each kind of argument
abbrev pub IsArgumentPrimitive : ArgumentKind → PrimitiveType → Type 0
IsArgumentPrimitive ArgumentKind.Text type = type ≡ PrimitiveType.String
IsArgumentPrimitive ArgumentKind.Number type = IsNumberType type
IsArgumentPrimitive ArgumentKind.DateOrMoment type =
    (type ≡ PrimitiveType.Date) ⊎ (type ≡ PrimitiveType.DateTimeOffset)
IsArgumentPrimitive ArgumentKind.Moment type = type ≡ PrimitiveType.DateTimeOffset

-- null is of each kind, and a value of another than a primitive type of none
abbrev pub IsArgumentType : ArgumentKind → ExprType → Type 0
IsArgumentType kind null_type = Unit {0}
IsArgumentType kind (single (primitive type)) = IsArgumentPrimitive kind type
IsArgumentType kind (single (enumeration name)) = ⊥
IsArgumentType kind (single (structured name)) = ⊥
IsArgumentType kind (collection member) = ⊥

-- each argument is of the kind at its index; the last kinds may be left without one
abbrev pub AreArgumentTypes : List ArgumentKind → List ExprType → Type 0
AreArgumentTypes kinds [] = Unit {0}
AreArgumentTypes [] (type ∷ types) = ⊥
AreArgumentTypes (kind ∷ kinds) (type ∷ types) = IsArgumentType kind type × AreArgumentTypes kinds types
