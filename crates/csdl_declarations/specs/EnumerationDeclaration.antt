-- Enumeration types as they are declared, and what may be wrong with one (CSDL JSON 4.01, section 10).
use Rattle.std.specs.Prelude.{ℕ, ◌^◌, ℤ, pos, negsuc, ◌++◌, ◌&&◌, List, Bool, Option, Some, None, is_some, unwrap_or, option_and_then, if◌then◌else◌, codes, map, nat_eq, nat_lt, chars}
use Rattle.std.specs.List.{flat_map}
use Rattle.std.specs.Cmp.Lexicographic.{pointwise}
use Rattle.serde_json.specs.Data.{Data}
use Rattle.serde_json.specs.Find.{get, as_str, as_number, as_integer}
use Rattle.edm_values.specs.declared.primitive.PrimitiveType.{PrimitiveType}
use Rattle.edm_values.specs.declared.primitive.PrimitiveType.TheVariants as prim
use Rattle.odata_text.specs.Identifier.{is_identifier}
use Rattle.edm_enumerations.specs.EnumerationModel.{EnumerationModel, MemberModel}
use Rattle.csdl_declarations.specs.Fault.{Fault, bad_type, bad_enum_member, unless}
use Rattle.csdl_declarations.specs.Members.{declared_in, is_truth_if_given, is_true_at}

-- ---- numbers

-- how many numbers of a number type are 0 or above (section 3.3)
abbrev pub count_from_zero : PrimitiveType → ℕ
count_from_zero prim.Byte = 2 ^ 8
count_from_zero prim.SByte = 2 ^ 7
count_from_zero prim.Int16 = 2 ^ 15
count_from_zero prim.Int32 = 2 ^ 31
count_from_zero prim.Int64 = 2 ^ 63
count_from_zero _ = 0

-- and how many are below 0: none of Edm.Byte, as many of the others
abbrev pub count_below_zero : PrimitiveType → ℕ
count_below_zero prim.Byte = 0
count_below_zero type = count_from_zero type

-- whether a whole number is of a type
abbrev pub is_number_of : PrimitiveType → ℤ → Bool
is_number_of type (pos n) = nat_lt n (count_from_zero type)
is_number_of type (negsuc n) = nat_lt n (count_below_zero type)

abbrev pub if_of_type : PrimitiveType → Option ℤ → Option ℤ
if_of_type type None = None
if_of_type type (Some n) = if is_number_of type n then Some n else None

-- the whole number of the type that a JSON value is, if it is one
abbrev pub number_of : PrimitiveType → Data → Option ℤ
number_of type d = if_of_type type (option_and_then as_integer (as_number d))

-- ---- the type of the numbers (section 10.1)

-- the number types by their names
abbrev pub number_type_named : List ℕ → Option PrimitiveType
number_type_named name =
    if pointwise nat_eq name (codes "Edm.Byte") then Some prim.Byte
    else (if pointwise nat_eq name (codes "Edm.SByte") then Some prim.SByte
    else (if pointwise nat_eq name (codes "Edm.Int16") then Some prim.Int16
    else (if pointwise nat_eq name (codes "Edm.Int32") then Some prim.Int32
    else (if pointwise nat_eq name (codes "Edm.Int64") then Some prim.Int64
    else None))))

-- the type that `$UnderlyingType` names; Edm.Int32 where it is left out
abbrev pub underlying_if_given : Option Data → Option PrimitiveType
underlying_if_given None = Some prim.Int32
underlying_if_given (Some d) = option_and_then number_type_named (as_str d)

abbrev pub underlying_at : Data → Option PrimitiveType
underlying_at d = underlying_if_given (get (codes "$UnderlyingType") d)

-- the same; where it names none, which is a fault, Edm.Int32
abbrev pub underlying_of : Data → PrimitiveType
underlying_of d = unwrap_or (underlying_at d) prim.Int32

-- ---- enumerations

-- the number of a member, whose name is an identifier and whose value a whole number of the type (section 10.3)
abbrev pub member_number : PrimitiveType → List ℕ × Data → Option ℤ
member_number type m = if is_identifier (chars m.0) then number_of type m.1 else None

-- a member with its number; without one, which is a fault, with 0
abbrev pub declared_member : PrimitiveType → List ℕ × Data → MemberModel
declared_member type m = record { name = m.0; number = unwrap_or (member_number type m) (pos 0) }

-- members in the byte order of their names
abbrev pub declared_enumeration : Data → EnumerationModel
declared_enumeration d = record {
  underlying = underlying_of d;
  is_flags = is_true_at (codes "$IsFlags") d;
  members = map (declared_member (underlying_of d)) (declared_in d);
}

-- ---- faults

-- a number type, and a truth value for flags (section 10.2)
abbrev pub is_enumeration_object : Data → Bool
is_enumeration_object d = is_some (underlying_at d) && is_truth_if_given (get (codes "$IsFlags") d)

abbrev pub member_faults : List ℕ → PrimitiveType → List ℕ × Data → List Fault
member_faults owner type m = unless (is_some (member_number type m)) (bad_enum_member owner m.0)

-- an enumeration's own shape, then its members in the byte order of their names
abbrev pub enumeration_faults : List ℕ → Data → List Fault
enumeration_faults owner d =
    unless (is_enumeration_object d) (bad_type owner) ++ flat_map (member_faults owner (underlying_of d))
    (declared_in d)
