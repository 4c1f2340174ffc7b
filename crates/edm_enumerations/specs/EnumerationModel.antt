-- Enumeration types (CSDL JSON 4.01, section 10).
use Rattle.std.specs.Prelude.{ℕ, ℤ, List, [], ◌∷◌, ◌++◌, Bool, Option, Some, None, is_some, if◌then◌else◌, nat_eq}
use Rattle.std.specs.Cmp.Lexicographic.{pointwise}
use Rattle.edm_values.specs.declared.primitive.PrimitiveType.{PrimitiveType}

-- a member, with its number; two members may have one number
pub record MemberModel : Type 0 where
  pub name : List ℕ
  pub number : ℤ

abbrev pub member_of : List ℕ → ℤ → MemberModel
member_of name number = record { name = name; number = number }

-- an enumeration: the type of its numbers, whether it is one of flags, and its members, which are found by name
pub record EnumerationModel : Type 0 where
  pub underlying : PrimitiveType
  pub is_flags : Bool
  pub members : List MemberModel

-- the number of the first member of the asked name
abbrev pub number_in : List MemberModel → List ℕ → Option ℤ
number_in [] asked = None
number_in (m ∷ ms) asked = if pointwise nat_eq asked m.name then Some m.number else number_in ms asked

-- a further member after the others, if there is none of its name yet
abbrev pub with_member : EnumerationModel → List ℕ → ℤ → EnumerationModel
with_member e name number =
    if is_some (number_in e.members name) then e
    else record e { members = e.members ++ record { name = name; number = number } ∷ [] }
