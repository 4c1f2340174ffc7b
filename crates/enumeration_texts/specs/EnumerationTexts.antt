-- Texts of enumerations (OData ABNF 4.01, section 7, `enumValue`), each after the id of its enumeration.
use Rattle.std.specs.Prelude.{◌≡◌, ◌<◌, ℕ, ℤ, List, All, Option, Some}
use Rattle.csdl_schema.specs.EnumerationText.{IsOfUnderlying, IsValueIn}
use Rattle.csdl_schema.specs.SchemaModel.{SchemaModel, slots_of, type_name_at}
use Rattle.json_room.specs.LexemesAt.{IsTextAt}

-- the text stands for a number of the enumeration with that id
abbrev pub IsOfEnumeration : SchemaModel → ℕ → List ℕ → Type 0
IsOfEnumeration schema id text =
    (n : ℤ) × IsValueIn ((slots_of schema).enumerations (type_name_at schema id)) text n
    × IsOfUnderlying ((slots_of schema).enumerations (type_name_at schema id)) n

-- so it is with each of these
abbrev pub AreOfEnumerations : SchemaModel → List (ℕ × List ℕ) → Type 0
AreOfEnumerations schema texts = All (λ known. IsOfEnumeration schema known.0 known.1) texts

-- from one offset to the other stands a text of the enumeration with that id, with its quotes
pub record IsMemberTextAt (schema : SchemaModel) (id : Option ℕ) (line : List ℕ) (from to : ℕ) : Type 0 where
  pub further : from < to
  pub enumeration : ℕ
  pub is_of : id ≡ Some enumeration
  pub text : List ℕ
  pub stands : IsTextAt line from text to
  pub is_one : IsOfEnumeration schema enumeration text
