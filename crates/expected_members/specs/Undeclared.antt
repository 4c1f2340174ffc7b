-- Names that no property of a type has, as members of open types have (CSDL JSON 4.01, section 6.3).
use Rattle.std.specs.Prelude.{◌≡◌, ◌<◌, ℕ, List, All, None}
use Rattle.csdl_schema.specs.SchemaModel.{PropertyModel, SchemaModel, properties_at, slot_named}
use Rattle.json_room.specs.LexemesAt.{BeginsKey}

-- the type of that id has no property of that name
abbrev pub HasNoProperty : SchemaModel → ℕ × List ℕ → Type 0
HasNoProperty schema named = slot_named (properties_at schema named.0) named.1 ≡ None

-- so it is with each of these
abbrev pub AreUndeclared : SchemaModel → List (ℕ × List ℕ) → Type 0
AreUndeclared schema names = All (HasNoProperty schema) names

-- from one offset to the other stands the name of none of these properties, with its colon
abbrev pub NamesNoProperty : List ℕ → List PropertyModel → ℕ → ℕ → Type 0
NamesNoProperty text properties from to =
    (name : List ℕ) × BeginsKey text from name to × (from < to) × (slot_named properties name ≡ None)
