-- What a schema says, apart from how it is stored (CSDL JSON 4.01).
use Rattle.std.specs.Prelude.{◌≡◌, ◌≢◌, ◌++◌, [], ◌∷◌, ◌||◌, ℕ, zero, suc, List, Bool, true, false, Option, Some, None, IsTrue, if◌then◌else◌, nat_eq, map, length, position, slice_get, option_map, option_and_then}
use Rattle.std.specs.Ordering.{nat_cmp}
use Rattle.std.specs.Cmp.Lexicographic.{pointwise, slice_cmp}
use Rattle.std.specs.List.{AllByRecursion}
use Rattle.std.specs.List.Sorted.{IsStrictlySortedBy}
use Rattle.edm_values.specs.declared.primitive.PrimitiveType.{PrimitiveType}
use Rattle.edm_enumerations.specs.EnumerationModel.{EnumerationModel}
use Rattle.csdl_schema.specs.ExprType.{ExprType, SingleType, single, collection, structured}
use Rattle.odata_expansion.specs.PathSet.{PathSet, below, no_paths}

-- how a property's value is seen: by its type, not at all, or by navigation to its target, if it has one: an entity of
-- that type, or a collection of them
pub data PropertyType : Type 0 where
  declared : ExprType → PropertyType
  opaque : PropertyType
  navigation : Option ExprType → PropertyType

-- the type of a navigation property to entities of the type of that name (CSDL JSON 4.01, section 8.1)
abbrev pub target_type : Option (List ℕ) → Bool → Option ExprType
target_type None many = None
target_type (Some name) false = Some (single (structured name))
target_type (Some name) true = Some (collection (structured name))

-- a property of a type: of a collection, `nullable` speaks of the items
pub record PropertyModel : Type 0 where
  pub name : List ℕ
  pub type_of : PropertyType
  pub many : Bool
  pub nullable : Bool

-- an entity or complex type, with its base's qualified name and its own properties in the byte order of names; an
-- enumeration; or another name of a type, if that is a primitive one
pub data ModelBody : Type 0 where
  structured_type : (is_entity : Bool) → Option (List ℕ) → List PropertyModel → ModelBody
  enumeration_type : EnumerationModel → ModelBody
  type_definition : Option PrimitiveType → ModelBody

-- a type with its qualified name, and its name by the alias of its namespace, if that has one
pub record TypeModel : Type 0 where
  pub name : List ℕ
  pub alias_name : Option (List ℕ)
  pub body : ModelBody

-- the types in the byte order of their qualified names
pub record SchemaModel : Type 0 where
  pub types : List TypeModel

-- ---- types by name

-- the first type of a qualified name
abbrev pub type_called : List TypeModel → List ℕ → Option TypeModel
type_called [] asked = None
type_called (t ∷ ts) asked = if pointwise nat_eq t.name asked then Some t else type_called ts asked

-- the properties of each type by its qualified name, none where there is no such type; each enumeration by its own; the
-- qualified name of the enumeration that goes by a name, which may be that by the alias of its namespace; and the paths
-- to the navigation properties that are expanded in a value (URL Conventions 4.01, section 5.1.3)
pub record Slots : Type 0 where
  pub properties : List ℕ → List PropertyModel
  pub enumerations : List ℕ → Option EnumerationModel
  pub enumeration_names : List ℕ → Option (List ℕ)
  pub needed : PathSet

abbrev pub base_properties : (List ℕ → List PropertyModel) → Option (List ℕ) → List PropertyModel
base_properties inherited None = []
base_properties inherited (Some base) = inherited base

-- the base's properties, then the own ones
abbrev pub body_properties : (List ℕ → List PropertyModel) → ModelBody → List PropertyModel
body_properties inherited (structured_type is_entity base own) = base_properties inherited base ++ own
body_properties inherited (enumeration_type e) = []
body_properties inherited (type_definition p) = []

abbrev pub type_properties : (List ℕ → List PropertyModel) → Option TypeModel → List PropertyModel
type_properties inherited None = []
type_properties inherited (Some t) = body_properties inherited t.body

-- the properties along a chain of that many types at most
abbrev pub properties_within : ℕ → List TypeModel → List ℕ → List PropertyModel
properties_within zero types asked = []
properties_within (suc n) types asked = type_properties (properties_within n types) (type_called types asked)

-- no chain has more types than there are
abbrev pub properties_in : List TypeModel → List ℕ → List PropertyModel
properties_in types asked = properties_within (length types) types asked

abbrev pub enumeration_of_body : ModelBody → Option EnumerationModel
enumeration_of_body (structured_type is_entity base own) = None
enumeration_of_body (enumeration_type e) = Some e
enumeration_of_body (type_definition p) = None

abbrev pub enumeration_in : List TypeModel → List ℕ → Option EnumerationModel
enumeration_in types asked = option_and_then (λ t. enumeration_of_body t.body) (type_called types asked)

-- ---- types by index

-- the name at an index; the empty text past the end
abbrev pub name_in : List (List ℕ) → ℕ → List ℕ
name_in [] n = []
name_in (name ∷ names) zero = name
name_in (name ∷ names) (suc n) = name_in names n

-- the qualified name of the type at an index
abbrev pub type_name_at : SchemaModel → ℕ → List ℕ
type_name_at schema = name_in (map (λ t. t.name) schema.types)

abbrev pub is_text_of : Option (List ℕ) → List ℕ → Bool
is_text_of None asked = false
is_text_of (Some text) asked = pointwise nat_eq text asked

-- whether a type goes by the asked name: by its namespace or by the alias of it
abbrev pub is_named : TypeModel → List ℕ → Bool
is_named t asked = pointwise nat_eq t.name asked || is_text_of t.alias_name asked

-- it is an entity or complex type
abbrev pub is_structured : ModelBody → Bool
is_structured (structured_type is_entity base own) = true
is_structured (enumeration_type e) = false
is_structured (type_definition p) = false

abbrev pub is_entity_type : ModelBody → Bool
is_entity_type (structured_type is_entity base own) = is_entity
is_entity_type (enumeration_type e) = false
is_entity_type (type_definition p) = false

-- it is an enumeration type
abbrev pub is_enumeration : ModelBody → Bool
is_enumeration (structured_type is_entity base own) = false
is_enumeration (enumeration_type e) = true
is_enumeration (type_definition p) = false

abbrev pub body_passes : (ModelBody → Bool) → Option TypeModel → Bool
body_passes test None = false
body_passes test (Some t) = test t.body

-- whether there is a type at the index, and its body passes the test
abbrev pub is_kind_at : (ModelBody → Bool) → SchemaModel → ℕ → Bool
is_kind_at test schema n = body_passes test (slice_get schema.types n)

-- there is an entity or complex type at the index
abbrev pub HoldsType : SchemaModel → ℕ → Type 0
HoldsType schema n = IsTrue (is_kind_at is_structured schema n)

-- there is an entity type at the index
abbrev pub IsEntityAt : SchemaModel → ℕ → Type 0
IsEntityAt schema n = IsTrue (is_kind_at is_entity_type schema n)

-- there is an enumeration at the index
abbrev pub HoldsEnumeration : SchemaModel → ℕ → Type 0
HoldsEnumeration schema n = IsTrue (is_kind_at is_enumeration schema n)

-- of the types that pass a test, the one at an index is the only one of its name
abbrev pub IsOneByName : (ModelBody → Bool) → SchemaModel → ℕ → Type 0
IsOneByName test schema n =
    (other : ℕ) → IsTrue (is_kind_at test schema n) → IsTrue (is_kind_at test schema other)
    → type_name_at schema other ≡ type_name_at schema n → other ≡ n

abbrev pub place_if : Bool → ℕ → Option ℕ
place_if true n = Some n
place_if false n = None

-- the index of the first type of the asked name, if it passes the test
abbrev pub index_of_kind : (ModelBody → Bool) → SchemaModel → List ℕ → Option ℕ
index_of_kind test schema asked =
    option_and_then (λ n. place_if (is_kind_at test schema n) n) (position (λ t. is_named t asked) schema.types)

-- the index of the entity or complex type of the asked name
abbrev pub index_named : SchemaModel → List ℕ → Option ℕ
index_named schema asked = index_of_kind is_structured schema asked

-- the index of the enumeration of the asked name
abbrev pub enumeration_named : SchemaModel → List ℕ → Option ℕ
enumeration_named schema asked = index_of_kind is_enumeration schema asked

-- what is known of a schema's types by their names alone, where nothing is expanded
abbrev pub slots_of : SchemaModel → Slots
slots_of schema = record {
  properties = properties_in schema.types;
  enumerations = enumeration_in schema.types;
  enumeration_names = λ asked. option_map (type_name_at schema) (enumeration_named schema asked);
  needed = no_paths;
}

-- the same, where these paths are expanded
abbrev pub expanded : Slots → PathSet → Slots
expanded slots paths = record slots { needed = paths }

-- the same in the value of a property
abbrev pub slots_behind : Slots → List ℕ → Slots
slots_behind slots step = expanded slots (below slots.needed step)

-- the properties of the type at an index, in slot order; none where there is no entity or complex type
abbrev pub properties_at : SchemaModel → ℕ → List PropertyModel
properties_at schema n = (slots_of schema).properties (type_name_at schema n)

abbrev pub name_if : (ModelBody → Bool) → TypeModel → Option (List ℕ)
name_if test t = if test t.body then Some t.name else None

-- the qualified name of the type at an index, if it passes the test
abbrev pub name_of_kind : (ModelBody → Bool) → SchemaModel → ℕ → Option (List ℕ)
name_of_kind test schema n = option_and_then (name_if test) (slice_get schema.types n)

-- the enumeration at an index, if there is one
abbrev pub enumeration_at : SchemaModel → ℕ → Option EnumerationModel
enumeration_at schema n = option_and_then (λ t. enumeration_of_body t.body) (slice_get schema.types n)

-- the enumeration at an index is the one of its name
abbrev pub IsEnumerationByName : SchemaModel → ℕ → Type 0
IsEnumerationByName schema n = enumeration_at schema n ≡ (slots_of schema).enumerations (type_name_at schema n)

-- ---- slots

-- the first slot of the asked name
abbrev pub slot_named : List PropertyModel → List ℕ → Option ℕ
slot_named properties asked = position (λ p. pointwise nat_eq asked p.name) properties

-- the names rise in byte order
abbrev pub IsInNameOrder : List PropertyModel → Type 0
IsInNameOrder properties = IsStrictlySortedBy (slice_cmp nat_cmp) (map (λ p. p.name) properties)

-- no two of the names are equal
abbrev pub HasDistinctNames : List PropertyModel → Type 0
HasDistinctNames [] = Unit {0}
HasDistinctNames (p ∷ ps) = AllByRecursion (λ q. q.name ≢ p.name) ps × HasDistinctNames ps

abbrev pub IsBodyOrder : SchemaModel → ℕ → ModelBody → Type 0
IsBodyOrder schema n (structured_type is_entity base own) =
    (properties_at schema n ≡ base_properties (slots_of schema).properties base ++ own) × IsInNameOrder own
IsBodyOrder schema n (enumeration_type e) = properties_at schema n ≡ []
IsBodyOrder schema n (type_definition p) = properties_at schema n ≡ []

abbrev pub IsSlotOrder : SchemaModel → ℕ → Option TypeModel → Type 0
IsSlotOrder schema n None = properties_at schema n ≡ []
IsSlotOrder schema n (Some t) = IsBodyOrder schema n t.body

-- the slots of the type at an index are those of its base, if it has one, and then its own in name order
abbrev pub AreSlotsInOrder : SchemaModel → ℕ → Type 0
AreSlotsInOrder schema n = IsSlotOrder schema n (slice_get schema.types n)
