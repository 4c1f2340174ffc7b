-- Types whose bases and properties' types are indexes, as the code stores them; for private clauses.
use Rattle.std.specs.Prelude.{◌≡◌, ℕ, zero, suc, [], ◌∷◌, ◌++◌, ◌||◌, List, Bool, true, false, not, Option, Some, None, is_some, if◌then◌else◌, unwrap_or, map, filter, length, position, slice_get, option_and_then, nat_eq, nat_lt, sum_by, String, string_bytes}
use Rattle.std.specs.declared.alloc.Global.{Global}
use Rattle.std.specs.Cmp.Lexicographic.{pointwise}
use Rattle.std.specs.List.{list_any, flat_map}
use Rattle.edm_values.specs.declared.primitive.PrimitiveType.{PrimitiveType}
use Rattle.edm_enumerations.specs.EnumerationModel.{EnumerationModel}
use Rattle.csdl_declarations.specs.Fault.{Fault, unknown_base, base_cycle, too_large, unless}
use Rattle.csdl_declarations.specs.DeclaredType.{PropertyDeclaration, TypeBody, DeclaredType, structured, enumeration, definition}
use Rattle.csdl_schema.specs.declared.property.Property.{Property}
use Rattle.csdl_schema.specs.declared.property.PropertyKind.{PropertyKind}
use Rattle.csdl_schema.specs.declared.property.PropertyKind.TheVariants as kind
use Rattle.csdl_schema.specs.declared.chain.Chain.{Chain}
use Rattle.csdl_schema.specs.declared.read_bases.FoundBase.{FoundBase}
use Rattle.csdl_schema.specs.Resolution.{primitive_named, goes_by, if_not_primitive, is_structured_as}
use Rattle.csdl_schema.specs.BaseFaults.{base_limit, property_limit, base_text, lesser_name, first_name, twice_faults}

-- how a type is found by its name
abbrev pub Finder : Type 0
Finder = List ℕ → Option ℕ

-- the first type of a name is found
abbrev pub IsIndexOf : List DeclaredType → Finder → Type 0
IsIndexOf types find = (asked : List ℕ) → find asked ≡ position (λ t. goes_by t asked) types

-- ---- properties

abbrev pub kind_of_definition : Option PrimitiveType → PropertyKind
kind_of_definition None = kind.Opaque
kind_of_definition (Some p) = kind.Prim p

-- the kind of a property whose type is the declared one at an index; to an entity type navigation properties alone lead
abbrev pub place_kind : ℕ → TypeBody → PropertyKind
place_kind n (structured true base properties) = kind.Navigation
place_kind n (structured false base properties) = kind.Complex n
place_kind n (enumeration e) = kind.Enum n
place_kind n (definition underlying) = kind_of_definition (primitive_named underlying)

abbrev pub kinds_from : ℕ → List DeclaredType → List PropertyKind
kinds_from n [] = []
kinds_from n (t ∷ ts) = place_kind n t.body ∷ kinds_from (suc n) ts

abbrev pub unless_primitive_kind : PropertyKind → Option PrimitiveType → PropertyKind
unless_primitive_kind other None = other
unless_primitive_kind other (Some p) = kind.Prim p

abbrev pub property_kind_named : List PropertyKind → Finder → List ℕ → PropertyKind
property_kind_named kinds find text =
    unless_primitive_kind (unwrap_or (option_and_then (slice_get kinds) (find text)) kind.Opaque) (primitive_named text)

-- the kind of a property that does not navigate
abbrev pub kind_of_value : PropertyKind → PropertyKind
kind_of_value (kind.Prim p) = kind.Prim p
kind_of_value (kind.Enum e) = kind.Enum e
kind_of_value (kind.Complex t) = kind.Complex t
kind_of_value kind.Opaque = kind.Opaque
kind_of_value kind.Navigation = kind.Opaque

abbrev pub kind_of_property : List PropertyKind → Finder → PropertyDeclaration → PropertyKind
kind_of_property kinds find p =
    if p.navigates then kind.Navigation else kind_of_value (property_kind_named kinds find p.type_name)

abbrev pub if_entity_place : ℕ → Option PropertyKind → Option ℕ
if_entity_place n (Some kind.Navigation) = Some n
if_entity_place n _ = None

-- the index of the entity type of a name
abbrev pub target_place : List PropertyKind → Finder → List ℕ → Option ℕ
target_place kinds find text =
    if_not_primitive (option_and_then (λ n. if_entity_place n (slice_get kinds n)) (find text)) (primitive_named text)

abbrev pub target_of_property : List PropertyKind → Finder → PropertyDeclaration → Option ℕ
target_of_property kinds find p = if p.navigates then target_place kinds find p.type_name else None

abbrev pub placed_property : List PropertyKind → Finder → PropertyDeclaration → List ℕ × Property
placed_property kinds find p = (
  p.name,
  record {
    kind = kind_of_property kinds find p;
    many = p.many;
    nullable = p.nullable;
    target = target_of_property kinds find p;
  },
)

abbrev pub entry_view : String Global × Property → List ℕ × Property
entry_view e = (string_bytes e.0, e.1)

-- ---- types

pub data PlacedBody : Type 0 where
  placed_structured : (is_entity : Bool) → Option ℕ → List (List ℕ × Property) → PlacedBody
  placed_enumeration : EnumerationModel → PlacedBody
  placed_definition : Option PrimitiveType → PlacedBody

pub record PlacedType : Type 0 where
  pub name : List ℕ
  pub alias_name : Option (List ℕ)
  pub body : PlacedBody

abbrev pub is_placed_structured : PlacedBody → Bool
is_placed_structured (placed_structured is_entity base own) = true
is_placed_structured (placed_enumeration e) = false
is_placed_structured (placed_definition p) = false

abbrev pub is_placed_entity : PlacedBody → Bool
is_placed_entity (placed_structured is_entity base own) = is_entity
is_placed_entity (placed_enumeration e) = false
is_placed_entity (placed_definition p) = false

abbrev pub is_placed_enumeration : PlacedBody → Bool
is_placed_enumeration (placed_structured is_entity base own) = false
is_placed_enumeration (placed_enumeration e) = true
is_placed_enumeration (placed_definition p) = false

-- whether there is a type, and its body passes the test
abbrev pub placed_passes : (PlacedBody → Bool) → Option PlacedType → Bool
placed_passes test None = false
placed_passes test (Some t) = test t.body

abbrev pub placed_name_if : (PlacedBody → Bool) → PlacedType → Option (List ℕ)
placed_name_if test t = if test t.body then Some t.name else None

abbrev pub enumeration_in_body : PlacedBody → Option EnumerationModel
enumeration_in_body (placed_structured is_entity base own) = None
enumeration_in_body (placed_enumeration e) = Some e
enumeration_in_body (placed_definition p) = None

abbrev pub if_structured_at : Bool → ℕ → Option DeclaredType → Option ℕ
if_structured_at is_entity n None = None
if_structured_at is_entity n (Some t) = if is_structured_as is_entity t.body then Some n else None

-- the index of a base of that name
abbrev pub base_place_named : List DeclaredType → Finder → Bool → List ℕ → Option ℕ
base_place_named types find is_entity text =
    option_and_then (λ n. if_structured_at is_entity n (slice_get types n)) (find text)

abbrev pub base_place : List DeclaredType → Finder → TypeBody → Option ℕ
base_place types find (structured is_entity base properties) =
    option_and_then (base_place_named types find is_entity) base
base_place types find (enumeration e) = None
base_place types find (definition underlying) = None

-- what is found of a type's base
abbrev pub found_base : List DeclaredType → Finder → TypeBody → FoundBase
found_base types find body = record { is_named = is_some (base_text body); index = base_place types find body }

abbrev pub body_with : List PropertyKind → Finder → Option ℕ → TypeBody → PlacedBody
body_with kinds find base (structured is_entity named properties) =
    placed_structured is_entity base (map (placed_property kinds find) properties)
body_with kinds find base (enumeration e) = placed_enumeration e
body_with kinds find base (definition underlying) = placed_definition (primitive_named underlying)

abbrev pub type_with : List PropertyKind → Finder → Option ℕ → DeclaredType → PlacedType
type_with kinds find base t =
    record { name = t.name; alias_name = t.alias_name; body = body_with kinds find base t.body }

-- each type with its base
abbrev pub types_with : List PropertyKind → Finder → List FoundBase → List DeclaredType → List PlacedType
types_with kinds find bases [] = []
types_with kinds find [] (t ∷ ts) = []
types_with kinds find (b ∷ bases) (t ∷ ts) = type_with kinds find b.index t ∷ types_with kinds find bases ts

-- ---- chains of bases

abbrev pub placed_base : PlacedBody → Option ℕ
placed_base (placed_structured is_entity base own) = base
placed_base (placed_enumeration e) = None
placed_base (placed_definition p) = None

abbrev pub placed_own : PlacedBody → List (List ℕ × Property)
placed_own (placed_structured is_entity base own) = own
placed_own (placed_enumeration e) = []
placed_own (placed_definition p) = []

abbrev pub base_at : List PlacedType → ℕ → Option ℕ
base_at types n = option_and_then (λ t. placed_base t.body) (slice_get types n)

abbrev pub own_of : Option PlacedType → List (List ℕ × Property)
own_of None = []
own_of (Some t) = placed_own t.body

abbrev pub own_at : List PlacedType → ℕ → List (List ℕ × Property)
own_at types n = own_of (slice_get types n)

abbrev pub onto_place : (ℕ → List ℕ) → Option ℕ → List ℕ
onto_place further None = []
onto_place further (Some n) = n ∷ further n

-- the indexes of the first so many types above the one at an index
abbrev pub places_within : ℕ → List PlacedType → ℕ → List ℕ
places_within zero types n = []
places_within (suc k) types n = onto_place (places_within k types) (base_at types n)

abbrev pub owns_by : List ℕ → List (List ℕ × Property) → Bool
owns_by name own = list_any (λ e. pointwise nat_eq name e.0) own

abbrev pub owns_at : List PlacedType → List ℕ → ℕ → Bool
owns_at types name n = owns_by name (own_at types n)

abbrev pub names_at : List PlacedType → ℕ → List (List ℕ)
names_at types n = map (λ e. e.0) (own_at types n)

-- those of some names that one of some types has
abbrev pub names_owned : List PlacedType → List ℕ → List (List ℕ) → List (List ℕ)
names_owned types places names = filter (λ name. list_any (owns_at types name) places) names

-- the own names of the type at an index that one of its bases has too
abbrev pub names_again_at : List PlacedType → ℕ → List (List ℕ)
names_again_at types n = names_owned types (places_within base_limit types n) (names_at types n)

-- the first of those, of each type from an index on
abbrev pub firsts_from : List PlacedType → ℕ → List PlacedType → List (Option (List ℕ))
firsts_from types n [] = []
firsts_from types n (t ∷ ts) = first_name (names_again_at types n) ∷ firsts_from types (suc n) ts

abbrev pub lesser_of : Option (List ℕ) → Option (List ℕ) → Option (List ℕ)
lesser_of None other = other
lesser_of (Some name) other = lesser_name name other

abbrev pub reported_at : List (Option (List ℕ)) → ℕ → Option (List ℕ)
reported_at firsts n = option_and_then (λ o. o) (slice_get firsts n)

-- the first of the names that are reported for the types at some indexes
abbrev pub first_reported : List (Option (List ℕ)) → List ℕ → Option (List ℕ)
first_reported firsts [] = None
first_reported firsts (n ∷ places) = lesser_of (reported_at firsts n) (first_reported firsts places)

abbrev pub all_places : List PlacedType → ℕ → List ℕ
all_places types n = places_within (length types) types n

abbrev pub count_at : List PlacedType → List ℕ → ℕ
count_at types places = sum_by (λ n. length (own_at types n)) places

-- those of a chain of so many bases, among so many types
abbrev pub length_faults : List ℕ → ℕ → ℕ → List Fault
length_faults name bases types =
    unless (nat_lt bases types) (base_cycle name) ++ unless (not (nat_lt base_limit bases)) too_large

abbrev pub chain_faults_at : List PlacedType → FoundBase → List ℕ → ℕ → List Fault
chain_faults_at types base name n =
    unless (not base.is_named || is_some base.index) (unknown_base name)
    ++ length_faults name (length (all_places types n)) (length types)

abbrev pub inherited_faults_at : List PlacedType → List ℕ → ℕ → List ℕ → List Fault
inherited_faults_at types name n places =
    twice_faults name (first_name (flat_map (names_again_at types) (n ∷ places)))
    ++ unless (not (nat_lt property_limit (count_at types (n ∷ places)))) too_large

abbrev pub base_faults_at : List PlacedType → FoundBase → List ℕ → ℕ → List Fault
base_faults_at types base name n =
    chain_faults_at types base name n ++ inherited_faults_at types name n (all_places types n)

-- those of each type from an index on, with its base
abbrev pub faults_from : List PlacedType → ℕ → List FoundBase → List PlacedType → List Fault
faults_from types n bases [] = []
faults_from types n [] (t ∷ ts) = []
faults_from types n (b ∷ bases) (t ∷ ts) = base_faults_at types b t.name n ++ faults_from types (suc n) bases ts

-- how many bases a type has, and how many properties it inherits
abbrev pub chain_at : List PlacedType → ℕ → Chain
chain_at types n =
    record { bases = length (all_places types n); inherited = count_at types (all_places types n) }

abbrev pub chains_from : List PlacedType → ℕ → List PlacedType → List Chain
chains_from types n [] = []
chains_from types n (t ∷ ts) = chain_at types n ∷ chains_from types (suc n) ts
