-- What a declaration says of its type, names not looked up yet (CSDL JSON 4.01, sections 6, 7 and 9 to 11).
use Rattle.std.specs.Prelude.{◌≢◌, ℕ, [], List, Bool, true, false, Option, Some, None, unwrap_or, codes, map}
use Rattle.std.specs.Ordering.{nat_cmp}
use Rattle.std.specs.Cmp.Lexicographic.{slice_cmp}
use Rattle.std.specs.List.{AllByRecursion}
use Rattle.std.specs.List.Sorted.{IsStrictlySortedBy}
use Rattle.serde_json.specs.Data.{Data}
use Rattle.edm_enumerations.specs.EnumerationModel.{EnumerationModel}
use Rattle.csdl_declarations.specs.declared.type_kind.TypeKind.{TypeKind}
use Rattle.csdl_declarations.specs.declared.type_kind.TypeKind.TheVariants as kind
use Rattle.csdl_declarations.specs.Members.{declared_in, text_at, is_text, is_true_at}
use Rattle.csdl_declarations.specs.TypeKind.{type_kind_in}
use Rattle.csdl_declarations.specs.Declarations.{TypeDeclaration, full_name, full_alias_name, types_in_order}
use Rattle.csdl_declarations.specs.EnumerationDeclaration.{declared_enumeration}

-- a property, with the name of its type; of a collection, `nullable` speaks of the items
pub record PropertyDeclaration : Type 0 where
  pub name : List ℕ
  pub type_name : List ℕ
  pub navigates : Bool
  pub many : Bool
  pub nullable : Bool

-- an entity or complex type with its base's name and its own properties, an enumeration, or another name of a type
pub data TypeBody : Type 0 where
  structured : (is_entity : Bool) → Option (List ℕ) → List PropertyDeclaration → TypeBody
  enumeration : EnumerationModel → TypeBody
  definition : List ℕ → TypeBody

-- a type with its names: the one by namespace, and the one by alias, if there is one
pub record DeclaredType : Type 0 where
  pub name : List ℕ
  pub alias_name : Option (List ℕ)
  pub body : TypeBody

abbrev pub is_navigation : Data → Bool
is_navigation d = is_text (codes "NavigationProperty") (text_at (codes "$Kind") d)

-- `Edm.String` where no type is given (section 7.1)
abbrev pub type_text : Data → List ℕ
type_text d = unwrap_or (text_at (codes "$Type") d) (codes "Edm.String")

abbrev pub declared_property : List ℕ × Data → PropertyDeclaration
declared_property m = record {
  name = m.0;
  type_name = type_text m.1;
  navigates = is_navigation m.1;
  many = is_true_at (codes "$Collection") m.1;
  nullable = is_true_at (codes "$Nullable") m.1;
}

-- own properties in the byte order of their names
abbrev pub structured_body : Bool → Data → TypeBody
structured_body is_entity d =
    structured is_entity (text_at (codes "$BaseType") d) (map declared_property (declared_in d))

-- the type that a type definition is another name of (section 11.1)
abbrev pub underlying_text : Data → List ℕ
underlying_text d = unwrap_or (text_at (codes "$UnderlyingType") d) []

-- by the kind; without one, which is a fault, as a definition
abbrev pub body_of_kind : Option TypeKind → Data → TypeBody
body_of_kind (Some kind.Entity) d = structured_body true d
body_of_kind (Some kind.Complex) d = structured_body false d
body_of_kind (Some kind.Enumeration) d = enumeration (declared_enumeration d)
body_of_kind (Some kind.Definition) d = definition (underlying_text d)
body_of_kind None d = definition []

abbrev pub declared_body : Data → TypeBody
declared_body d = body_of_kind (type_kind_in d) d

abbrev pub declared_type : TypeDeclaration → DeclaredType
declared_type t = record { name = full_name t; alias_name = full_alias_name t; body = declared_body t.body }

-- the types that a document declares, in the byte order of their whole names
abbrev pub declared_types : Data → List DeclaredType
declared_types document = map declared_type (types_in_order document)

-- own properties rise in the byte order of their names, so no two names are equal
abbrev pub IsBodyInOrder : TypeBody → Type 0
IsBodyInOrder (structured is_entity base properties) =
    IsStrictlySortedBy (slice_cmp nat_cmp) (map (λ p. p.name) properties)
IsBodyInOrder (enumeration e) = Unit {0}
IsBodyInOrder (definition underlying) = Unit {0}

-- the names of types rise in byte order, none is empty, and those of each type's own properties rise too
pub record AreInOrder (types : List DeclaredType) : Type 0 where
  pub given : AllByRecursion (λ t. t.name ≢ []) types
  pub names : IsStrictlySortedBy (slice_cmp nat_cmp) (map (λ t. t.name) types)
  pub properties : AllByRecursion (λ t. IsBodyInOrder t.body) types
