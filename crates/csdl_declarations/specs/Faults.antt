-- The faults of a document's version, schemas and types, each type by itself, in their order (CSDL JSON 4.01).
use Rattle.std.specs.Prelude.{ℕ, ◌++◌, [], ◌∷◌, ◌&&◌, ◌||◌, List, Bool, true, false, not, Option, Some, None, is_some, if◌then◌else◌, codes, nat_eq, nat_lt, nat_le, count_by, chars}
use Rattle.std.specs.List.{list_any, flat_map}
use Rattle.std.specs.Cmp.Lexicographic.{pointwise}
use Rattle.serde_json.specs.Data.{Data}
use Rattle.serde_json.specs.Find.{get, as_str}
use Rattle.odata_text.specs.Identifier.{is_identifier}
use Rattle.csdl_declarations.specs.Fault.{Fault, not_object, version, bad_type, bad_property, too_large, unless}
use Rattle.csdl_declarations.specs.declared.type_kind.TypeKind.{TypeKind}
use Rattle.csdl_declarations.specs.declared.type_kind.TypeKind.TheVariants as kind
use Rattle.csdl_declarations.specs.Members.{declared_in, is_object, text_at, is_text, is_text_if_given, is_truth_if_given}
use Rattle.csdl_declarations.specs.TypeKind.{type_kind_in}
use Rattle.csdl_declarations.specs.Declarations.{TypeDeclaration, full_name, types_in_order, type_count}
use Rattle.csdl_declarations.specs.DeclaredType.{is_navigation}
use Rattle.csdl_declarations.specs.EnumerationDeclaration.{enumeration_faults}

-- ---- version (section 2)

abbrev pub is_version : Option (List ℕ) → Bool
is_version given = is_text (codes "4.0") given || is_text (codes "4.01") given

-- ---- schemas (section 4)

-- how many schemas have the alias
abbrev pub alias_count : List (List ℕ × Data) → List ℕ → ℕ
alias_count schemas alias = count_by (λ m. is_text alias (text_at (codes "$Alias") m.1)) schemas

abbrev pub is_namespace : List (List ℕ × Data) → List ℕ → Bool
is_namespace schemas name = list_any (λ m. pointwise nat_eq name m.0) schemas

abbrev pub is_alias_text : List (List ℕ × Data) → Option (List ℕ) → Bool
is_alias_text schemas None = false
is_alias_text schemas (Some alias) = not (is_namespace schemas alias) && nat_le (alias_count schemas alias) 1

-- a given alias is a text, no namespace and no alias of another schema
abbrev pub is_alias : List (List ℕ × Data) → Option Data → Bool
is_alias schemas None = true
is_alias schemas (Some given) = is_alias_text schemas (as_str given)

abbrev pub is_schema : List (List ℕ × Data) → List ℕ × Data → Bool
is_schema schemas m = is_object m.1 && is_alias schemas (get (codes "$Alias") m.1)

abbrev pub namespace_faults : List (List ℕ × Data) → List ℕ × Data → List Fault
namespace_faults schemas m = unless (is_schema schemas m) (bad_type m.0)

-- ---- properties (section 7)

-- `$Kind` of a property
abbrev pub is_property_kind : Option Data → Bool
is_property_kind None = true
is_property_kind (Some d) = is_text (codes "Property") (as_str d) || is_text (codes "NavigationProperty") (as_str d)

-- `$Type` of a property: a text, given where it navigates
abbrev pub is_property_type : Data → Bool
is_property_type d =
    is_text_if_given (get (codes "$Type") d) && (is_some (get (codes "$Type") d) || not (is_navigation d))

abbrev pub is_property : List ℕ × Data → Bool
is_property m =
    is_identifier (chars m.0) && (is_object m.1 && (is_property_kind (get (codes "$Kind") m.1) && (is_property_type m.1
    && (is_truth_if_given (get (codes "$Collection") m.1) && is_truth_if_given (get (codes "$Nullable") m.1)))))

abbrev pub property_faults : List ℕ → List ℕ × Data → List Fault
property_faults owner m = unless (is_property m) (bad_property owner m.0)

-- ---- types (sections 6 and 9 to 11)

-- a type's own shape, then its members in the byte order of their names
abbrev pub structured_faults : List ℕ → Data → List Fault
structured_faults owner d =
    unless (is_text_if_given (get (codes "$BaseType") d)) (bad_type owner)
    ++ flat_map (property_faults owner) (declared_in d)

abbrev pub definition_faults : List ℕ → Data → List Fault
definition_faults owner d = unless (is_some (text_at (codes "$UnderlyingType") d)) (bad_type owner)

abbrev pub kind_faults : Option TypeKind → List ℕ → Data → List Fault
kind_faults (Some kind.Entity) owner d = structured_faults owner d
kind_faults (Some kind.Complex) owner d = structured_faults owner d
kind_faults (Some kind.Enumeration) owner d = enumeration_faults owner d
kind_faults (Some kind.Definition) owner d = definition_faults owner d
kind_faults None owner d = bad_type owner ∷ []

abbrev pub body_faults : List ℕ → Data → List Fault
body_faults owner d = kind_faults (type_kind_in d) owner d

-- the name goes first
abbrev pub type_faults : TypeDeclaration → List Fault
type_faults t = unless (is_identifier (chars t.name)) (bad_type (full_name t)) ++ body_faults (full_name t) t.body

-- ---- documents

-- the most types of a document
abbrev pub type_limit : ℕ
type_limit = 4096

-- version; namespaces in byte order; the number of types; types in the byte order of whole names
abbrev pub object_faults : Data → List Fault
object_faults document =
    unless (is_version (text_at (codes "$Version") document)) version
    ++ (flat_map (namespace_faults (declared_in document)) (declared_in document)
    ++ (unless (not (nat_lt type_limit (type_count document))) too_large
    ++ flat_map type_faults (types_in_order document)))

-- the faults of a document, the first one first
abbrev pub declaration_faults : Data → List Fault
declaration_faults document = if is_object document then object_faults document else not_object ∷ []
