-- A property of the code, as the model says it.
use Rattle.std.specs.Prelude.{◌≡◌, ℕ, [], ◌∷◌, List, Bool, Option, Some, None, IfSome, option_map}
use Rattle.csdl_schema.specs.declared.property.Property.{Property}
use Rattle.csdl_schema.specs.declared.property.PropertyKind.{PropertyKind}
use Rattle.csdl_schema.specs.declared.property.PropertyKind.TheVariants.{Prim, Enum, Complex, Opaque, Navigation}
use Rattle.csdl_schema.specs.ExprType.{primitive, enumeration, structured}
use Rattle.csdl_schema.specs.Resolution.{type_of_single}
use Rattle.csdl_schema.specs.SchemaModel.{SchemaModel, PropertyModel, PropertyType, opaque, navigation, target_type, type_name_at, HoldsType, HoldsEnumeration, IsEntityAt}

-- the entity type to which a property navigates
abbrev pub target_of : Property → Option ℕ
target_of p = p.target

-- by kind, target and whether there are many; `name_at` has the qualified names of the types that these point to
abbrev pub type_of_kind : (ℕ → List ℕ) → PropertyKind → Option ℕ → Bool → PropertyType
type_of_kind name_at (Prim p) target many = type_of_single (Some (primitive p)) many
type_of_kind name_at (Enum e) target many = type_of_single (Some (enumeration (name_at e))) many
type_of_kind name_at (Complex t) target many = type_of_single (Some (structured (name_at t))) many
type_of_kind name_at Opaque target many = opaque
type_of_kind name_at Navigation target many = navigation (target_type (option_map name_at target) many)

-- the type that a schema gives a property
abbrev pub property_type : SchemaModel → Property → PropertyType
property_type schema p = type_of_kind (type_name_at schema) p.kind (target_of p) p.many

-- what a kind points to is there: an enumeration, or a type with properties
abbrev pub PointsWithin : SchemaModel → PropertyKind → Type 0
PointsWithin schema (Prim p) = Unit {0}
PointsWithin schema (Enum e) = HoldsEnumeration schema e
PointsWithin schema (Complex t) = HoldsType schema t
PointsWithin schema Opaque = Unit {0}
PointsWithin schema Navigation = Unit {0}

-- a navigation property alone may have a target, and that is an entity type which is there
abbrev pub LeadsWithin : SchemaModel → PropertyKind → Option ℕ → Type 0
LeadsWithin schema (Prim p) target = target ≡ None
LeadsWithin schema (Enum e) target = target ≡ None
LeadsWithin schema (Complex t) target = target ≡ None
LeadsWithin schema Opaque target = target ≡ None
LeadsWithin schema Navigation target = IfSome target (IsEntityAt schema)

-- a property of the code is the declared one: of its type, which is there, as many and as nullable
pub record IsReadAs (schema : SchemaModel) (declaration : PropertyModel) (p : Property) : Type 0 where
  pub type_of : property_type schema p ≡ declaration.type_of
  pub there : PointsWithin schema p.kind
  pub leads : LeadsWithin schema p.kind (target_of p)
  pub many : p.many ≡ declaration.many
  pub nullable : p.nullable ≡ declaration.nullable

-- these names with properties of the code are the first of the declared ones, in their order
abbrev pub AreFirstOf : SchemaModel → List PropertyModel → List (List ℕ × Property) → Type 0
AreFirstOf schema declarations [] = Unit {0}
AreFirstOf schema [] (e ∷ es) = ⊥
AreFirstOf schema (p ∷ ps) (e ∷ es) = (p.name ≡ e.0) × IsReadAs schema p e.1 × AreFirstOf schema ps es
