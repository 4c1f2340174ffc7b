-- Types by the names that a document gives them (CSDL JSON 4.01, sections 3.3, 4, 6 and 7).
use Rattle.std.specs.Prelude.{ℕ, [], ◌∷◌, ◌||◌, List, Bool, true, false, not, Option, Some, None, if◌then◌else◌, codes, map, nat_eq, option_map, option_and_then}
use Rattle.std.specs.Cmp.Lexicographic.{pointwise}
use Rattle.edm_values.specs.declared.primitive.PrimitiveType.{PrimitiveType}
use Rattle.edm_values.specs.declared.primitive.PrimitiveType.TheVariants as prim
use Rattle.csdl_declarations.specs.DeclaredType.{PropertyDeclaration, TypeBody, DeclaredType, structured, enumeration, definition}
use Rattle.csdl_schema.specs.ExprType as type
use Rattle.csdl_schema.specs.SchemaModel as model
use Rattle.csdl_schema.specs.SchemaModel.{PropertyType, declared, opaque, navigation, target_type, PropertyModel, TypeModel, SchemaModel, is_text_of}

-- the primitive types that are read, by their names (section 3.3)
abbrev pub primitive_named : List ℕ → Option PrimitiveType
primitive_named name =
    if pointwise nat_eq name (codes "Edm.Boolean") then Some prim.Bool
    else (if pointwise nat_eq name (codes "Edm.Byte") then Some prim.Byte
    else (if pointwise nat_eq name (codes "Edm.SByte") then Some prim.SByte
    else (if pointwise nat_eq name (codes "Edm.Int16") then Some prim.Int16
    else (if pointwise nat_eq name (codes "Edm.Int32") then Some prim.Int32
    else (if pointwise nat_eq name (codes "Edm.Int64") then Some prim.Int64
    else (if pointwise nat_eq name (codes "Edm.String") then Some prim.String
    else (if pointwise nat_eq name (codes "Edm.Date") then Some prim.Date
    else (if pointwise nat_eq name (codes "Edm.DateTimeOffset") then Some prim.DateTimeOffset
    else (if pointwise nat_eq name (codes "Edm.Guid") then Some prim.Guid
    else None)))))))))

-- whether a type goes by the asked name: by its namespace or by the alias of it. Names of types hold no dot and no
-- alias is a namespace, so a name goes by what stands before its last dot (section 3.3)
abbrev pub goes_by : DeclaredType → List ℕ → Bool
goes_by t asked = pointwise nat_eq t.name asked || is_text_of t.alias_name asked

-- the first type of the asked name
abbrev pub type_by_name : List DeclaredType → List ℕ → Option DeclaredType
type_by_name [] asked = None
type_by_name (t ∷ ts) asked = if goes_by t asked then Some t else type_by_name ts asked

-- the type that a property of a declared type has; none of an entity type, nor of a definition of another than a
-- primitive type (sections 9 to 11)
abbrev pub single_of : List ℕ → TypeBody → Option type.SingleType
single_of name (structured true base properties) = None
single_of name (structured false base properties) = Some (type.structured name)
single_of name (enumeration e) = Some (type.enumeration name)
single_of name (definition underlying) = option_map type.primitive (primitive_named underlying)

abbrev pub unless_primitive : Option type.SingleType → Option PrimitiveType → Option type.SingleType
unless_primitive other None = other
unless_primitive other (Some p) = Some (type.primitive p)

-- the type of a name: a primitive one goes first
abbrev pub single_named : List DeclaredType → List ℕ → Option type.SingleType
single_named types text =
    unless_primitive (option_and_then (λ t. single_of t.name t.body) (type_by_name types text)) (primitive_named text)

-- whether it is an entity type, or a complex type
abbrev pub is_structured_as : Bool → TypeBody → Bool
is_structured_as true (structured is_entity base properties) = is_entity
is_structured_as false (structured is_entity base properties) = not is_entity
is_structured_as as_entity (enumeration e) = false
is_structured_as as_entity (definition underlying) = false

-- the qualified name of a declared entity type
abbrev pub entity_name : DeclaredType → Option (List ℕ)
entity_name t = if is_structured_as true t.body then Some t.name else None

abbrev pub if_not_primitive : {A : Type 0} → Option A → Option PrimitiveType → Option A
if_not_primitive found None = found
if_not_primitive found (Some p) = None

-- the entity type of a name, which navigation properties lead to (section 8.1)
abbrev pub target_named : List DeclaredType → List ℕ → Option (List ℕ)
target_named types text =
    if_not_primitive (option_and_then entity_name (type_by_name types text)) (primitive_named text)

-- one value, or a collection; what has no type that is read is opaque
abbrev pub type_of_single : Option type.SingleType → Bool → PropertyType
type_of_single None many = opaque
type_of_single (Some single) false = declared (type.single single)
type_of_single (Some single) true = declared (type.collection single)

abbrev pub property_type_of : List DeclaredType → PropertyDeclaration → PropertyType
property_type_of types p =
    if p.navigates then (navigation (target_type (target_named types p.type_name) p.many))
    else type_of_single (single_named types p.type_name) p.many

abbrev pub property_of : List DeclaredType → PropertyDeclaration → PropertyModel
property_of types p = record { name = p.name; type_of = property_type_of types p; many = p.many; nullable = p.nullable }

-- ---- bases (sections 6.1 and 9.1)

abbrev pub if_structured_as : Bool → DeclaredType → Option DeclaredType
if_structured_as is_entity t = if is_structured_as is_entity t.body then Some t else None

-- the type of a base's name, if it is of the same kind
abbrev pub base_named : List DeclaredType → Bool → List ℕ → Option DeclaredType
base_named types is_entity text = option_and_then (if_structured_as is_entity) (type_by_name types text)

abbrev pub base_of_body : List DeclaredType → TypeBody → Option DeclaredType
base_of_body types (structured is_entity base properties) = option_and_then (base_named types is_entity) base
base_of_body types (enumeration e) = None
base_of_body types (definition underlying) = None

-- the type that is a type's base
abbrev pub base_of : List DeclaredType → DeclaredType → Option DeclaredType
base_of types t = base_of_body types t.body

-- ---- schemas

abbrev pub body_model : List DeclaredType → TypeBody → model.ModelBody
body_model types (structured is_entity base properties) =
    model.structured_type is_entity
    (option_map (λ u. u.name) (base_of_body types (structured is_entity base properties)))
    (map (property_of types) properties)
body_model types (enumeration e) = model.enumeration_type e
body_model types (definition underlying) = model.type_definition (primitive_named underlying)

abbrev pub type_model : List DeclaredType → DeclaredType → TypeModel
type_model types t = record { name = t.name; alias_name = t.alias_name; body = body_model types t.body }

-- the schema of some declared types
abbrev pub schema_of : List DeclaredType → SchemaModel
schema_of types = record { types = map (type_model types) types }
