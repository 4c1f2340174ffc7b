-- The types of a schema, in lines (CSDL JSON 4.01, sections 6 to 9).
use Rattle.std.specs.Prelude.{◌≡◌, ◌++◌, ◌∷◌, [], ℕ, List, Bool, true, false, Option, None, Some, codes, slice_get}
use Rattle.std.specs.List.{flat_map}
use Rattle.csdl_schema.specs.ExprType.{ExprType, SingleType, null_type, single, collection, primitive, enumeration, structured}
use Rattle.csdl_schema.specs.SchemaModel.{PropertyModel, PropertyType, declared, opaque, navigation, ModelBody, structured_type, enumeration_type, type_definition, TypeModel, SchemaModel, properties_in}
use Rattle.odata_checked_filter.specs.TypeText.{primitive_name}
use Rattle.call_handles.specs.Kinds.{IsSchema, IsType}
use Rattle.call_handles.specs.declared.call_fault.Fault.{Fault}
use Rattle.call_handles.specs.declared.handle.Handle.{Handle}

-- the qualified name of the type of one value
abbrev pub single_text : SingleType → List ℕ
single_text (primitive p) = primitive_name p
single_text (enumeration name) = name
single_text (structured name) = name

-- what stands for the name of a type that is not read
abbrev pub not_read : List ℕ
not_read = codes "?"

-- the name of the type of a value, or of an item of it
abbrev pub expr_item : ExprType → List ℕ
expr_item null_type = not_read
expr_item (single type) = single_text type
expr_item (collection type) = single_text type

abbrev pub target_item : Option ExprType → List ℕ
target_item (Some type) = expr_item type
target_item None = not_read

abbrev pub item_text : PropertyType → List ℕ
item_text (declared type) = expr_item type
item_text opaque = not_read
item_text (navigation target) = target_item target

-- of many items: `Collection(..)`
abbrev pub of_items : Bool → List ℕ → List ℕ
of_items true item = codes "Collection(" ++ (item ++ codes ")")
of_items false item = item

-- what is said after the type: that it may be null
abbrev pub nullable_word : Bool → List ℕ
nullable_word true = codes " nullable"
nullable_word false = []

-- that it leads to other entities, and that its type is not read
abbrev pub words_of_target : Option ExprType → List ℕ
words_of_target (Some type) = codes " navigation"
words_of_target None = codes " navigation not read"

abbrev pub words_of_type : PropertyType → List ℕ
words_of_type (declared type) = []
words_of_type opaque = codes " not read"
words_of_type (navigation target) = words_of_target target

-- two spaces, the name, the type, with a space (32) between the two, and what is said of it; the line ends with LF (10)
abbrev pub property_line : PropertyModel → List ℕ
property_line p =
    codes "  " ++ (p.name ++ (32 ∷ (of_items p.many (item_text p.type_of)
    ++ (nullable_word p.nullable ++ (words_of_type p.type_of ++ 10 ∷ [])))))

abbrev pub kind_word : Bool → List ℕ
kind_word true = codes "entity "
kind_word false = codes "complex "

-- the lines of an entity or complex type of a schema: its kind and name, and then its properties in the order of slots;
-- none of a type of another kind
abbrev pub body_lines : SchemaModel → List ℕ → ModelBody → List ℕ
body_lines schema name (structured_type is_entity base own) =
    kind_word is_entity ++ (name ++ (10 ∷ flat_map property_line (properties_in schema.types name)))
body_lines schema name (enumeration_type e) = []
body_lines schema name (type_definition p) = []

abbrev pub type_lines : SchemaModel → TypeModel → List ℕ
type_lines schema t = body_lines schema t.name t.body

-- the lines of the type at an index
abbrev pub lines_of_found : SchemaModel → Option TypeModel → List ℕ
lines_of_found schema (Some t) = type_lines schema t
lines_of_found schema None = []

abbrev pub lines_at : SchemaModel → ℕ → List ℕ
lines_at schema n = lines_of_found schema (slice_get schema.types n)

-- those of all types
abbrev pub schema_lines : SchemaModel → List ℕ
schema_lines schema = flat_map (type_lines schema) schema.types

-- all types of a schema, or the one that the handle is
abbrev pub IsListingOf : Handle → List ℕ → Type 0
IsListingOf (Handle.Schema held) text = text ≡ schema_lines held.schema.value
IsListingOf (Handle.Type held) text = text ≡ lines_at held.schema held.id
IsListingOf given text = ⊥

-- why there is none
abbrev pub IsNoListing : Handle → Fault → Type 0
IsNoListing given Fault.OtherKind = (¬ IsSchema given) × (¬ IsType given)
IsNoListing (Handle.Schema held) Fault.Memory = Unit {0}
IsNoListing (Handle.Type held) Fault.Memory = Unit {0}
IsNoListing given fault = ⊥
