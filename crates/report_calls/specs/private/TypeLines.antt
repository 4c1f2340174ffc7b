-- What is written of a property, by its kind and target in the code.
use Rattle.std.specs.Prelude.{ℕ, List, [], ◌∷◌, ◌++◌, Option, None, Some, codes, unwrap_or}
use Rattle.csdl_schema.specs.declared.property.Property.{Property}
use Rattle.csdl_schema.specs.declared.property.PropertyKind.{PropertyKind}
use Rattle.csdl_schema.specs.declared.property.PropertyKind.TheVariants.{Prim, Enum, Complex, Opaque, Navigation}
use Rattle.csdl_schema.specs.PropertyView.{target_of}
use Rattle.csdl_schema.specs.SchemaModel.{SchemaModel, is_enumeration, is_structured, name_of_kind}
use Rattle.odata_checked_filter.specs.TypeText.{primitive_name}
use Rattle.report_calls.specs.TypeLines.{not_read, nullable_word, of_items}

-- the name of the type of a value, or of an item of it
abbrev pub kind_item : SchemaModel → PropertyKind → Option ℕ → List ℕ
kind_item schema (Prim p) target = primitive_name p
kind_item schema (Enum id) target = unwrap_or (name_of_kind is_enumeration schema id) not_read
kind_item schema (Complex id) target = unwrap_or (name_of_kind is_structured schema id) not_read
kind_item schema Opaque target = not_read
kind_item schema Navigation None = not_read
kind_item schema Navigation (Some id) = unwrap_or (name_of_kind is_structured schema id) not_read

-- what is said after the type
abbrev pub kind_words : PropertyKind → Option ℕ → List ℕ
kind_words (Prim p) target = []
kind_words (Enum id) target = []
kind_words (Complex id) target = []
kind_words Opaque target = codes " not read"
kind_words Navigation None = codes " navigation not read"
kind_words Navigation (Some id) = codes " navigation"

-- the line of a property of that name
abbrev pub kind_line : SchemaModel → List ℕ → Property → List ℕ
kind_line schema name p =
    codes "  " ++ (name ++ (32 ∷ (of_items p.many (kind_item schema p.kind (target_of p))
    ++ (nullable_word p.nullable ++ (kind_words p.kind (target_of p) ++ 10 ∷ [])))))
