-- An entity type of three properties, and two rows for it.
use Rattle.std.specs.Prelude.{ℕ, pos, List, [], ◌∷◌, true, false, codes, if◌then◌else◌, nat_eq}
use Rattle.std.specs.Cmp.Lexicographic.{pointwise}
use Rattle.serde_json.specs.Data.{Data, boolean, number, unsigned, string, object, member, no_members}
use Rattle.edm_values.specs.Val as val
use Rattle.edm_values.specs.declared.primitive.PrimitiveType.{PrimitiveType}
use Rattle.edm_values.specs.declared.primitive.PrimitiveType.TheVariants.{Bool as EdmBoolean, Int32, String as EdmString}
use Rattle.csdl_schema.specs.ExprType.{single, primitive}
use Rattle.csdl_schema.specs.SchemaModel.{PropertyModel, declared}

abbrev pub item_property : List ℕ → PrimitiveType → PropertyModel
item_property name type = record {
  name = name;
  type_of = declared (single (primitive type));
  many = false;
  nullable = false;
}

-- the slots Active, ID and Name
abbrev pub item_properties : List PropertyModel
item_properties =
    item_property (codes "Active") EdmBoolean ∷ item_property (codes "ID") Int32
    ∷ item_property (codes "Name") EdmString ∷ []

-- {"Active":true,"ID":1,"Name":"a"}
abbrev pub item_row : Data
item_row =
    object (member (codes "Active") (boolean true) (member (codes "ID") (number (unsigned 1))
    (member (codes "Name") (string (codes "a")) no_members)))

-- {"ID":1,"Name":"a"}
abbrev pub inactive_row : Data
inactive_row =
    object (member (codes "ID") (number (unsigned 1)) (member (codes "Name") (string (codes "a")) no_members))

-- what the first of them stands for
abbrev pub item_field : List ℕ → val.FieldVal
item_field name =
    if pointwise nat_eq (codes "Active") name then val.present (val.boolean true)
    else (if pointwise nat_eq (codes "ID") name then val.present (val.whole (pos 1))
    else (if pointwise nat_eq (codes "Name") name then val.present (val.text (codes "a")) else val.absent))
