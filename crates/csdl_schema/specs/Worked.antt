-- A document with one entity type, and what it stands for.
use Rattle.std.specs.Prelude.{◌++◌, ℕ, [], ◌∷◌, List, false, true, None, codes}
use Rattle.edm_values.specs.declared.primitive.PrimitiveType.{PrimitiveType}
use Rattle.edm_values.specs.declared.primitive.PrimitiveType.TheVariants as prim
use Rattle.csdl_schema.specs.ExprType.{single, primitive}
use Rattle.csdl_schema.specs.SchemaModel.{PropertyModel, SchemaModel, declared, structured_type}

abbrev pub mini_text : List ℕ
mini_text =
    codes "{\"$Version\":\"4.01\",\"Mini\":{\"Item\":{\"$Kind\":\"EntityType\",\"ID\":{\"$Type\":\"Edm.Int32\"},"
    ++ codes "\"Name\":{},\"Active\":{\"$Type\":\"Edm.Boolean\"}}}}"

abbrev pub simple : List ℕ → PrimitiveType → PropertyModel
simple name p = record { name = name; type_of = declared (single (primitive p)); many = false; nullable = false }

-- the slots are in the byte order of names
abbrev pub mini_schema : SchemaModel
mini_schema = record {
  types = record {
    name = codes "Mini.Item";
    alias_name = None;
    body = structured_type true None (
        simple (codes "Active") prim.Bool ∷ simple (codes "ID") prim.Int32
        ∷ simple (codes "Name") prim.String ∷ []);
  } ∷ [];
}
