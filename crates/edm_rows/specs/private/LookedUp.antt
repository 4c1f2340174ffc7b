-- For private clauses: texts of enumerations and names that were looked up in earlier rows.
use Rattle.csdl_schema.specs.SchemaModel.{SchemaModel}
use Rattle.enumeration_texts.specs.EnumerationTexts.{AreOfEnumerations}
use Rattle.expected_members.specs.Undeclared.{AreUndeclared}
use Rattle.edm_rows.specs.declared.row_cache.LookedUp.{LookedUp}

-- each of the texts is one of its enumeration, and no property of its type has one of the names
pub record AreKnown (schema : SchemaModel) (known : LookedUp) : Type 0 where
  pub texts : AreOfEnumerations schema known.texts
  pub names : AreUndeclared schema known.names
