-- Which values are of a type of SQL. A node that names a type has a value only where its operands are of that type: how
-- a text reads and compares a value goes by the type that it says.
use Rattle.edm_values.specs.Val.{Val, null, boolean, whole, text, date, moment, guid, member}
use Rattle.edm_values.specs.declared.primitive.PrimitiveType.{PrimitiveType}
use Rattle.odata_filter_operations.specs.Outcome.{Outcome}
use Rattle.sql_tree.specs.declared.sql_node.FieldType.{FieldType}
use Rattle.sql_tree.specs.declared.sql_node.SqlType.{SqlType}

-- a value of the type, or null
abbrev pub IsOfType : SqlType → Val → Type 0
IsOfType type null = Unit {0}
IsOfType SqlType.Truth (boolean b) = Unit {0}
IsOfType SqlType.Whole (whole n) = Unit {0}
IsOfType SqlType.Text (text s) = Unit {0}
IsOfType SqlType.Date (date d) = Unit {0}
IsOfType SqlType.Moment (moment m) = Unit {0}
IsOfType SqlType.Instant (whole n) = Unit {0}
IsOfType SqlType.Guid (guid bytes) = Unit {0}
IsOfType SqlType.Member (member n) = Unit {0}
IsOfType type v = ⊥

abbrev pub type_of_primitive : PrimitiveType → SqlType
type_of_primitive PrimitiveType.Bool = SqlType.Truth
type_of_primitive PrimitiveType.String = SqlType.Text
type_of_primitive PrimitiveType.Date = SqlType.Date
type_of_primitive PrimitiveType.DateTimeOffset = SqlType.Moment
type_of_primitive PrimitiveType.Guid = SqlType.Guid
type_of_primitive _ = SqlType.Whole

-- the type of SQL of a value in JSON
abbrev pub type_of_field : FieldType → SqlType
type_of_field (FieldType.Prim p) = type_of_primitive p
type_of_field (FieldType.Enum id) = SqlType.Member

-- a value that an engine compares in the type as the filter compares it, or null: none in that of moments, for their
-- texts are in another order than their instants, and one instant has many texts
abbrev pub IsComparedAs : SqlType → Val → Type 0
IsComparedAs SqlType.Moment v = ⊥
IsComparedAs type v = IsOfType type v

-- what comes of a value that is compared in the type; the node has no value where the operand is another
abbrev pub OfType : SqlType → (Val → Outcome → Type 0) → Val → Outcome → Type 0
OfType type Goes v o = IsComparedAs type v × Goes v o
