-- The kinds of values that nodes have, by their types, and which values are of a kind.
use Rattle.std.specs.Prelude.{◌≡◌}
use Rattle.edm_values.specs.Val.{Val, null, fields, items}
use Rattle.odata_signatures.specs.declared.edm_type.EdmType.{EdmType}
use Rattle.odata_signatures.specs.declared.edm_type.ValueType.{ValueType}
use Rattle.sql_draft.specs.declared.sql_context.Kind.{Kind}
use Rattle.sql_meaning.specs.SqlTypeHolds.{IsOfType, type_of_primitive}
use Rattle.sql_tree.specs.declared.sql_node.FieldType.{FieldType}
use Rattle.sql_tree.specs.declared.sql_node.SqlType.{SqlType}

abbrev pub kind_of_single : ValueType → Kind
kind_of_single (ValueType.Prim p) = Kind.Value (type_of_primitive p)
kind_of_single (ValueType.Enum id) = Kind.Value SqlType.Member
kind_of_single (ValueType.Structured id) = Kind.Structured

abbrev pub kind_of_type : EdmType → Kind
kind_of_type EdmType.Null = Kind.Null
kind_of_type (EdmType.Single type) = kind_of_single type
kind_of_type (EdmType.Collection type) = Kind.Structured

-- the type of one value that has that type in JSON
abbrev pub single_of : FieldType → ValueType
single_of (FieldType.Prim p) = ValueType.Prim p
single_of (FieldType.Enum id) = ValueType.Enum id

-- a record, a list or null
abbrev pub IsStructured : Val → Type 0
IsStructured null = Unit {0}
IsStructured (fields held) = Unit {0}
IsStructured (items values) = Unit {0}
IsStructured v = ⊥

abbrev pub IsOfKind : Kind → Val → Type 0
IsOfKind Kind.Null v = v ≡ null
IsOfKind (Kind.Value type) v = IsOfType type v
IsOfKind Kind.Structured v = IsStructured v

-- kinds of two sides that a comparison takes: null beside anything, or two values of one type
abbrev pub AreCompared : Kind → Kind → Type 0
AreCompared Kind.Null right = Unit {0}
AreCompared left Kind.Null = Unit {0}
AreCompared (Kind.Value s) (Kind.Value t) = s ≡ t
AreCompared left right = ⊥
