-- The kinds of values that nodes have, by their types, and which values are of a kind.
use Rattle.std.specs.Prelude.{◌≡◌}
use Rattle.sql_draft.specs.declared.sql_context.Kind.{Kind}
use Rattle.sql_tree.specs.declared.sql_node.SqlType.{SqlType}

-- two values of one type
pub record AreAlike (left right : Kind) : Type 0 where
  pub type_of : SqlType
  pub left_is : left ≡ Kind.Value type_of
  pub right_is : right ≡ Kind.Value type_of
