-- What is added to a draft.
use Rattle.std.specs.Prelude.{◌∷◌, [], String, length}
use Rattle.std.specs.declared.alloc.Global.{Global}
use Rattle.sql_draft.specs.declared.draft.Draft.{Draft}
use Rattle.sql_tree.specs.declared.sql_node.SqlNode.{SqlNode}
use Rattle.sql_tree.specs.declared.sql_node.SqlType.{SqlType}
use Rattle.sql_tree.specs.declared.parameter.Parameter.{Parameter}
use Rattle.sql_draft.specs.Growth.{GrowsBy}

-- a parameter of that type, the text of which meets this, and its node
pub record GrowsByText (old new : Draft) (type : SqlType) (Meets : String Global → Type 0) : Type 0 where
  pub written : String Global
  pub meets : Meets written
  pub by :
      GrowsBy old new (SqlNode.Parameter (length old.tree.parameters.items) type ∷ []) [] (Parameter.Text written ∷ [])
