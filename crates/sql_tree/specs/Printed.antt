-- What is printed of a tree of the code.
use Rattle.std.specs.Prelude.{◌≡◌, string_bytes, String}
use Rattle.std.specs.declared.alloc.Global.{Global}
use Rattle.sql_tree.specs.TableModel.{TableModel}
use Rattle.sql_tree.specs.Term.{Term, nodes_of}
use Rattle.sql_tree.specs.TreeText.{IsWhole, text_of}
use Rattle.sql_tree.specs.declared.dialect.Dialect.{Dialect}
use Rattle.sql_tree.specs.declared.tree.SqlTree.{SqlTree}

-- its nodes are those of one tree, which can be written over the table
pub record IsListOf (dialect : Dialect) (table : TableModel) (tree : SqlTree) (t : Term) : Type 0 where
  pub nodes_are : tree.nodes.items ≡ nodes_of t
  pub whole : IsWhole dialect table tree.paths.items t

abbrev pub IsOfTree : Dialect → TableModel → SqlTree → Type 0
IsOfTree dialect table tree = (t : Term) × IsListOf dialect table tree t

-- the text of that tree
abbrev pub IsTextOf : Dialect → TableModel → SqlTree → String Global → Type 0
IsTextOf dialect table tree text =
    (t : Term) → IsListOf dialect table tree t → string_bytes text ≡ text_of dialect table tree.paths.items t
