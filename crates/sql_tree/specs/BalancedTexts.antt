-- Parentheses and quotes in the texts of trees.
use Rattle.std.specs.Prelude.{ℕ, List}
use Rattle.csdl_schema.specs.Document.{StandsFor}
use Rattle.sql_tree.specs.Parentheses.{AreBalanced}
use Rattle.sql_tree.specs.TableModel.{TableModel}
use Rattle.sql_tree.specs.Term.{Term}
use Rattle.sql_tree.specs.TreeText.{IsWhole, text_of}
use Rattle.sql_tree.specs.declared.dialect.Dialect.{Dialect}
use Rattle.sql_tree.specs.declared.json_path.Path.{Path}

-- they are balanced in the text of each tree that can be written over a table of a schema that some document stands
-- for; the table's columns may have any names
abbrev pub AreTextsBalanced : Type 0
AreTextsBalanced =
    (document : List ℕ) (dialect : Dialect) (table : TableModel) (paths : List Path) (t : Term)
    → StandsFor document table.schema → IsWhole dialect table paths t → AreBalanced (text_of dialect table paths t)
