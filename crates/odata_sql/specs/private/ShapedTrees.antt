-- For private clauses: trees of the code whose nodes have as many children as they take, and their texts.
use Rattle.std.specs.Prelude.{◌≡◌, ◌≤◌, String, string_bytes}
use Rattle.std.specs.declared.alloc.Global.{Global}
use Rattle.odata_sql.specs.Refusals.{most_symbols}
use Rattle.sql_tree.specs.ParserDepth.{symbols_of}
use Rattle.sql_tree.specs.Shapes.{IsShaped}
use Rattle.sql_tree.specs.TableModel.{TableModel}
use Rattle.sql_tree.specs.Term.{Term, nodes_of}
use Rattle.sql_tree.specs.TreeText.{IsWhole, text_of}
use Rattle.sql_tree.specs.declared.dialect.Dialect.{Dialect}
use Rattle.sql_tree.specs.declared.tree.SqlTree.{SqlTree}

abbrev pub IsOfShape : SqlTree → Type 0
IsOfShape tree = (t : Term) × (tree.nodes.items ≡ nodes_of t) × IsShaped t

-- each such tree with these nodes is whole, this is its text, and the engine's parser takes it
abbrev pub IsTextOfShape : Dialect → TableModel → SqlTree → String Global → Type 0
IsTextOfShape dialect table tree text =
    (t : Term) → tree.nodes.items ≡ nodes_of t → IsShaped t
    → IsWhole dialect table tree.paths.items t × (string_bytes text ≡ text_of dialect table tree.paths.items t)
    × (symbols_of t ≤ most_symbols dialect)
