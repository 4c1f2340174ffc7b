-- For private clauses: how many children a node has.
use Rattle.std.specs.Prelude.{◌≡◌, ◌<◌, ◌+◌, ℕ, List, length}
use Rattle.sql_tree.specs.NodePieces.{node_pieces}
use Rattle.sql_tree.specs.TableModel.{TableModel}
use Rattle.sql_tree.specs.TreeText.{CountsFit}
use Rattle.sql_tree.specs.declared.dialect.Dialect.{Dialect}
use Rattle.sql_tree.specs.declared.sql_node.SqlNode.{SqlNode}
use Rattle.sql_tree.specs.declared.json_path.Path.{Path}

-- it has one piece more, over whatever table and paths it has pieces
abbrev pub HasArity : Dialect → SqlNode → ℕ → Type 0
HasArity dialect node arity =
    (table : TableModel) (paths : List Path) → CountsFit node → 0 < length (node_pieces dialect table paths node)
    → length (node_pieces dialect table paths node) ≡ arity + 1
