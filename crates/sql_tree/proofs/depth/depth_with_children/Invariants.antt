use Rattle.std.proofs.Common.{List, reverse}
use Rattle.sql_tree.specs.TableModel.{TableModel}
use Rattle.sql_tree.specs.Term.{Terms, term}
use Rattle.sql_tree.specs.TreeText.{IsWhole}
use Rattle.sql_tree.specs.declared.dialect.Dialect.{Dialect}
use Rattle.sql_tree.specs.declared.json_path.Path.{Path}
use Rattle.sql_tree.specs.private.Depths.{AreDepths, joined}
use Rattle.sql_tree.proofs.Deepest.{IsPartway}
use Rattle.sql_tree.proofs.depth.depth_with_children.Given as goal

abbrev pub invariant-loop-done : goal.invariant-loop-done
invariant-loop-done l =
    (table : TableModel) (paths : List Path) (children rest : Terms) → IsWhole Dialect.Sqlite table paths (term l.node children) → AreDepths (reverse l.fn.depths.items) (joined children rest)
    → IsPartway l.node children rest l.done l.deepest (reverse l.depths.items)
