use Rattle.std.proofs.Common.{[], drop, reverse, string_bytes}
use Rattle.sql_tree.specs.Printed.{IsListOf}
use Rattle.sql_tree.specs.TableModel.{table_in}
use Rattle.sql_tree.specs.Term.{Term}
use Rattle.sql_tree.specs.TreeText.{text_of}
use Rattle.sql_tree.specs.private.SqlPrinter.{Adds, GoesOn}
use Rattle.sql_tree.proofs.sql_printer.print.Given as goal

-- the nodes from one on are to come
abbrev pub invariant-loop-node : goal.invariant-loop-node
invariant-loop-node l =
    (t : Term) → IsListOf l.dialect (table_in l.table) l.tree t
    → Adds [] (string_bytes l.out) (text_of l.dialect (table_in l.table) l.tree.paths.items t)
    (GoesOn l.dialect (table_in l.table) l.tree.paths.items (reverse l.frames.items) (drop l.node-index l.tree.nodes.items))
