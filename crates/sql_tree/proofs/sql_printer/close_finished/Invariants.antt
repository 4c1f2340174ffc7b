use Rattle.std.proofs.Common.{List, ℕ, length, reverse, string_bytes}
use Rattle.sql_tree.specs.TableModel.{table_in}
use Rattle.sql_tree.specs.declared.sql_node.SqlNode.{SqlNode}
use Rattle.sql_tree.specs.private.SqlPrinter.{Adds, Completed}
use Rattle.sql_tree.proofs.sql_printer.close_finished.Given as goal

-- a child has been written, of whatever the frames wait for
abbrev pub invariant-loop-frame : goal.invariant-loop-frame
invariant-loop-frame l = record {
  some : (nodes : List SqlNode) × (text : List ℕ)
      × Completed l.dialect (table_in l.table) l.tree.paths.items (reverse l.frames.items) nodes text;
  each : (nodes : List SqlNode) (text : List ℕ)
      → Completed l.dialect (table_in l.table) l.tree.paths.items (reverse l.fn.frames.items) nodes text
      → Adds (string_bytes l.fn.out) (string_bytes l.out) text
      (Completed l.dialect (table_in l.table) l.tree.paths.items (reverse l.frames.items) nodes);
}

abbrev pub decreases-loop-frame : goal.decreases-loop-frame
decreases-loop-frame l = length l.frames.items
