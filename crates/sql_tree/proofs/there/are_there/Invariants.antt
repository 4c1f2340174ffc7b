use Rattle.sql_tree.specs.Shapes.{IsThere}
use Rattle.sql_tree.specs.TableModel.{table_in}
use Rattle.sql_tree.proofs.Elements.{LeftAll}
use Rattle.sql_tree.proofs.there.are_there.Given as goal

abbrev pub invariant-loop-node : goal.invariant-loop-node
invariant-loop-node l = LeftAll (IsThere (table_in l.table) l.tree.paths.items) l.nodes l.node-index
