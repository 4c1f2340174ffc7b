use Rattle.std.proofs.Common.{◌≤◌, drop, length, reverse}
use Rattle.sql_tree.specs.TableModel.{TableModel}
use Rattle.sql_tree.proofs.Deepest.{AreCounted}
use Rattle.sql_tree.proofs.depth.parser_depth.Given as goal

abbrev pub invariant-loop-at : goal.invariant-loop-at
invariant-loop-at l = record {
  inside : l.at ≤ length l.tree.nodes.items;
  counted : (table : TableModel) → AreCounted table l.tree.paths.items (drop l.at l.tree.nodes.items) (reverse l.depths.items);
}

abbrev pub decreases-loop-at : goal.decreases-loop-at
decreases-loop-at l = l.at
