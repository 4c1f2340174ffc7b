use Rattle.std.proofs.Common.{◌≡◌, drop, map, take}
use Rattle.odata_syntax.specs.TreeView.{tree_of}
use Rattle.odata_syntax.specs.private.Forests.{forest_trees}
use Rattle.odata_syntax.proofs.parser.expr_of_list.Forest.items.Given as goal

-- the last trees so far, the last one first, and those before them
abbrev pub invariant-loop : goal.invariant-loop
invariant-loop l = record {
  taken : map tree_of l.items.items ≡ take l.counter (forest_trees l.initial.self);
  left : forest_trees l.self ≡ drop l.counter (forest_trees l.initial.self);
}
