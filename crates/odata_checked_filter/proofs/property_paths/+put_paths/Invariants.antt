use Rattle.std.proofs.Common.{◌-◌, ◌≤◌, List, map, string_bytes}
use Rattle.odata_syntax.specs.Tree.{Tree}
use Rattle.odata_signatures.specs.NeededPaths.{VariablePaths}
use Rattle.odata_signatures.specs.Typed.{Scope}
use Rattle.odata_checked_filter.specs.private.LambdaLines.{AreInLine}
use Rattle.odata_checked_filter.specs.private.PropertyPaths.{AreBound, bound_in}
use Rattle.odata_checked_filter.proofs.named.Trees.{IsLeft}
use Rattle.odata_checked_filter.proofs.property_paths.+put_paths.Given as goal

abbrev pub decreases-put_paths : goal.decreases-put_paths
decreases-put_paths l = l.stop - l.from

-- from the node on stand trees whose texts, put after those found so far, make those of all
abbrev pub invariant-loop-place : goal.invariant-loop-place
invariant-loop-place l =
    (l.from ≤ l.place)
    × ((trees : List Tree) → AreInLine l.context.list.now l.from l.stop trees
    → ((rest : List Tree) × AreInLine l.context.list.now l.place l.stop rest)
    × ((scope : Scope) (paths : VariablePaths) → AreBound scope paths (bound_in l.variables)
    → IsLeft l.context.list.now scope paths (map string_bytes l.fn.found.items) (map string_bytes l.found.items) l.place l.stop trees))

abbrev pub decreases-loop-place : goal.decreases-loop-place
decreases-loop-place l = l.stop - l.place
