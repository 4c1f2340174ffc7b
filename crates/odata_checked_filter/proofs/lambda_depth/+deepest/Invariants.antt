use Rattle.std.proofs.Common.{◌-◌, ◌≤◌, ◌+◌, List}
use Rattle.odata_syntax.specs.Tree.{Tree}
use Rattle.odata_checked_filter.specs.private.LambdaLines.{AreInLine, deepest_of}
use Rattle.odata_checked_filter.proofs.nesting.Lines.{IsRemaining}
use Rattle.odata_checked_filter.proofs.lambda_depth.+deepest.Given as goal

abbrev pub decreases-deepest : goal.decreases-deepest
decreases-deepest l = l.stop - l.from

-- after the node stand trees with which the depth so far makes that of all
abbrev pub invariant-loop-place : goal.invariant-loop-place
invariant-loop-place l =
    (l.depth + l.from ≤ l.place)
    × ((trees : List Tree) → AreInLine l.list l.from l.stop trees → IsRemaining l.list l.place l.stop l.depth (deepest_of trees))

abbrev pub decreases-loop-place : goal.decreases-loop-place
decreases-loop-place l = l.stop - l.place
