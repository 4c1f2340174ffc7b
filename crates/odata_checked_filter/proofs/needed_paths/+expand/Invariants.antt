use Rattle.std.proofs.Common.{ℕ, ◌+◌, ◌*◌, ◌-◌, ◌≤◌, List}
use Rattle.odata_syntax.specs.Tree.{Tree}
use Rattle.odata_signatures.specs.NeededPaths.{VariablePaths}
use Rattle.odata_signatures.specs.Typed.{Scope}
use Rattle.odata_checked_filter.specs.private.NeededPaths.{LeadThere, StandInLine, nodes_in}
use Rattle.odata_checked_filter.proofs.needed.Lines.{IsLeft}
use Rattle.odata_checked_filter.proofs.needed_paths.+expand.Given as goal

-- the nodes from an index to another count first, and of the same ones a lambda operator comes before its run
abbrev pub run_between : ℕ → ℕ → ℕ
run_between from stop = 2 * (stop - from)

abbrev pub lambda_between : ℕ → ℕ → ℕ
lambda_between from stop = run_between from stop + 1

abbrev pub decreases-expand : goal.decreases-expand
decreases-expand l = run_between l.from l.stop

abbrev pub decreases-expand_lambda : goal.decreases-expand_lambda
decreases-expand_lambda l = lambda_between l.places.now.base l.places.now.stop

-- after the node stand trees with which the set so far makes that of all
abbrev pub invariant-expand-loop-place : goal.invariant-expand-loop-place
invariant-expand-loop-place l =
    (l.from ≤ l.place)
    × ((scope : Scope) (paths : VariablePaths) (trees : List Tree) → StandInLine l.context.schema.now l.context.filtered_type scope l.context.list.now l.from l.stop trees
    → LeadThere l.fn.expansion scope paths (nodes_in l.variables)
    → IsLeft l.context.schema.now l.context.filtered_type scope l.context.list.now paths l.fn.expansion l.expansion l.place l.stop trees)

abbrev pub decreases-expand-loop-place : goal.decreases-expand-loop-place
decreases-expand-loop-place l = l.stop - l.place
