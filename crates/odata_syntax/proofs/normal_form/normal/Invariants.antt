use Rattle.odata_syntax.specs.TreeView.{tree_of}
use Rattle.odata_syntax.specs.private.Forests.{forest_trees}
use Rattle.odata_syntax.specs.private.NormalForm.{IsReady, all_wanted, work}
use Rattle.odata_syntax.proofs.normal_form.normal.Given as goal

-- what waits ends in the normal form of the whole
abbrev pub invariant-loop-task : goal.invariant-loop-task
invariant-loop-task l = IsReady (all_wanted l.pending.items) (forest_trees l.forest) (tree_of l.expr)

abbrev pub decreases-loop-task : goal.decreases-loop-task
decreases-loop-task l = work (all_wanted l.pending.items)
