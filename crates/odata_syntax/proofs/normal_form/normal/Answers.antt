use Rattle.std.proofs.Common.{◌≡◌, ◌∙◌, [], ◌∷◌, ◌++◌, List, ap, arith, map, reverse}
use Rattle.odata_syntax.specs.declared.node.Node.{Node}
use Rattle.odata_syntax.specs.declared.normal_form.Task.{Task}
use Rattle.odata_syntax.specs.declared.normal_form.Task.TheVariants.{Whole}
use Rattle.odata_syntax.specs.TreeView.{tree_of}
use Rattle.odata_syntax.specs.private.Forests.{forest_trees}
use Rattle.odata_syntax.specs.private.NormalForm.{all_wanted, wanted, whole, work}
use Rattle.odata_syntax.proofs.lists.Boxes.{trees_size}
use Rattle.odata_syntax.proofs.normal_forms.Making.{last_made, one_made, put_task, ready_first, ready_next, ready_last}
use Rattle.odata_syntax.proofs.normal_forms.NormalDerived.{normal_expression}
use Rattle.odata_syntax.proofs.normal_forms.NormalTrees.{AreSpellings}
use Rattle.odata_syntax.proofs.normal_form.normal.Goals as goal

pub loop-task-init : goal.loop-task-init
loop-task-init c =
    ready_first (tree_of c.args.expr.now) (Whole c.root.result) c.push.new.self.items _
    (ap (λ (n : Node). whole (tree_of n)) c.root.ensures.root)
    (c.in_ok-push.ensures.items ∙ ap (λ (ts : List Task). ts ++ Whole c.root.result ∷ []) c.new-pending.ensures.items)
    (ap (λ (boxes : List Node). reverse (map tree_of boxes)) c.new.ensures.items)

pub make-requires : goal.make-requires
make-requires c =
    let root = tree_of c.args.expr.now in (
      root,
      ready_next root c.loop-task.pending.items c.pop.new.self.items c.in-Some.task (forest_trees c.loop-task.forest)
          c.in-Some.ensures.items c.loop-task.invariant,
    )

pub loop-task-preserved : goal.loop-task-preserved
loop-task-preserved c =
    let root = tree_of c.args.expr.now in
    c.in_ok-make.ensures.ready root (ready_next root c.loop-task.pending.items c.pop.new.self.items c.in-Some.task (forest_trees c.loop-task.forest)
    c.in-Some.ensures.items c.loop-task.invariant)

pub loop-task-smaller : goal.loop-task-smaller
loop-task-smaller c =
    let same : work (all_wanted c.loop-task.pending.items) ≡ work (wanted c.in-Some.task ∷ all_wanted c.pop.new.self.items) =
    ap work (put_task c.pop.new.self.items c.loop-task.pending.items c.in-Some.task c.in-Some.ensures.items) in
    omega (arith, same, c.in_ok-make.ensures.lighter)

pub child-requires : goal.child-requires
child-requires c =
    let last = ready_last (tree_of c.args.expr.now) (forest_trees c.loop-task.forest) c.pop.result c.loop-task.pending.items c.pop.new.self.items _ _
    c.in_default.is c.pop.ensures.items c.pop.ensures.cases c.pop.ensures.rest c.loop-task.invariant in
    let one = one_made (tree_of c.args.expr.now) (forest_trees c.loop-task.forest) last in
    let size = trees_size c.loop-task.forest.trees.items in
    omega (arith, one, size)

pub new-requires-2 : goal.new-requires-2
new-requires-2 c =
    let law : AreSpellings = record { one = c.literals_have_one_spelling.ensures.one; spelled = c.literals_have_one_spelling.ensures.spelled; again = c.literals_have_one_spelling.ensures.again } in
    let last = ready_last (tree_of c.args.expr.now) (forest_trees c.loop-task.forest) c.pop.result c.loop-task.pending.items c.pop.new.self.items _ _
    c.in_default.is c.pop.ensures.items c.pop.ensures.cases c.pop.ensures.rest c.loop-task.invariant in
    normal_expression law (tree_of c.args.expr.now) (tree_of c.in_ok-root.root.value) c.root.ensures.derived
    (last_made (tree_of c.args.expr.now) (tree_of c.in_ok-root.root.value) (forest_trees c.loop-task.forest) (forest_trees c.child.new.self) last c.in_ok-root.ensures)
