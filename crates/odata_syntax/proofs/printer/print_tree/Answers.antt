use Rattle.std.proofs.Common.{map, string_bytes}
use Rattle.odata_syntax.specs.private.Printer.{operand, piece_of}
use Rattle.odata_syntax.proofs.printing.Stack.{ended, on_top, others_there, step}
use Rattle.odata_syntax.proofs.printer.print_tree.Goals as goal

pub loop-next-preserved : goal.loop-next-preserved
loop-next-preserved g c =
    let trees = g.T.PrintedTree.trees c.args.tree.now in
    let tasks = c.loop-next.pending.items in
    let task = c.in-Some.task in
    let now = rw c.in-Some.is at c.loop-next.invariant in (
      step (operand 0 (trees.tree_of c.args.root)) (string_bytes c.loop-next.text) (string_bytes c.write_task.new.text) (map (piece_of trees) tasks) _ (piece_of trees task)
          (on_top trees (operand 0 (trees.tree_of c.args.root)) (string_bytes c.loop-next.text) tasks task now.0) c.in_ok-next.ensures.written,
      c.in_ok-next.ensures.ready (others_there trees tasks task now.1.have),
    )

pub returns : goal.returns
returns g c =
    let trees = g.T.PrintedTree.trees c.args.tree.now in
    ended trees (trees.tree_of c.args.root) (string_bytes c.loop-next.text) c.loop-next.pending.items c.loop-next.next c.in_default.is c.loop-next.invariant.1 c.loop-next.invariant.0
