use Rattle.std.proofs.Common.{map, string_bytes}
use Rattle.odata_syntax.specs.private.Printer.{IsPending, IsReady, operand, piece_of, waiting, weight}
use Rattle.odata_syntax.proofs.printer.print_tree.Given as goal

-- after the text stands what waits, and the whole is the canonical text
abbrev pub invariant-loop-next : goal.invariant-loop-next
invariant-loop-next g l =
    let trees = g.T.PrintedTree.trees l.tree in
    IsPending (operand 0 (trees.tree_of l.fn.root)) (string_bytes l.text) (map (piece_of trees) (waiting l.pending.items l.next))
    × IsReady trees l.pending.items l.next

abbrev pub decreases-loop-next : goal.decreases-loop-next
decreases-loop-next g l = weight (map (piece_of (g.T.PrintedTree.trees l.tree)) (waiting l.pending.items l.next))
