use Rattle.std.proofs.Common.{[], ◌∷◌, map, string_bytes}
use Rattle.odata_syntax.specs.Tree.{no_trees}
use Rattle.odata_syntax.specs.declared.printer.PrintTask.TheVariants.{Close, Further, Operand}
use Rattle.odata_syntax.specs.private.Printer.{further, piece_of}
use Rattle.odata_syntax.proofs.printing.Forms.{further_form, none_further, plain_form}
use Rattle.odata_syntax.proofs.printing.Stack.{put_both, then_popped}
use Rattle.odata_syntax.proofs.printer.write_task.Goals as goal

pub returns-in_default-clause-written : goal.returns-in_default-clause-written
returns-in_default-clause-written g c =
    let trees = g.T.PrintedTree.trees c.args.tree.now in
    let text = string_bytes c.args.text.now in
    let all = c.args.pending.now.items in
    let none = rw c.in_default.is at c.split_items.ensures in
    rw (c.in-Further.is, none) (then_popped trees (further no_trees) text text all c.pop.new.self.items c.pop.result c.pop.ensures.items (none_further text (map (piece_of trees) all)))

pub returns-in_ok-push-in-Further-2-clause-written : goal.returns-in_ok-push-in-Further-2-clause-written
unfolding lib.Utf8.encode
returns-in_ok-push-in-Further-2-clause-written g c =
    let trees = g.T.PrintedTree.trees c.args.tree.now in
    let all = c.args.pending.now.items in
    rw (c.in-Further.is, c.in-Some.ensures.whole)
    (further_form _ _ (string_bytes c.args.text.now) (string_bytes c.push.new.self) (map (piece_of trees) all) _
    c.in_ok-push-in-Further.ensures.bytes
    (put_both trees all c.push-in-Further.new.self.items (Further _) (Operand _ 0) c.in_ok-push-in-Further-2.ensures.items))

pub returns-in_ok-push-in-Close-clause-written : goal.returns-in_ok-push-in-Close-clause-written
unfolding lib.Utf8.encode
returns-in_ok-push-in-Close-clause-written g c =
    let trees = g.T.PrintedTree.trees c.args.tree.now in
    let before = string_bytes c.args.text.now in
    let after = string_bytes c.push-in-Close.new.self in
    let all = c.args.pending.now.items in
    rw c.in-Close.is (then_popped trees (piece_of trees Close) before after all c.pop-in-Close.new.self.items c.pop-in-Close.result c.pop-in-Close.ensures.items
    (plain_form (41 ∷ []) before after (map (piece_of trees) all) c.in_ok-push-in-Close.ensures.bytes))
