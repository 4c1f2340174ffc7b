use Rattle.std.proofs.Common.{◌≡◌, ◌+◌, [], ℕ, List, drop, length, reverse, sym, ap, subst, arith, string_bytes, ◌∷◌, ◌∙◌}
use Rattle.std.proofs.lemmas.List.{drop_all}
use Rattle.sql_tree.specs.TableModel.{table_in}
use Rattle.sql_tree.specs.TreeText.{text_of}
use Rattle.sql_tree.specs.declared.printer_frames.Frame.{Frame}
use Rattle.sql_tree.specs.declared.sql_node.SqlNode.{SqlNode}
use Rattle.sql_tree.specs.private.SqlPrinter.{Adds, Completed, GoesOn}
use Rattle.sql_tree.proofs.Printing.{begun, both_added, ended, fits, from_node, inner_read_there, leaf_read_there, moved, on_top}
use Rattle.sql_tree.proofs.sql_printer.print.Goals.{then-arity_of-eq0+in_ok-write_leaf+in_ok-close_finished, else-arity_of-eq0+in_ok-write_opening+in_ok-push}
use Rattle.sql_tree.proofs.sql_printer.print.Goals as goal

pub loop-node-init : goal.loop-node-init
loop-node-init c = λ t is.
    let dialect = c.args.dialect in
    let table = table_in c.args.table.now in
    let paths = c.args.tree.now.paths.items in
    let text = text_of dialect table paths t in
    let none : reverse c.new-frames.result.items ≡ [] = ap reverse c.new-frames.ensures.items in
    subst (λ (fs : List Frame). Adds [] (string_bytes c.new-out.result) text (GoesOn dialect table paths fs c.args.tree.now.nodes.items)) (sym none)
    (subst (λ (bytes : List ℕ). Adds [] bytes text (GoesOn dialect table paths [] c.args.tree.now.nodes.items)) (sym c.new-out.ensures.bytes)
    (begun dialect table paths t c.args.tree.now.nodes.items is.nodes_are is.whole))

pub write_leaf-requires-clause-one : goal.write_leaf-requires-clause-one
write_leaf-requires-clause-one c =
    let dialect = c.args.dialect in
    let table = table_in c.args.table.now in
    let paths = c.args.tree.now.paths.items in
    let nodes = c.args.tree.now.nodes.items in
    let l = c.loop-node in
    let node = c.node-item.result in
    let rest = from_node nodes c.as_slice-node-items.result.now l.node-index node c.as_slice-node-items.ensures.value c.loop-node-test.true c.node-item.is in
    let now = l.invariant c.requires.0 c.requires.1 in
    let fit = fits dialect table paths (reverse l.frames.items) node (drop (l.node-index + 1) nodes) (string_bytes l.out) _
    (subst (λ (ns : List SqlNode). Adds [] (string_bytes l.out) (text_of dialect table paths c.requires.0) (GoesOn dialect table paths (reverse l.frames.items) ns)) rest now) in
    let arity = c.arity_of.ensures table paths fit.2 fit.0 in
    omega (arith, arity, c.if-arity_of-eq0.true)

pub write_leaf-requires-clause-named : goal.write_leaf-requires-clause-named
write_leaf-requires-clause-named c =
    let dialect = c.args.dialect in
    let table = table_in c.args.table.now in
    let paths = c.args.tree.now.paths.items in
    let nodes = c.args.tree.now.nodes.items in
    let l = c.loop-node in
    let node = c.node-item.result in
    let rest = from_node nodes c.as_slice-node-items.result.now l.node-index node c.as_slice-node-items.ensures.value c.loop-node-test.true c.node-item.is in
    (fits dialect table paths (reverse l.frames.items) node (drop (l.node-index + 1) nodes) (string_bytes l.out) _
    (subst (λ (ns : List SqlNode). Adds [] (string_bytes l.out) (text_of dialect table paths c.requires.0) (GoesOn dialect table paths (reverse l.frames.items) ns)) rest (l.invariant c.requires.0 c.requires.1))).1

pub write_leaf-requires-clause-fit : goal.write_leaf-requires-clause-fit
write_leaf-requires-clause-fit c =
    let dialect = c.args.dialect in
    let table = table_in c.args.table.now in
    let paths = c.args.tree.now.paths.items in
    let nodes = c.args.tree.now.nodes.items in
    let l = c.loop-node in
    let node = c.node-item.result in
    let rest = from_node nodes c.as_slice-node-items.result.now l.node-index node c.as_slice-node-items.ensures.value c.loop-node-test.true c.node-item.is in
    (fits dialect table paths (reverse l.frames.items) node (drop (l.node-index + 1) nodes) (string_bytes l.out) _
    (subst (λ (ns : List SqlNode). Adds [] (string_bytes l.out) (text_of dialect table paths c.requires.0) (GoesOn dialect table paths (reverse l.frames.items) ns)) rest (l.invariant c.requires.0 c.requires.1))).2

pub close_finished-requires : goal.close_finished-requires
close_finished-requires c =
    let dialect = c.args.dialect in
    let table = table_in c.args.table.now in
    let paths = c.args.tree.now.paths.items in
    let nodes = c.args.tree.now.nodes.items in
    let l = c.loop-node in
    let node = c.node-item.result in
    let frames = reverse l.frames.items in
    let rest = from_node nodes c.as_slice-node-items.result.now l.node-index node c.as_slice-node-items.ensures.value c.loop-node-test.true c.node-item.is in
    let text = text_of dialect table paths c.requires.0 in
    let now = subst (λ (ns : List SqlNode). Adds [] (string_bytes l.out) text (GoesOn dialect table paths frames ns)) rest (l.invariant c.requires.0 c.requires.1) in
    let fit = fits dialect table paths frames node (drop (l.node-index + 1) nodes) (string_bytes l.out) text now in
    let arity = c.arity_of.ensures table paths fit.2 fit.0 in
    let read = leaf_read_there dialect table paths frames node (drop (l.node-index + 1) nodes) (string_bytes l.out) (string_bytes c.write_leaf.new.out) text now
    (omega (arith, arity, c.if-arity_of-eq0.true)) c.in_ok-write_leaf.ensures in
    (drop (l.node-index + 1) nodes, read.rest, read.left)

pub write_opening-requires-clause-some : goal.write_opening-requires-clause-some
write_opening-requires-clause-some c =
    let dialect = c.args.dialect in
    let table = table_in c.args.table.now in
    let paths = c.args.tree.now.paths.items in
    let nodes = c.args.tree.now.nodes.items in
    let l = c.loop-node in
    let node = c.node-item.result in
    let rest = from_node nodes c.as_slice-node-items.result.now l.node-index node c.as_slice-node-items.ensures.value c.loop-node-test.true c.node-item.is in
    let fit = fits dialect table paths (reverse l.frames.items) node (drop (l.node-index + 1) nodes) (string_bytes l.out) _
    (subst (λ (ns : List SqlNode). Adds [] (string_bytes l.out) (text_of dialect table paths c.requires.0) (GoesOn dialect table paths (reverse l.frames.items) ns)) rest (l.invariant c.requires.0 c.requires.1)) in
    let arity = c.arity_of.ensures table paths fit.2 fit.0 in
    omega (arith, arity, c.if-arity_of-eq0.false)

pub write_opening-requires-clause-named : goal.write_opening-requires-clause-named
write_opening-requires-clause-named c =
    let dialect = c.args.dialect in
    let table = table_in c.args.table.now in
    let paths = c.args.tree.now.paths.items in
    let nodes = c.args.tree.now.nodes.items in
    let l = c.loop-node in
    let node = c.node-item.result in
    let rest = from_node nodes c.as_slice-node-items.result.now l.node-index node c.as_slice-node-items.ensures.value c.loop-node-test.true c.node-item.is in
    (fits dialect table paths (reverse l.frames.items) node (drop (l.node-index + 1) nodes) (string_bytes l.out) _
    (subst (λ (ns : List SqlNode). Adds [] (string_bytes l.out) (text_of dialect table paths c.requires.0) (GoesOn dialect table paths (reverse l.frames.items) ns)) rest (l.invariant c.requires.0 c.requires.1))).1

pub returns : goal.returns
returns c = λ t is.
    let dialect = c.args.dialect in
    let table = table_in c.args.table.now in
    let paths = c.args.tree.now.paths.items in
    let nodes = c.args.tree.now.nodes.items in
    let l = c.loop-node in
    let long = ap length c.as_slice-node-items.ensures.value in
    let none : drop l.node-index nodes ≡ [] = drop_all l.node-index nodes (omega (arith, long, c.loop-node-test.false)) in
    let text = text_of dialect table paths t in
    ended dialect table paths (reverse l.frames.items) (string_bytes l.out) text
    (subst (λ (ns : List SqlNode). Adds [] (string_bytes l.out) text (GoesOn dialect table paths (reverse l.frames.items) ns)) none (l.invariant t is))

pub loop-node-preserved : goal.loop-node-preserved
loop-node-preserved c = λ t is.
    let dialect = c.args.dialect in
    let table = table_in c.args.table.now in
    let paths = c.args.tree.now.paths.items in
    let nodes = c.args.tree.now.nodes.items in
    let l = c.loop-node in
    let node = c.node-item.result in
    let frames = reverse l.frames.items in
    let more = drop (l.node-index + 1) nodes in
    let text = text_of dialect table paths t in
    let out = string_bytes c.if-arity_of-eq0.out in
    let rest = from_node nodes c.as_slice-node-items.result.now l.node-index node c.as_slice-node-items.ensures.value c.loop-node-test.true c.node-item.is in
    let now = subst (λ (ns : List SqlNode). Adds [] (string_bytes l.out) text (GoesOn dialect table paths frames ns)) rest (l.invariant t is) in
    let fit = fits dialect table paths frames node more (string_bytes l.out) text now in
    let arity = c.arity_of.ensures table paths fit.2 fit.0 in
    elim c.if-arity_of-eq0.branch [
      | then-arity_of-eq0+in_ok-write_leaf+in_ok-close_finished w ↦
          let written = string_bytes w.write_leaf.new.out in
          let read = leaf_read_there dialect table paths frames node more (string_bytes l.out) written text now (omega (arith, arity, w.if-arity_of-eq0.true)) w.in_ok-write_leaf.ensures in
          moved dialect table paths out (string_bytes w.close_finished.new.out) text (reverse c.if-arity_of-eq0.frames.items) (reverse w.close_finished.new.frames.items) more
          (ap string_bytes w.out-is) (ap (λ v. reverse v.items) w.frames-is)
          (both_added [] written (string_bytes w.close_finished.new.out) text (Completed dialect table paths frames more)
          (GoesOn dialect table paths (reverse w.close_finished.new.frames.items) more) read (λ r completed. w.in_ok-close_finished.ensures more r completed))
      | else-arity_of-eq0+in_ok-write_opening+in_ok-push w ↦
          let frame : Frame = record { node = node; done = 0 } in
          let begun_there = inner_read_there dialect table paths frames node more (string_bytes l.out) (string_bytes w.write_opening.new.out) text now
          (omega (arith, arity, w.if-arity_of-eq0.false)) w.in_ok-write_opening.ensures in
          moved dialect table paths out (string_bytes w.write_opening.new.out) text (reverse c.if-arity_of-eq0.frames.items) (frame ∷ frames) more
          (ap string_bytes w.out-is) (ap (λ v. reverse v.items) w.frames-is ∙ on_top w.push.new.self.items l.frames.items frame w.in_ok-push.ensures.items) begun_there
    ]
