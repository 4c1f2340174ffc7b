use Rattle.std.proofs.Common.{◌<◌, ◌≤◌, ◌+◌, [], ◌∷◌, List, length, reverse, refl, sym, ap, subst, append-nil, arith, inr, string_bytes}
use Rattle.sql_tree.specs.NodePieces.{node_pieces}
use Rattle.sql_tree.specs.private.PiecesView.{piece_at}
use Rattle.sql_tree.specs.TableModel.{table_in}
use Rattle.sql_tree.specs.declared.printer_frames.Frame.{Frame}
use Rattle.sql_tree.specs.private.SqlPrinter.{Adds, Completed, Expecting, GoesOn}
use Rattle.sql_tree.proofs.Printing.{all_taken, emptied, last_child, more_added, next_child, none_waits, on_top, waits}
use Rattle.sql_tree.proofs.sql_printer.close_finished.Goals as goal

pub loop-frame-init : goal.loop-frame-init
loop-frame-init c = record {
  some = c.requires;
  each = λ nodes text is. record { added = []; rest = text; after_is = sym (append-nil (string_bytes c.args.out.now)); text_is = refl; left = is };
}

pub overflow_add-done : goal.overflow_add-done
overflow_add-done c =
    let dialect = c.args.dialect in
    let table = table_in c.args.table.now in
    let paths = c.args.tree.now.paths.items in
    let some = c.loop-frame.invariant.some in
    let at = subst (λ (fs : List Frame). Completed dialect table paths fs some.0 some.1) (on_top c.loop-frame.frames.items c.pop.new.self.items c.in-Some.frame c.in-Some.ensures.items) some.2 in
    let w = waits dialect table paths c.in-Some.frame (reverse c.pop.new.self.items) some.0 some.1 at in
    let arity = c.arity_of-arity.ensures table paths w.2 (omega (arith, w.0)) in
    omega (arith, w.0, arity)

pub write_after-requires-clause-some : goal.write_after-requires-clause-some
write_after-requires-clause-some c = omega arith

pub write_after-requires-clause-few : goal.write_after-requires-clause-few
write_after-requires-clause-few c =
    let dialect = c.args.dialect in
    let table = table_in c.args.table.now in
    let paths = c.args.tree.now.paths.items in
    let some = c.loop-frame.invariant.some in
    let at = subst (λ (fs : List Frame). Completed dialect table paths fs some.0 some.1) (on_top c.loop-frame.frames.items c.pop.new.self.items c.in-Some.frame c.in-Some.ensures.items) some.2 in
    (waits dialect table paths c.in-Some.frame (reverse c.pop.new.self.items) some.0 some.1 at).0

pub write_after-requires-clause-named : goal.write_after-requires-clause-named
write_after-requires-clause-named c =
    let dialect = c.args.dialect in
    let table = table_in c.args.table.now in
    let paths = c.args.tree.now.paths.items in
    let some = c.loop-frame.invariant.some in
    let at = subst (λ (fs : List Frame). Completed dialect table paths fs some.0 some.1) (on_top c.loop-frame.frames.items c.pop.new.self.items c.in-Some.frame c.in-Some.ensures.items) some.2 in
    (waits dialect table paths c.in-Some.frame (reverse c.pop.new.self.items) some.0 some.1 at).1

pub write_after-requires-clause-fit : goal.write_after-requires-clause-fit
write_after-requires-clause-fit c =
    let dialect = c.args.dialect in
    let table = table_in c.args.table.now in
    let paths = c.args.tree.now.paths.items in
    let some = c.loop-frame.invariant.some in
    let at = subst (λ (fs : List Frame). Completed dialect table paths fs some.0 some.1) (on_top c.loop-frame.frames.items c.pop.new.self.items c.in-Some.frame c.in-Some.ensures.items) some.2 in
    (waits dialect table paths c.in-Some.frame (reverse c.pop.new.self.items) some.0 some.1 at).2

pub loop-frame-preserved : goal.loop-frame-preserved
loop-frame-preserved c =
    let dialect = c.args.dialect in
    let table = table_in c.args.table.now in
    let paths = c.args.tree.now.paths.items in
    let l = c.loop-frame in
    let frame = c.in-Some.frame in
    let frames = reverse c.pop.new.self.items in
    let top = on_top l.frames.items c.pop.new.self.items frame c.in-Some.ensures.items in
    let some = l.invariant.some in
    let at = subst (λ (fs : List Frame). Completed dialect table paths fs some.0 some.1) top some.2 in
    let w = waits dialect table paths frame frames some.0 some.1 at in
    let arity = c.arity_of-arity.ensures table paths w.2 (omega (arith, w.0)) in
    let few : length (node_pieces dialect table paths frame.node) ≤ frame.done + 2 = omega (arith, arity, c.if-done-arity.false) in
    let left = last_child dialect table paths frame frames some.0 some.1 at few in
    record {
      some = (some.0, left.0, left.2);
      each = λ nodes text is.
          more_added (string_bytes c.args.out.now) (string_bytes l.out) (string_bytes c.write_after.new.out) text
          (piece_at (node_pieces dialect table paths frame.node) (frame.done + 1))
          (Completed dialect table paths (reverse l.frames.items) nodes) (Completed dialect table paths frames nodes)
          (l.invariant.each nodes text is) c.in_ok-write_after.ensures
          (λ rest waiting. last_child dialect table paths frame frames nodes rest (subst (λ (fs : List Frame). Completed dialect table paths fs nodes rest) top waiting) few);
    }

pub loop-frame-smaller : goal.loop-frame-smaller
loop-frame-smaller c = let is = ap length c.in-Some.ensures.items in omega (arith, is, c.in-Some.ensures)

pub returns-then-done-arity : goal.returns-then-done-arity
returns-then-done-arity c nodes text is =
    let dialect = c.args.dialect in
    let table = table_in c.args.table.now in
    let paths = c.args.tree.now.paths.items in
    let l = c.loop-frame in
    let frame = c.in-Some.frame in
    let frames = reverse c.pop.new.self.items in
    let next : Frame = record { node = frame.node; done = frame.done + 1 } in
    let top = on_top l.frames.items c.pop.new.self.items frame c.in-Some.ensures.items in
    let some = l.invariant.some in
    let at = subst (λ (fs : List Frame). Completed dialect table paths fs some.0 some.1) top some.2 in
    let w = waits dialect table paths frame frames some.0 some.1 at in
    let arity = c.arity_of-arity.ensures table paths w.2 (omega (arith, w.0)) in
    let more : frame.done + 2 < length (node_pieces dialect table paths frame.node) = omega (arith, arity, c.if-done-arity.true) in
    let pushed = on_top c.push.new.self.items c.pop.new.self.items next c.in_ok-push.ensures.items in
    let now = more_added (string_bytes c.args.out.now) (string_bytes l.out) (string_bytes c.write_after.new.out) text
    (piece_at (node_pieces dialect table paths frame.node) (frame.done + 1))
    (Completed dialect table paths (reverse l.frames.items) nodes) (Expecting dialect table paths (next ∷ frames) nodes)
    (l.invariant.each nodes text is) c.in_ok-write_after.ensures
    (λ rest waiting. next_child dialect table paths frame frames nodes rest (subst (λ (fs : List Frame). Completed dialect table paths fs nodes rest) top waiting) more) in
    subst (λ (fs : List Frame). Adds (string_bytes c.args.out.now) (string_bytes c.write_after.new.out) text (GoesOn dialect table paths fs nodes)) (sym pushed)
    (record { added = now.added; rest = now.rest; after_is = now.after_is; text_is = now.text_is; left = inr now.left })

pub returns : goal.returns
returns c nodes text is =
    let dialect = c.args.dialect in
    let table = table_in c.args.table.now in
    let paths = c.args.tree.now.paths.items in
    let l = c.loop-frame in
    let taken = all_taken c.pop.result l.frames.items c.pop.new.self.items _ _ c.in_default.is c.pop.ensures.items c.pop.ensures.cases c.pop.ensures.rest in
    let none = emptied c.pop.result l.frames.items c.pop.new.self.items _ _ c.in_default.is c.pop.ensures.items c.pop.ensures.cases c.pop.ensures.rest in
    let all = l.invariant.each nodes text is in
    let waiting : Completed dialect table paths (reverse c.pop.new.self.items) nodes all.rest =
    subst (λ (fs : List Frame). Completed dialect table paths (reverse fs) nodes all.rest) taken all.left in
    record {
      added = all.added;
      rest = all.rest;
      after_is = all.after_is;
      text_is = all.text_is;
      left = none_waits dialect table paths (reverse c.pop.new.self.items) nodes all.rest (ap reverse none) waiting;
    }
