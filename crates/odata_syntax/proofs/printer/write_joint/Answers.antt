use Rattle.std.proofs.Common.{◌∙◌, ℕ, [], ◌∷◌, ◌++◌, List, ap, append_assoc, arith, map, refl, string_bytes}
use Rattle.std.specs.Prelude.{codes}
use Rattle.odata_syntax.specs.Tree.{any_item, count, member, shape_of}
use Rattle.odata_syntax.specs.declared.printer.PrintTask.TheVariants.{Close}
use Rattle.odata_syntax.specs.declared.printer.printed_tree.AfterFirst.{AfterFirst}
use Rattle.odata_syntax.specs.private.Printer.{after_first, listed, piece_of}
use Rattle.odata_syntax.proofs.printing.Appended.{on_if_ok}
use Rattle.odata_syntax.proofs.printing.Joints.{after_in, after_text, joint_of, nothing_of}
use Rattle.odata_syntax.proofs.printing.Stack.{popped_ready, put_below, put_task, then_popped}
use Rattle.odata_syntax.proofs.printer.write_joint.Goals as goal

pub returns-in_default : goal.returns-in_default
returns-in_default g c =
    let trees = g.T.PrintedTree.trees c.args.tree.now in
    let text = string_bytes c.args.text.now in
    let all = c.args.pending.now.items in
    record {
      written = then_popped trees (after_first (shape_of (trees.tree_of c.args.node))) text text all c.pop.new.self.items c.pop.result c.pop.ensures.items
          (nothing_of trees c.args.node c.shape.result c.shape.ensures text (map (piece_of trees) all) c.in_default.not-Joined);
      ready = popped_ready trees all c.pop.new.self.items c.pop.result _ _ c.pop.ensures.items c.pop.ensures.cases c.pop.ensures.rest;
    }

pub returns-in_ok-push_str-in-Member-clause-written : goal.returns-in_ok-push_str-in-Member-clause-written
unfolding lib.Utf8.encode
returns-in_ok-push_str-in-Member-clause-written g c =
    let trees = g.T.PrintedTree.trees c.args.tree.now in
    let before = string_bytes c.args.text.now in
    let after = string_bytes c.push_str.new.self in
    let all = c.args.pending.now.items in
    let old = map (piece_of trees) all in
    let asked = c.in-Member.name.now in
    then_popped trees (after_first (shape_of (trees.tree_of c.args.node))) before after all c.pop-in-Member.new.self.items c.pop-in-Member.result c.pop-in-Member.ensures.items
    (joint_of trees c.args.node c.shape.result c.shape.ensures c.in-Joined.first c.in-Joined.rest (AfterFirst.Member c.in-Member.name) before after old old c.in-Joined.is c.in-Member.is
    (after_text (member (trees.tree_of c.in-Joined.first) asked) (47 ∷ asked) before after old (omega arith) refl
    (c.in_ok-push_str-in-Member.ensures.bytes ∙ ap (λ (t : List ℕ). t ++ asked) c.in_ok-push-in-Member.ensures.bytes ∙ append_assoc before (47 ∷ []) asked)))

pub returns-in_ok-push_str-in-Count-clause-written : goal.returns-in_ok-push_str-in-Count-clause-written
returns-in_ok-push_str-in-Count-clause-written g c =
    let trees = g.T.PrintedTree.trees c.args.tree.now in
    let before = string_bytes c.args.text.now in
    let after = string_bytes c.push_str-in-Count.new.self in
    let all = c.args.pending.now.items in
    let old = map (piece_of trees) all in
    then_popped trees (after_first (shape_of (trees.tree_of c.args.node))) before after all c.pop-in-Count.new.self.items c.pop-in-Count.result c.pop-in-Count.ensures.items
    (joint_of trees c.args.node c.shape.result c.shape.ensures c.in-Joined.first c.in-Joined.rest AfterFirst.Count before after old old c.in-Joined.is c.in-Count.is
    (after_text (count (trees.tree_of c.in-Joined.first)) (codes "/$count") before after old (omega arith) refl c.in_ok-push_str-in-Count.ensures.bytes))

pub returns-in_ok-push_str-in-AnyItem-clause-written : goal.returns-in_ok-push_str-in-AnyItem-clause-written
returns-in_ok-push_str-in-AnyItem-clause-written g c =
    let trees = g.T.PrintedTree.trees c.args.tree.now in
    let before = string_bytes c.args.text.now in
    let after = string_bytes c.push_str-in-AnyItem.new.self in
    let all = c.args.pending.now.items in
    let old = map (piece_of trees) all in
    then_popped trees (after_first (shape_of (trees.tree_of c.args.node))) before after all c.pop-in-AnyItem.new.self.items c.pop-in-AnyItem.result c.pop-in-AnyItem.ensures.items
    (joint_of trees c.args.node c.shape.result c.shape.ensures c.in-Joined.first c.in-Joined.rest AfterFirst.AnyItem before after old old c.in-Joined.is c.in-AnyItem.is
    (after_text (any_item (trees.tree_of c.in-Joined.first)) (codes "/any()") before after old (omega arith) refl c.in_ok-push_str-in-AnyItem.ensures.bytes))

pub returns-in_ok-push-in-InList-clause-written : goal.returns-in_ok-push-in-InList-clause-written
returns-in_ok-push-in-InList-clause-written g c =
    let trees = g.T.PrintedTree.trees c.args.tree.now in
    let before = string_bytes c.args.text.now in
    let all = c.args.pending.now.items in
    let old = map (piece_of trees) all in
    let mid = c.push-in-InList.new.self.items in
    let items = trees.trees_of c.in-InList.items in
    on_if_ok _ _ c.put_items.result
    (λ next put. joint_of trees c.args.node c.shape.result c.shape.ensures c.in-Joined.first c.in-Joined.rest (AfterFirst.InList c.in-InList.items) before _ old _
    c.in-Joined.is c.in-InList.is
    (after_in (trees.tree_of c.in-Joined.first) items before _ old _ c.in_ok-push_str-in-InList.ensures.bytes
    (put_below old (map (piece_of trees) mid) _ (piece_of trees Close) (listed items) (put_task trees all mid Close c.in_ok-push-in-InList.ensures.items) put)))
    c.put_items.ensures.listed
