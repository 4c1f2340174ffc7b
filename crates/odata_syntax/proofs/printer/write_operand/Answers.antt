use Rattle.std.proofs.Common.{◌≤◌, ◌∙◌, ℕ, [], ◌∷◌, ◌++◌, ap, arith, map, string_bytes}
use Rattle.odata_syntax.specs.declared.printer.PrintTask.TheVariants.{Close, Joint, Operand}
use Rattle.odata_syntax.specs.declared.printer.printed_tree.NodeShape.{NodeShape}
use Rattle.odata_syntax.specs.private.Printer.{listed, operand, piece_of}
use Rattle.odata_syntax.proofs.printing.Appended.{on_if_ok}
use Rattle.odata_syntax.proofs.printing.Forms.{call_form, it_form, literal_form, loose_form, name_form, negation_form, not_form, tight_form}
use Rattle.odata_syntax.proofs.printing.Joints.{joined_here}
use Rattle.odata_syntax.proofs.printing.Stack.{pieces_snoc, put_below, put_both, put_task, then_popped}
use Rattle.odata_syntax.proofs.printer.write_operand.Goals as goal

pub returns-then-own-needed-clause-written : goal.returns-then-own-needed-clause-written
unfolding lib.Utf8.encode
returns-then-own-needed-clause-written g c =
    let trees = g.T.PrintedTree.trees c.args.tree.now in
    let node = c.args.node in
    let shape = c.shape-shape.result in
    let is = c.shape-shape.ensures in
    let own = c.shape_levels-own.result.0 in
    let level = c.shape_levels-own.ensures.own in
    let needed = c.args.needed in
    let before = string_bytes c.args.text.now in
    let all = c.args.pending.now.items in
    let old = map (piece_of trees) all in
    tight_form trees node shape own is level needed before (string_bytes c.push.new.self) old _ c.if-own-needed.true c.in_ok-push.ensures.bytes
    (put_both trees all c.push-then-own-needed.new.self.items Close (Operand node 0) c.in_ok-push-2.ensures.items)

pub returns-in_ok-write_literal-in-Literal-clause-written : goal.returns-in_ok-write_literal-in-Literal-clause-written
returns-in_ok-write_literal-in-Literal-clause-written g c =
    let trees = g.T.PrintedTree.trees c.args.tree.now in
    let node = c.args.node in
    let shape = c.shape-shape.result in
    let is = c.shape-shape.ensures in
    let own = c.shape_levels-own.result.0 in
    let level = c.shape_levels-own.ensures.own in
    let needed = c.args.needed in
    let before = string_bytes c.args.text.now in
    let all = c.args.pending.now.items in
    let old = map (piece_of trees) all in
    let fits : needed ≤ own = omega (arith, c.if-own-needed.false) in
    let after = string_bytes c.write_literal.new.out in
    then_popped trees (operand needed (trees.tree_of node)) before after all c.pop.new.self.items c.pop.result c.pop.ensures.items
    (loose_form trees node shape own is level (NodeShape.Literal c.in-Literal.kind c.in-Literal.spelling) needed before after old old c.in-Literal.is fits (λ start stop. literal_form start stop c.in-Literal.kind c.in-Literal.spelling.now before after old c.in_ok-write_literal-in-Literal.ensures.ok))

pub returns-in_ok-push_str-in-It-clause-written : goal.returns-in_ok-push_str-in-It-clause-written
returns-in_ok-push_str-in-It-clause-written g c =
    let trees = g.T.PrintedTree.trees c.args.tree.now in
    let node = c.args.node in
    let shape = c.shape-shape.result in
    let is = c.shape-shape.ensures in
    let own = c.shape_levels-own.result.0 in
    let level = c.shape_levels-own.ensures.own in
    let needed = c.args.needed in
    let before = string_bytes c.args.text.now in
    let all = c.args.pending.now.items in
    let old = map (piece_of trees) all in
    let fits : needed ≤ own = omega (arith, c.if-own-needed.false) in
    let after = string_bytes c.push_str.new.self in
    then_popped trees (operand needed (trees.tree_of node)) before after all c.pop-in-It.new.self.items c.pop-in-It.result c.pop-in-It.ensures.items
    (loose_form trees node shape own is level NodeShape.It needed before after old old c.in-It.is fits (λ start stop. it_form start stop before after old c.in_ok-push_str-in-It.ensures.bytes))

pub returns-in_ok-push_str-in-Name-clause-written : goal.returns-in_ok-push_str-in-Name-clause-written
returns-in_ok-push_str-in-Name-clause-written g c =
    let trees = g.T.PrintedTree.trees c.args.tree.now in
    let node = c.args.node in
    let shape = c.shape-shape.result in
    let is = c.shape-shape.ensures in
    let own = c.shape_levels-own.result.0 in
    let level = c.shape_levels-own.ensures.own in
    let needed = c.args.needed in
    let before = string_bytes c.args.text.now in
    let all = c.args.pending.now.items in
    let old = map (piece_of trees) all in
    let fits : needed ≤ own = omega (arith, c.if-own-needed.false) in
    let after = string_bytes c.push_str-in-Name.new.self in
    then_popped trees (operand needed (trees.tree_of node)) before after all c.pop-in-Name.new.self.items c.pop-in-Name.result c.pop-in-Name.ensures.items
    (loose_form trees node shape own is level (NodeShape.Name c.in-Name.name) needed before after old old c.in-Name.is fits (λ start stop. name_form start stop c.in-Name.name.now before after old c.in_ok-push_str-in-Name.ensures.bytes))

pub returns-in_ok-push_str-in-Neg-clause-written : goal.returns-in_ok-push_str-in-Neg-clause-written
returns-in_ok-push_str-in-Neg-clause-written g c =
    let trees = g.T.PrintedTree.trees c.args.tree.now in
    let node = c.args.node in
    let shape = c.shape-shape.result in
    let is = c.shape-shape.ensures in
    let own = c.shape_levels-own.result.0 in
    let level = c.shape_levels-own.ensures.own in
    let needed = c.args.needed in
    let before = string_bytes c.args.text.now in
    let all = c.args.pending.now.items in
    let old = map (piece_of trees) all in
    let fits : needed ≤ own = omega (arith, c.if-own-needed.false) in
    let below = c.in-Neg.operand in
    let after = string_bytes c.push_str-in-Neg.new.self in
    let first = rw c.in-Neg.is at c.shape_levels-own.ensures.first in
    loose_form trees node shape own is level (NodeShape.Neg below) needed before after old _ c.in-Neg.is fits
    (λ start stop. negation_form start stop (trees.tree_of below) before after old _ c.in_ok-push_str-in-Neg.ensures.bytes
    (pieces_snoc trees all (Operand below c.shape_levels-own.result.1) ∙ ap (λ (l : ℕ). old ++ operand l (trees.tree_of below) ∷ []) first))

pub returns-in_ok-push_str-in-Not-clause-written : goal.returns-in_ok-push_str-in-Not-clause-written
returns-in_ok-push_str-in-Not-clause-written g c =
    let trees = g.T.PrintedTree.trees c.args.tree.now in
    let node = c.args.node in
    let shape = c.shape-shape.result in
    let is = c.shape-shape.ensures in
    let own = c.shape_levels-own.result.0 in
    let level = c.shape_levels-own.ensures.own in
    let needed = c.args.needed in
    let before = string_bytes c.args.text.now in
    let all = c.args.pending.now.items in
    let old = map (piece_of trees) all in
    let fits : needed ≤ own = omega (arith, c.if-own-needed.false) in
    let below = c.in-Not.operand in
    let after = string_bytes c.push_str-in-Not.new.self in
    let first = rw c.in-Not.is at c.shape_levels-own.ensures.first in
    loose_form trees node shape own is level (NodeShape.Not below) needed before after old _ c.in-Not.is fits
    (λ start stop. not_form start stop (trees.tree_of below) before after old _ c.in_ok-push_str-in-Not.ensures.bytes
    (pieces_snoc trees all (Operand below c.shape_levels-own.result.1) ∙ ap (λ (l : ℕ). old ++ operand l (trees.tree_of below) ∷ []) first))

pub returns-in_ok-push-in-Call-2-clause-written : goal.returns-in_ok-push-in-Call-2-clause-written
unfolding lib.Utf8.encode
returns-in_ok-push-in-Call-2-clause-written g c =
    let trees = g.T.PrintedTree.trees c.args.tree.now in
    let node = c.args.node in
    let shape = c.shape-shape.result in
    let is = c.shape-shape.ensures in
    let own = c.shape_levels-own.result.0 in
    let level = c.shape_levels-own.ensures.own in
    let needed = c.args.needed in
    let before = string_bytes c.args.text.now in
    let all = c.args.pending.now.items in
    let old = map (piece_of trees) all in
    let fits : needed ≤ own = omega (arith, c.if-own-needed.false) in
    let asked = c.in-Call.name in
    let arguments = c.in-Call.arguments in
    let mid = c.push-in-Call-2.new.self.items in
    on_if_ok _ _ c.put_items.result
    (λ next put. loose_form trees node shape own is level (NodeShape.Call asked arguments) needed before _ old _ c.in-Call.is fits
    (λ start stop. call_form start stop asked.now (trees.trees_of arguments) before (string_bytes c.push_str-in-Call.new.self) _ old _
    c.in_ok-push_str-in-Call.ensures.bytes c.in_ok-push-in-Call.ensures.bytes
    (put_below old (map (piece_of trees) mid) _ (piece_of trees Close) (listed (trees.trees_of arguments)) (put_task trees all mid Close c.in_ok-push-in-Call-2.ensures.items) put)))
    c.put_items.ensures.listed

pub returns-in_ok-push-in-Joined-clause-written : goal.returns-in_ok-push-in-Joined-clause-written
returns-in_ok-push-in-Joined-clause-written g c =
    let trees = g.T.PrintedTree.trees c.args.tree.now in
    let node = c.args.node in
    let shape = c.shape-shape.result in
    let is = c.shape-shape.ensures in
    let own = c.shape_levels-own.result.0 in
    let level = c.shape_levels-own.ensures.own in
    let needed = c.args.needed in
    let before = string_bytes c.args.text.now in
    let all = c.args.pending.now.items in
    let old = map (piece_of trees) all in
    let fits : needed ≤ own = omega (arith, c.if-own-needed.false) in
    let first = c.in-Joined.first in
    let rest = c.in-Joined.rest in
    let needs = rw c.in-Joined.is at c.shape_levels-own.ensures.first in
    loose_form trees node shape own is level (NodeShape.Joined first rest) needed before before old _ c.in-Joined.is fits
    (joined_here trees node shape own is level first rest before old _ c.in-Joined.is
    (put_both trees all c.push-in-Joined.new.self.items (Joint node) (Operand first c.shape_levels-own.result.1) c.in_ok-push-in-Joined.ensures.items
    ∙ ap (λ (l : ℕ). old ++ (piece_of trees (Joint node) ∷ operand l (trees.tree_of first) ∷ [])) needs))
