use Rattle.std.proofs.Common.{◌≡◌, ◌∙◌, ◌∷◌, ap, Result, Ok, Err, IfOk, sym, length, map, reverse, take, arith}
use Rattle.std.proofs.Math.Seq.{take-length}
use Rattle.odata_syntax.specs.PostOrder.{last_tree, trees_in}
use Rattle.odata_syntax.specs.TreeView.{tree_of}
use Rattle.odata_syntax.specs.private.Forests.{forest_trees, token_texts}
use Rattle.odata_syntax.proofs.lists.Boxes.{boxes_fed, boxes_grown, trees_size}
use Rattle.odata_syntax.proofs.lists.Counts.{trees_length}
use Rattle.odata_syntax.proofs.parser.expr_of_list.root_of_list.Goals as goal

pub loop-node-init : goal.loop-node-init
loop-node-init c = ap (λ boxes. reverse (map tree_of boxes)) c.new.ensures.items

pub grow-requires : goal.grow-requires
grow-requires c =
    boxes_fed (token_texts c.args.tokens.now) c.args.nodes.now c.loop-node.node-index _ c.loop-node.forest.trees.items
    c.requires.fed (omega arith) c.loop-node.invariant

pub loop-node-preserved : goal.loop-node-preserved
loop-node-preserved c =
    boxes_grown (token_texts c.args.tokens.now) c.args.nodes.now c.loop-node.node-index _ _
    c.loop-node.forest.trees.items c.grow.new.self.trees.items
    (omega arith) c.in_ok-text.ensures c.loop-node.invariant c.in_ok-grow.ensures

pub child-requires : goal.child-requires
child-requires c =
    let texts = token_texts c.args.tokens.now in
    let whole : take c.loop-node.node-index c.args.nodes.now ≡ c.args.nodes.now = ap (λ k. take k c.args.nodes.now) (omega arith) ∙ take-length c.args.nodes.now in
    let many = ap (λ trees. length trees) (c.loop-node.invariant ∙ ap (λ ns. trees_in texts ns) whole) in
    let size = trees_size c.loop-node.forest.trees.items in
    let counted = trees_length texts c.args.nodes.now in
    let one = c.requires.one in
    omega arith

if_ok : {A E : Type 0} (r : Result A E) (P Q : A → Type 0) → ((x : A) → P x → Q x) → IfOk r P → IfOk r Q
if_ok (Ok x) P Q f given = f x given
if_ok (Err e) P Q f given = tt

pub returns : goal.returns
returns c =
    let texts = token_texts c.args.tokens.now in
    let whole : take c.loop-node.node-index c.args.nodes.now ≡ c.args.nodes.now = ap (λ k. take k c.args.nodes.now) (omega arith) ∙ take-length c.args.nodes.now in
    if_ok c.child.result (λ child. forest_trees c.loop-node.forest ≡ tree_of child.value ∷ forest_trees c.child.new.self) (λ root. tree_of root.value ≡ last_tree (trees_in texts c.args.nodes.now))
    (λ child grown. sym (ap (λ trees. last_tree trees) grown) ∙ ap (λ trees. last_tree trees) (c.loop-node.invariant ∙ ap (λ ns. trees_in texts ns) whole))
    c.child.ensures
