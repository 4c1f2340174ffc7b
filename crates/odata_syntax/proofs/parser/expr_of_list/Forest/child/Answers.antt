use Rattle.std.proofs.Common.{rules, ◌≡◌, ◌∷◌, ap, map, reverse, ◌∙◌}
use Rattle.odata_syntax.specs.TreeView.{tree_of}
use Rattle.odata_syntax.proofs.lists.Boxes.{trees_more}
use Rattle.odata_syntax.proofs.parser.expr_of_list.Forest.child.Goals as goal

pub returns : goal.returns
returns c =
    let tree = c.take_last-tree.result in
    let boxed : tree ≡ c.in_ok-new.field-0.value = search rules in
    let others = c.take_last-tree.new.self.items in
    ap (λ boxes. reverse (map tree_of boxes)) c.take_last-tree.ensures.items ∙ trees_more others tree
    ∙ ap (λ box. tree_of box ∷ reverse (map tree_of others)) boxed
