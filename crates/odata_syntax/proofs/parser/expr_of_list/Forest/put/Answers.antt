use Rattle.std.proofs.Common.{ap, map, reverse, ◌∙◌}
use Rattle.odata_syntax.specs.TreeView.{tree_of}
use Rattle.odata_syntax.proofs.lists.Boxes.{trees_more}
use Rattle.odata_syntax.proofs.parser.expr_of_list.Forest.put.Goals as goal

pub returns : goal.returns
returns c =
    ap (λ boxes. reverse (map tree_of boxes)) c.in_ok-push.ensures.items ∙ trees_more c.args.self.now.trees.items c.args.tree
