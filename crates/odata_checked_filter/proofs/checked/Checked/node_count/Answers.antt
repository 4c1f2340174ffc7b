use Rattle.std.proofs.Common.{ap, ◌∙◌, List, length}
use Rattle.odata_checked_filter.specs.declared.checked_node.CheckedNode.{CheckedNode}
use Rattle.odata_checked_filter.proofs.flat.Numbered.{count_of}
use Rattle.odata_checked_filter.proofs.checked.Checked.node_count.Goals as goal

pub returns : goal.returns
returns c = ap (λ (xs : List CheckedNode). length xs) c.nodes.ensures.same ∙ count_of c.args.self.now c.nodes.ensures.right
