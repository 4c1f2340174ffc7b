use Rattle.std.proofs.Common.{◌∙◌, Some, ap, sym}
use Rattle.std.specs.Option.{option_map}
use Rattle.odata_signatures.specs.PreOrder.{span_of_tree}
use Rattle.odata_checked_filter.proofs.flat.Numbered.{numbered, past_end, past_ordered}
use Rattle.odata_checked_filter.proofs.checked.Checked.span_of.Goals as goal

pub returns-in-Some : goal.returns-in-Some
returns-in-Some c =
    let is = numbered c.args.self.now c.args.node c.in-Some.found.now c.node_at.ensures.right (sym c.in-Some.ensures.same) in
    ap Some is.says.span ∙ sym (ap (option_map span_of_tree) is.ordered)

pub returns-in-None : goal.returns-in-None
returns-in-None c =
    sym (ap (option_map span_of_tree) (past_ordered c.args.self.now c.args.node c.node_at.ensures.right (past_end c.args.self.now.list.nodes c.args.node c.in-None.ensures.same)))
