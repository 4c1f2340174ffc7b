use Rattle.std.proofs.Common.{◌≡◌, ◌∙◌, List, ap, sym}
use Rattle.std.specs.List.{list_any}
use Rattle.odata_checked_filter.specs.declared.checked_node.CheckedNode.{CheckedNode}
use Rattle.odata_checked_filter.specs.private.Called.{kind_is_now}
use Rattle.odata_checked_filter.proofs.pre_orders.Calls.{now_reported}
use Rattle.odata_checked_filter.proofs.checked.Checked.uses_now.Goals as goal

pub returns : goal.returns
returns c =
    let reported = now_reported c.calls_have_one_type.ensures.named c.args.self.now c.nodes.ensures.right in
    let by_nodes : c.any_now.result ≡ list_any (λ (n : CheckedNode). kind_is_now n.kind) c.args.self.now.list.nodes =
    c.any_now.ensures ∙ ap (λ (ns : List CheckedNode). list_any (λ (n : CheckedNode). kind_is_now n.kind) ns) c.nodes.ensures.same in (
      λ answer. reported.0 (sym by_nodes ∙ answer),
      λ needs. by_nodes ∙ reported.1 needs,
    )
