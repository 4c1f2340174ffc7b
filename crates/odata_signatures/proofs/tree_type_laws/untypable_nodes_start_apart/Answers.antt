use Rattle.odata_signatures.proofs.untypable.OneStart.{one_untypable_start}
use Rattle.odata_signatures.proofs.tree_type_laws.untypable_nodes_start_apart.Goals as goal

pub returns : goal.returns
returns c = one_untypable_start (record {
  one_call = c.calls_have_one_type.ensures.one;
  apart = c.children_apart.ensures.apart;
  hold = c.spans_hold.ensures;
  solid = c.spans_take_bytes.ensures;
})
