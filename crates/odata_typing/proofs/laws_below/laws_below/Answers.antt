use Rattle.odata_typing.proofs.laws_below.laws_below.Goals as goal

pub returns : goal.returns
returns c = record {
  one_type = c.trees_have_one_type.ensures;
  clear = c.typed_trees_are_clear.ensures;
  below = c.children_come_first.ensures.below;
  itself = c.children_come_first.ensures.itself;
  kept = c.nodes_stand_where_they_are_put.ensures.kept;
  changes = c.nodes_stand_where_they_are_put.ensures.changes;
  put = c.nodes_stand_where_they_are_put.ensures.put;
  operands = c.unread_operands_go_by_types.ensures.operands;
  flags = c.unread_operands_go_by_types.ensures.flags;
  items = c.unread_operands_go_by_types.ensures.items;
  apart = c.unread_operands_go_by_types.ensures.apart;
  quotes = c.quoting_trees_are_texts.ensures;
  spans = record {
    solid = c.spans_take_bytes.ensures;
    hold = c.spans_hold.ensures;
    in_order = c.children_apart.ensures.order;
  };
}
