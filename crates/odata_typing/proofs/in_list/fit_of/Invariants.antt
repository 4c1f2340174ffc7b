use Rattle.std.proofs.Common.{◌-◌, List}
use Rattle.csdl_schema.specs.SchemaModel.{slots_of}
use Rattle.odata_signatures.specs.CollectionTyped.{IsCollection}
use Rattle.odata_signatures.specs.TypeView.{expr_type}
use Rattle.odata_checked_filter.specs.declared.checked_node.CheckedNode.{CheckedNode}
use Rattle.odata_typing.specs.declared.in_list.ItemsFit.{ItemsFit}
use Rattle.odata_typing.proofs.placed.ItemLoops.{SeenItems}
use Rattle.odata_typing.proofs.in_list.fit_of.Given as goal

-- the items so far may stand after the operand
abbrev pub invariant-loop-item : goal.invariant-loop-item
invariant-loop-item l = record {
  single : ¬ IsCollection (expr_type l.schema l.left);
  so_far : (seen : List CheckedNode) × SeenItems (slots_of l.schema) l.schema (expr_type l.schema l.left) l.walk.list l.items l.item l.stop seen ItemsFit.All;
}

abbrev pub decreases-loop-item : goal.decreases-loop-item
decreases-loop-item l = l.stop - l.item
