use Rattle.std.proofs.Common.{◌-◌}
use Rattle.csdl_schema.specs.SchemaModel.{slots_of}
use Rattle.odata_signatures.specs.TypeView.{expr_type}
use Rattle.odata_typing.proofs.placed.ItemLoops.{PutSoFar}
use Rattle.odata_typing.proofs.in_list.put_items.Given as goal

-- what has been found of the items so far, and put for them
abbrev pub invariant-loop-item : goal.invariant-loop-item
invariant-loop-item l =
    PutSoFar (slots_of l.schema) l.schema (expr_type l.schema l.left) l.initial.walk l.walk l.items l.item l.stop l.fit

abbrev pub decreases-loop-item : goal.decreases-loop-item
decreases-loop-item l = l.stop - l.item
