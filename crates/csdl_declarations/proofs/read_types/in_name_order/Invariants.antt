use Rattle.std.proofs.Common.{◌≡◌, ◌≤◌, drop, length}
use Rattle.std.specs.BTreeMap.{IsOrdered}
use Rattle.std.specs.String.{string_cmp}
use Rattle.csdl_declarations.specs.Declarations.{in_name_order}
use Rattle.csdl_declarations.specs.private.DocumentView.{declarations_of, types_of, AreNamed}
use Rattle.csdl_declarations.proofs.read_types.in_name_order.Given as goal

-- those from the index on are in order
abbrev pub invariant-loop-index : goal.invariant-loop-index
invariant-loop-index l = record {
  within : l.index ≤ length l.declarations;
  named : AreNamed l.ordered.entries;
  ordered : IsOrdered string_cmp l.ordered;
  types : types_of l.ordered.entries ≡ in_name_order (declarations_of (drop l.index l.declarations));
}

abbrev pub decreases-loop-index : goal.decreases-loop-index
decreases-loop-index l = l.index
