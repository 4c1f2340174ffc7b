use Rattle.std.proofs.Common.{◌≡◌, ◌++◌, map}
use Rattle.std.specs.List.{AllByRecursion, flat_map}
use Rattle.csdl_declarations.specs.DeclaredType.{IsBodyInOrder, declared_type}
use Rattle.csdl_declarations.specs.DeclaredTypeView.{types_view}
use Rattle.csdl_declarations.specs.Faults.{type_faults}
use Rattle.csdl_declarations.specs.private.DocumentView.{types_of, AreNamed}
use Rattle.csdl_declarations.proofs.read_types.read_types.Given as goal

-- each so far is in order, the faults are those of the rest, and the types those so far and those of the rest
abbrev pub invariant-loop-name : goal.invariant-loop-name
invariant-loop-name l =
    AreNamed l.name-iterator
    × (flat_map type_faults (types_of l.name-iterator) ≡ flat_map type_faults (types_of l.fn.ordered.entries))
    × (types_view l.types.items ++ map declared_type (types_of l.name-iterator) ≡ map declared_type (types_of l.fn.ordered.entries))
    × AllByRecursion (λ t. IsBodyInOrder t.body) (types_view l.types.items)
