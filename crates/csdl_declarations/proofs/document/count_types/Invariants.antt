use Rattle.std.proofs.Common.{◌≡◌, ◌+◌, ◌≤◌, drop, count_by, is_some}
use Rattle.csdl_declarations.specs.TypeKind.{type_kind_in}
use Rattle.csdl_declarations.specs.private.DocumentView.{declarations_of}
use Rattle.csdl_declarations.proofs.document.count_types.Given as goal

-- those so far and those of the rest are all
abbrev pub invariant-loop-declaration : goal.invariant-loop-declaration
invariant-loop-declaration l =
    (l.count ≤ l.declaration-index)
    × (l.count + count_by (λ t. is_some (type_kind_in t.body)) (declarations_of (drop l.declaration-index l.declarations)) ≡ count_by (λ t. is_some (type_kind_in t.body)) (declarations_of l.declarations))
