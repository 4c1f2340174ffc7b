use Rattle.std.proofs.Common.{◌≡◌, ◌++◌, drop, option_map}
use Rattle.csdl_declarations.specs.Declarations.{types_among}
use Rattle.csdl_declarations.specs.private.DocumentView.{members_of, declarations_of}
use Rattle.csdl_declarations.proofs.declaration.add_members.Given as goal

-- the types so far and those of the rest
abbrev pub invariant-loop-member : goal.invariant-loop-member
invariant-loop-member l =
    declarations_of l.types.items ++ types_among l.namespace (option_map (λ s. s.now) l.alias) (members_of (drop l.member-index l.members))
    ≡ declarations_of l.fn.types.items ++ types_among l.namespace (option_map (λ s. s.now) l.alias) (members_of l.members)
