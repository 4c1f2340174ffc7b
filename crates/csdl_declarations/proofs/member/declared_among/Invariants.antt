use Rattle.std.proofs.Common.{◌≡◌, ◌++◌}
use Rattle.serde_json.specs.View.{members_view}
use Rattle.csdl_declarations.specs.Members.{declared_among}
use Rattle.csdl_declarations.specs.private.DocumentView.{members_of}
use Rattle.csdl_declarations.proofs.member.declared_among.Given as goal

-- what was found, and what is declared by the rest
abbrev pub invariant-loop-key : goal.invariant-loop-key
invariant-loop-key l = members_of l.found.items ++ declared_among (members_view l.key-iterator) ≡ declared_among (members_view l.members.entries)
