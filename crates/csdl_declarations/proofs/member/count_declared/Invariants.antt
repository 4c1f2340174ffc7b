use Rattle.std.proofs.Common.{◌≡◌, ◌≤◌, ◌+◌, length}
use Rattle.serde_json.specs.View.{members_view}
use Rattle.csdl_declarations.specs.Members.{declared_among}
use Rattle.csdl_declarations.proofs.member.count_declared.Given as goal

-- no more than there are so far; so many, and those of the rest
abbrev pub invariant-loop-key : goal.invariant-loop-key
invariant-loop-key l = record {
  within : l.count + length l.key-iterator ≤ length l.members.entries;
  counted : l.count + length (declared_among (members_view l.key-iterator)) ≡ length (declared_among (members_view l.members.entries));
}
