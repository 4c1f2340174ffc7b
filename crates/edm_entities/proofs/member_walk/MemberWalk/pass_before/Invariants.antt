use Rattle.serde_json.specs.Data.{Data}
use Rattle.edm_entities.specs.private.MemberWalk.{IsWalkOf, members_left}
use Rattle.edm_entities.proofs.member_walk.MemberWalk.pass_before.Given as goal

-- it stays a walk over the same object
abbrev pub invariant-loop-self : goal.invariant-loop-self
invariant-loop-self l = (json : Data) → IsWalkOf json l.fn.self → IsWalkOf json l.self

abbrev pub decreases-loop-self : goal.decreases-loop-self
decreases-loop-self l = members_left l.self
