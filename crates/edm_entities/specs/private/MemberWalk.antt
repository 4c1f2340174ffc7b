-- For private clauses: the members of an object that a walk has not passed yet.
use Rattle.std.specs.Prelude.{◌≡◌, ℕ, ◌+◌, length, Option, Some, None, IfSome, String, string_bytes}
use Rattle.std.specs.declared.alloc.Global.{Global}
use Rattle.std.specs.List.{AllByRecursion}
use Rattle.serde_json.specs.Data.{Data}
use Rattle.serde_json.specs.Find.{get}
use Rattle.serde_json.specs.View.{view}
use Rattle.serde_json.specs.declared.value.Value.{Value}
use Rattle.edm_entities.specs.declared.member_walk.MemberWalk.{MemberWalk}

-- the object has this value under this name
abbrev pub IsMember : Data → String Global × Value → Type 0
IsMember json member = get (string_bytes member.0) json ≡ Some (view member.1)

-- the walk has only members of the object before it
pub record IsWalkOf (json : Data) (walk : MemberWalk) : Type 0 where
  pub at_hand : IfSome walk.at_hand (λ m. IsMember json (m.0.now, m.1.now))
  pub behind : AllByRecursion (IsMember json) walk.rest

abbrev pub count_of : {X : Type 0} → Option X → ℕ
count_of None = 0
count_of (Some x) = 1

-- how many members it has before it
abbrev pub members_left : MemberWalk → ℕ
members_left walk = count_of walk.at_hand + length walk.rest
