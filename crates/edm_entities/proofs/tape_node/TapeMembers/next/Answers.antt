use Rattle.std.proofs.Common.{◌≡◌, List, Some, None, subst}
use Rattle.json.specs.Token.{Token}
use Rattle.serde_json.specs.Data.{put}
use Rattle.edm_entities.specs.private.TapeNodes.{data_on, members_on}
use Rattle.edm_entities.proofs.TapeLemmas.MemberTokens.{next_member}
use Rattle.edm_entities.proofs.tape_node.TapeMembers.next.Goals as goal

pub returns-in_default-clause-next : goal.returns-in_default-clause-next
returns-in_default-clause-next c = λ found.
    subst (λ (ts : List Token). members_on found ts ≡ found) c.self.view_is
    (next_member c.self.inside.members c.next.new.self None c.self.invariant c.in_default.ensures.value found)

pub invariant_of-result : goal.invariant_of-result
invariant_of-result c =
    (next_member c.self.inside.members c.next.new.self (Some (c.in-Some.name.now, c.in-Some.element)) c.self.invariant c.in-Some.ensures.value).0

pub invariant_of-self-2 : goal.invariant_of-self-2
invariant_of-self-2 c =
    (next_member c.self.inside.members c.next.new.self (Some (c.in-Some.name.now, c.in-Some.element)) c.self.invariant c.in-Some.ensures.value).1

pub returns-clause-next : goal.returns-clause-next
returns-clause-next c = λ found.
    let one = next_member c.self.inside.members c.next.new.self (Some (c.in-Some.name.now, c.in-Some.element)) c.self.invariant c.in-Some.ensures.value in
    subst (λ (ts : List Token). members_on found ts ≡ members_on (put c.in-Some.name.now (data_on c.in-Some.element) found) c.next.new.self) c.self.view_is
    (one.2 found)
