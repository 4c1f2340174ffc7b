use Rattle.std.proofs.Common.{◌≡◌, List, Option, Some, None, MatchOption, subst}
use Rattle.json.specs.Token.{Token}
use Rattle.serde_json.specs.Data.{no_members}
use Rattle.serde_json.specs.Find.{as_object}
use Rattle.edm_entities.specs.private.TapeNodes.{AreMembersOn, data_on, members_on}
use Rattle.edm_entities.proofs.TapeLemmas.Nodes.{members_are}
use Rattle.edm_entities.proofs.tape_node.TapeNode.members.Goals as goal

abbrev Found : List Token → Option (List Token) → Type 0
Found tokens o = MatchOption o (as_object (data_on tokens) ≡ None) (λ rest. AreMembersOn rest × (as_object (data_on tokens) ≡ Some (members_on no_members rest)))

pub invariant_of-result : goal.invariant_of-result
invariant_of-result c =
    (subst (Found c.self.inside.element) c.in-Some.is (members_are c.self.inside.element c.self.invariant c.members.result c.members.ensures)).0

pub returns-in-Some-clause-members : goal.returns-in-Some-clause-members
returns-in-Some-clause-members c =
    subst (λ (ts : List Token). as_object (data_on ts) ≡ Some (members_on no_members c.in-Some.members)) c.self.view_is
    (subst (Found c.self.inside.element) c.in-Some.is (members_are c.self.inside.element c.self.invariant c.members.result c.members.ensures)).1

pub returns-in-None-clause-none : goal.returns-in-None-clause-none
returns-in-None-clause-none c = λ _.
    subst (λ (ts : List Token). as_object (data_on ts) ≡ None) c.self.view_is
    (subst (Found c.self.inside.element) c.in-None.is (members_are c.self.inside.element c.self.invariant c.members.result c.members.ensures))
