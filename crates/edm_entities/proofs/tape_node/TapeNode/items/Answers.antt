use Rattle.std.proofs.Common.{◌≡◌, List, Option, Some, None, MatchOption, sym, subst}
use Rattle.json.specs.Token.{Token}
use Rattle.serde_json.specs.Find.{as_array}
use Rattle.edm_entities.specs.private.TapeNodes.{AreItemsOn, data_on, items_on}
use Rattle.edm_entities.proofs.TapeLemmas.Nodes.{items_are}
use Rattle.edm_entities.proofs.tape_node.TapeNode.items.Goals as goal

abbrev Found : List Token → Option (List Token) → Type 0
Found tokens o = MatchOption o (as_array (data_on tokens) ≡ None) (λ rest. AreItemsOn rest × (as_array (data_on tokens) ≡ Some (items_on rest)))

pub invariant_of-result : goal.invariant_of-result
invariant_of-result c =
    (subst (Found c.self.inside.element) c.in-Some.is (items_are c.self.inside.element c.self.invariant c.items.result c.items.ensures)).0

pub returns-in-Some : goal.returns-in-Some
returns-in-Some c =
    subst (λ (ts : List Token). Some (items_on c.in-Some.items) ≡ as_array (data_on ts)) c.self.view_is
    (sym (subst (Found c.self.inside.element) c.in-Some.is (items_are c.self.inside.element c.self.invariant c.items.result c.items.ensures)).1)

pub returns-in-None : goal.returns-in-None
returns-in-None c =
    subst (λ (ts : List Token). None ≡ as_array (data_on ts)) c.self.view_is
    (sym (subst (Found c.self.inside.element) c.in-None.is (items_are c.self.inside.element c.self.invariant c.items.result c.items.ensures)))
