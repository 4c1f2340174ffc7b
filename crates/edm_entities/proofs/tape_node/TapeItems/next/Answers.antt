use Rattle.std.proofs.Common.{◌≡◌, List, Some, None, subst}
use Rattle.json.specs.Token.{Token}
use Rattle.edm_entities.specs.private.JsonNodes.{IsNextItem}
use Rattle.edm_entities.specs.private.TapeNodes.{data_on, items_on}
use Rattle.edm_entities.proofs.TapeLemmas.Items.{next_item, none_next, one_next}
use Rattle.edm_entities.proofs.tape_node.TapeItems.next.Goals as goal

pub returns-in_default-clause-next : goal.returns-in_default-clause-next
returns-in_default-clause-next c =
    let none = next_item c.self.inside.items c.next.new.self None c.self.invariant c.in_default.ensures.value in
    subst (λ (ts : List Token). IsNextItem (items_on ts) None (items_on c.next.new.self)) c.self.view_is
    (none_next c.self.inside.items c.next.new.self none c.in_default.ensures.stays)

pub invariant_of-result : goal.invariant_of-result
invariant_of-result c = (next_item c.self.inside.items c.next.new.self (Some c.in-Some.element) c.self.invariant c.in-Some.ensures.value).0

pub invariant_of-self-2 : goal.invariant_of-self-2
invariant_of-self-2 c = (next_item c.self.inside.items c.next.new.self (Some c.in-Some.element) c.self.invariant c.in-Some.ensures.value).1

pub returns-clause-next : goal.returns-clause-next
returns-clause-next c =
    let one = next_item c.self.inside.items c.next.new.self (Some c.in-Some.element) c.self.invariant c.in-Some.ensures.value in
    subst (λ (ts : List Token). IsNextItem (items_on ts) (Some (data_on c.in-Some.element)) (items_on c.next.new.self)) c.self.view_is
    (one_next c.self.inside.items c.next.new.self c.in-Some.element one.2)
