use Rattle.std.proofs.Common.{option_map, sym, ap, ◌∙◌, subst}
use Rattle.std.specs.List.{AllByRecursion}
use Rattle.serde_json.specs.View.{view, members_view}
use Rattle.edm_entities.specs.private.MemberWalk.{IsMember}
use Rattle.edm_entities.proofs.SlotLemmas.ObjectMembers.{members_all, first_member}
use Rattle.edm_entities.proofs.member_walk.members_of.Goals as goal

pub returns-in-Some-clause-walk : goal.returns-in-Some-clause-walk
returns-in-Some-clause-walk c =
    let json = view c.args.json.now in
    let map = c.in-Some.members.now in
    let object = sym c.as_object.ensures ∙ ap (option_map (λ m. members_view m.now.entries)) c.in-Some.is in
    let each = subst (AllByRecursion (IsMember json)) (sym c.iter-rest.ensures.rest) (members_all json map object c.iter-rest.ensures.found) in
    let split = first_member json c.iter-rest.result c.next-at_hand.result c.next-at_hand.new.self each c.next-at_hand.ensures.steps in
    record { at_hand = split.0; behind = split.1 }
