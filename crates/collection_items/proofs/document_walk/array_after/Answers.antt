use Rattle.std.proofs.Common.{ℕ, List, sym, ◌∙◌, subst, arith}
use Rattle.json_room.proofs.RoomLemmas.{other_default, within_byte}
use Rattle.json_room.proofs.Places.{members_begin}
use Rattle.json_room.specs.private.ValuesStand.{NamesTo}
use Rattle.collection_items.specs.private.DocumentWalk.{EndsPair}
use Rattle.collection_items.specs.declared.document_walk.After.{After}
use Rattle.collection_items.proofs.WalkSteps.{member_passed}
use Rattle.collection_items.proofs.document_walk.array_after.Goals as goal

pub members-init : goal.members-init
members-init c = members_begin 126 c.args.document.now c.args.from c.past_blanks-place.result (λ found. Unit {0}) c.past_blanks-place.ensures tt

pub returns-then-byte-eq91 : goal.returns-then-byte-eq91
returns-then-byte-eq91 c =
    let d = c.args.document.now in
    let l = c.members in
    let named = c.in-Some.ensures in
    let bracket = c.in-Some.name.place in
    let here = sym c.byte.ensures.here ∙ c.if-byte-eq91.true in
    record {
      key = l.place;
      members = l.invariant;
      names = subst (λ (name : List ℕ). NamesTo d l.place name bracket) (named.is c.if-name.true) named.names;
      opens = (within_byte d bracket 91 here (λ e. omega arith), other_default d bracket 91 here (λ e. omega arith));
    }

pub members-preserved : goal.members-preserved
members-preserved c =
    let d = c.args.document.now in
    let end = c.in-Some-any_value_end.end in
    let next = c.in-Some-Comma.next in
    let ends : EndsPair d end (After.Comma next) = subst (EndsPair d end) c.in-Some-Comma.field-0-is c.in-Some-Comma.ensures in
    member_passed d c.args.from c.members.place c.in-Some.name end next c.members.invariant c.in-Some.ensures c.in-Some-any_value_end.ensures ends

pub members-smaller : goal.members-smaller
members-smaller c =
    let d = c.args.document.now in
    let end = c.in-Some-any_value_end.end in
    let ends : EndsPair d end (After.Comma c.in-Some-Comma.next) = subst (EndsPair d end) c.in-Some-Comma.field-0-is c.in-Some-Comma.ensures in
    omega (arith, c.in-Some.ensures.names.bounds.0, c.in-Some-any_value_end.ensures.bounds.0, ends.0, ends.1)
