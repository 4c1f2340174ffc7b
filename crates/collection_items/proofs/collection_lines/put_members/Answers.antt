use Rattle.std.proofs.Common.{IfSome, Option, false, subst, arith}
use Rattle.json_room.proofs.Places.{members_begin}
use Rattle.collection_items.specs.private.DocumentWalk.{EndsPair, HasLines, PassesValue}
use Rattle.collection_items.specs.declared.collection_lines.MemberValue.{MemberValue}
use Rattle.collection_items.specs.declared.document_walk.After.{After}
use Rattle.collection_items.proofs.ItemLineSteps.{lines_after, lines_then_brace, lines_then_comma, no_truth}
use Rattle.collection_items.proofs.collection_lines.put_members.Goals as goal

pub members-init : goal.members-init
members-init c =
    members_begin 126 c.args.document.now c.args.from c.past_blanks-place.result (HasLines c.args.document.now false c.args.lines.now.items) c.past_blanks-place.ensures
    (λ is. absurd (no_truth is))

pub returns-then-has_array : goal.returns-then-has_array
returns-then-has_array c =
    let d = c.args.document.now in
    let l = c.members in
    let value = c.in-Ok-Some.value in
    let next = c.in-Some-Close.next in
    let ends : EndsPair d value.end (After.Close next) = subst (EndsPair d value.end) c.in-Some-Close.field-0-is c.in-Some-Close.ensures in
    let passes = subst (λ (found : Option MemberValue). IfSome found (PassesValue d c.in-Some.name l.has_array l.lines.items c.pass_value.new.lines.items)) c.in-Ok-Some.field-0-is c.in-Ok-Some.ensures in
    let read = lines_after d c.args.from l.place c.in-Some.name l.has_array l.lines.items c.pass_value.new.lines.items value l.invariant c.in-Some.ensures passes in
    lines_then_brace d c.args.from value.end next value.has_array c.pass_value.new.lines.items c.if-has_array.true read ends

pub members-preserved : goal.members-preserved
members-preserved c =
    let d = c.args.document.now in
    let l = c.members in
    let value = c.in-Ok-Some.value in
    let next = c.in-Some-Comma.next in
    let ends : EndsPair d value.end (After.Comma next) = subst (EndsPair d value.end) c.in-Some-Comma.field-0-is c.in-Some-Comma.ensures in
    let passes = subst (λ (found : Option MemberValue). IfSome found (PassesValue d c.in-Some.name l.has_array l.lines.items c.pass_value.new.lines.items)) c.in-Ok-Some.field-0-is c.in-Ok-Some.ensures in
    let read = lines_after d c.args.from l.place c.in-Some.name l.has_array l.lines.items c.pass_value.new.lines.items value l.invariant c.in-Some.ensures passes in
    lines_then_comma d c.args.from value.end next value.has_array c.pass_value.new.lines.items read ends

pub members-smaller : goal.members-smaller
members-smaller c =
    let d = c.args.document.now in
    let l = c.members in
    let value = c.in-Ok-Some.value in
    let passes = subst (λ (found : Option MemberValue). IfSome found (PassesValue d c.in-Some.name l.has_array l.lines.items c.pass_value.new.lines.items)) c.in-Ok-Some.field-0-is c.in-Ok-Some.ensures in
    let ends : EndsPair d value.end (After.Comma c.in-Some-Comma.next) = subst (EndsPair d value.end) c.in-Some-Comma.field-0-is c.in-Some-Comma.ensures in
    omega (arith, c.in-Some.ensures.names.bounds.0, passes.bounds.0, ends.0, ends.1)
