use Rattle.std.proofs.Common.{subst, arith}
use Rattle.collection_items.specs.private.DocumentWalk.{EndsPair}
use Rattle.collection_items.specs.declared.document_walk.After.{After}
use Rattle.collection_items.proofs.WalkSteps.{value_last, value_stays}
use Rattle.collection_items.proofs.document_walk.object_end.Goals as goal

pub members-init : goal.members-init
members-init c = (c.requires, λ begin json read. read)

pub returns-in-Some-Close : goal.returns-in-Some-Close
returns-in-Some-Close c begin json read =
    let d = c.args.document.now in
    let end = c.members.end in
    let next = c.in-Some-Close.next in
    let ends : EndsPair d end (After.Close next) = subst (EndsPair d end) c.in-Some-Close.field-0-is c.in-Some-Close.ensures in
    (ends.1, value_last d begin end next json (c.members.invariant.1 begin json read) ends)

pub members-preserved : goal.members-preserved
members-preserved c =
    let d = c.args.document.now in
    let end = c.members.end in
    let next = c.in-Some-Comma.next in
    let last = c.in-Some-any_value_end.next in
    let ends : EndsPair d end (After.Comma next) = subst (EndsPair d end) c.in-Some-Comma.field-0-is c.in-Some-Comma.ensures in (
      c.in-Some-any_value_end.ensures.bounds.1,
      λ begin json read. value_stays d begin end next c.in-Some.other last json (c.members.invariant.1 begin json read) ends c.in-Some.ensures c.if-other.false c.in-Some-any_value_end.ensures,
    )

pub members-smaller : goal.members-smaller
members-smaller c =
    let d = c.args.document.now in
    let end = c.members.end in
    let ends : EndsPair d end (After.Comma c.in-Some-Comma.next) = subst (EndsPair d end) c.in-Some-Comma.field-0-is c.in-Some-Comma.ensures in
    let value = c.in-Some-any_value_end.ensures.bounds in
    omega (arith, ends.0, c.in-Some.ensures.names.bounds.0, value.0, value.1)
