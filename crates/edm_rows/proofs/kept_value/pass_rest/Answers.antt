use Rattle.std.proofs.Common.{true, sym, ◌∙◌, subst, arith}
use Rattle.edm_rows.specs.declared.members.After.{After}
use Rattle.edm_rows.specs.private.Members.{EndsMember}
use Rattle.edm_rows.specs.private.KeptRows.{root_properties}
use Rattle.edm_rows.proofs.RootEnds.{fills_absent, rows_long}
use Rattle.edm_rows.proofs.UnseenNull.{type_marks}
use Rattle.edm_rows.proofs.KeptMembers.{kept_comma}
use Rattle.edm_rows.proofs.KeptSlots.{held_long}
use Rattle.edm_rows.proofs.RowSteps.{row_ends}
use Rattle.edm_rows.proofs.kept_value.pass_rest.Goals as goal

pub members-init : goal.members-init
members-init g c = (c.requires.within, c.requires.order, c.requires.depth, λ from read. read, c.requires.conforms)

pub ends_object-requires-clause-as_many : goal.ends_object-requires-clause-as_many
ends_object-requires-clause-as_many g c = held_long _ (root_properties c.args.context.now) c.members.values c.members.invariant.4.1 ∙ sym (rows_long c.args.context.now c.args.plan.now c.requires.plan)

pub ends_object-requires-clause-marks : goal.ends_object-requires-clause-marks
ends_object-requires-clause-marks g c =
    let context = c.args.context.now in
    type_marks context.schema.now context.plan.now.expansion context.plan.now.plans.items c.requires.plan.plan c.args.plan.now g.M.SeenSlots.most c.requires.plan.is c.requires.room

pub returns-in-Some-Brace-clause-read : goal.returns-in-Some-Brace-clause-read
returns-in-Some-Brace-clause-read g c from rejected =
    let context = c.args.context.now in
    let plan = c.args.plan.now in
    row_ends context plan true from c.members.so_far.place c.in-Some-Brace.next (g.M.SeenSlots.bits c.members.so_far.seen) c.members.values c.ends_object.new.values c.requires.plan (c.members.invariant.3 from rejected)
    (fills_absent context c.args.plan.now c.requires.plan (g.M.SeenSlots.bits c.members.so_far.seen) c.members.values c.ends_object.new.values (c.ends_object.ensures.fills c.if-not-ends_object.false)
    (held_long _ (root_properties context) c.members.values c.members.invariant.4.1 ∙ sym (rows_long context c.args.plan.now c.requires.plan))) (subst (EndsMember context.line c.members.so_far.place) c.in-Some-Brace.field-0-is c.in-Some-Brace.ensures)

pub members-preserved : goal.members-preserved
members-preserved g c =
    let context = c.args.context.now in
    let rows = c.args.plan.now.slots.items in
    let values = c.members.values in
    let read = c.members.so_far in
    let ends : EndsMember context.line read.place (After.Comma c.in-Some-Comma.next) = subst (EndsMember context.line read.place) c.in-Some-Comma.field-0-is c.in-Some-Comma.ensures in
    let more = c.pass_next.ensures in
    let further = more.further c.if-not-pass_next.false in (
      further.1,
      further.2,
      more.depth,
      λ from rejected. more.read from values (held_long _ (root_properties context) values c.members.invariant.4.1) (kept_comma context rows from read.place c.in-Some-Comma.next (g.M.SeenSlots.bits read.seen) true values (c.members.invariant.3 from rejected) ends) c.if-not-pass_next.false,
      c.members.invariant.4,
    )

pub members-smaller : goal.members-smaller
members-smaller g c =
    let read = c.members.so_far in
    let ends : EndsMember c.args.context.now.line read.place (After.Comma c.in-Some-Comma.next) = subst (EndsMember c.args.context.now.line read.place) c.in-Some-Comma.field-0-is c.in-Some-Comma.ensures in
    let more = c.pass_next.ensures.further c.if-not-pass_next.false in
    omega (arith, more.0, more.1, ends.0)
