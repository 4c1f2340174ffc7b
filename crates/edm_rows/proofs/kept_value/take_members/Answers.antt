use Rattle.std.proofs.Common.{false, sym, ◌∙◌, subst, arith}
use Rattle.json_room.proofs.LexemeLemmas.{stay}
use Rattle.edm_rows.specs.declared.members.After.{After}
use Rattle.edm_rows.specs.private.Members.{EndsMember}
use Rattle.edm_rows.specs.private.KeptRows.{root_properties}
use Rattle.edm_rows.specs.private.KeptSoFar.{KeptUpTo}
use Rattle.edm_rows.proofs.RootEnds.{fills_absent, rows_long}
use Rattle.edm_rows.proofs.UnseenNull.{type_marks}
use Rattle.edm_rows.proofs.KeptMembers.{kept_comma, kept_none}
use Rattle.edm_rows.proofs.KeptSlots.{held_long}
use Rattle.edm_rows.proofs.RowSteps.{row_ends}
use Rattle.edm_rows.proofs.kept_value.take_members.Goals as goal

pub members-init : goal.members-init
members-init g c =
    let context = c.args.context.now in
    let from = c.args.from in
    let values = c.args.values.now in (
      c.requires.within,
      c.requires.plan.is.order,
      c.requires.depth,
      subst (λ seen. KeptUpTo context c.args.plan.now.slots.items from from seen false values) (sym c.none.ensures) (kept_none context c.args.plan.now.slots.items from from values (stay context.line from c.requires.within) (held_long _ (root_properties context) values c.requires.conforms.1)),
      c.requires.conforms,
    )

pub take_empty-requires-clause-conforms : goal.take_empty-requires-clause-conforms
take_empty-requires-clause-conforms g c = c.members.invariant.4

pub take_found-requires-clause-long : goal.take_found-requires-clause-long
take_found-requires-clause-long g c = held_long _ (root_properties c.args.context.now) c.members.values c.members.invariant.4.1

pub after_member-requires : goal.after_member-requires
after_member-requires g c = (c.in-Read.ensures.read c.args.from c.members.invariant.3).members.bounds.1

pub members-smaller : goal.members-smaller
members-smaller g c =
    let ends : EndsMember c.args.context.now.line c.take_found.new.so_far.place (After.Comma c.in-Some-Comma.next) = subst (EndsMember c.args.context.now.line c.take_found.new.so_far.place) c.in-Some-Comma.field-0-is c.in-Some-Comma.ensures in
    omega (arith, c.in-Read.ensures.further.0, ends.0, ends.1)

pub members-preserved : goal.members-preserved
members-preserved g c =
    let ends : EndsMember c.args.context.now.line c.take_found.new.so_far.place (After.Comma c.in-Some-Comma.next) = subst (EndsMember c.args.context.now.line c.take_found.new.so_far.place) c.in-Some-Comma.field-0-is c.in-Some-Comma.ensures in
    let read = c.take_found.new.so_far in (
      ends.1,
      c.in-Read.ensures.further.1,
      c.take_found.ensures.depth,
      kept_comma c.args.context.now c.args.plan.now.slots.items c.args.from read.place c.in-Some-Comma.next (g.M.SeenSlots.bits read.seen) false c.take_found.new.values (c.in-Read.ensures.read c.args.from c.members.invariant.3) ends,
      c.in-Read.ensures.conforms c.members.invariant.4 (λ e. absurd (cc)),
    )

pub ends_object-requires-clause-as_many : goal.ends_object-requires-clause-as_many
ends_object-requires-clause-as_many g c =
    held_long _ (root_properties c.args.context.now) c.take_found.new.values (c.in-Read.ensures.conforms c.members.invariant.4 (λ e. absurd (cc))).1 ∙ sym (rows_long c.args.context.now c.args.plan.now c.requires.plan)

pub ends_object-requires-clause-marks : goal.ends_object-requires-clause-marks
ends_object-requires-clause-marks g c =
    let context = c.args.context.now in
    type_marks context.schema.now context.plan.now.expansion context.plan.now.plans.items c.requires.plan.plan c.args.plan.now g.M.SeenSlots.most c.requires.plan.is c.requires.room

pub returns-in-Some-Brace-clause-read : goal.returns-in-Some-Brace-clause-read
returns-in-Some-Brace-clause-read g c =
    let context = c.args.context.now in
    let plan = c.args.plan.now in
    row_ends context plan false c.args.from c.take_found.new.so_far.place c.in-Some-Brace.next (g.M.SeenSlots.bits c.take_found.new.so_far.seen) c.take_found.new.values c.ends_object.new.values c.requires.plan (c.in-Read.ensures.read c.args.from c.members.invariant.3)
    (fills_absent context c.args.plan.now c.requires.plan (g.M.SeenSlots.bits c.take_found.new.so_far.seen) c.take_found.new.values c.ends_object.new.values (c.ends_object.ensures.fills c.if-not-ends_object.false)
    (held_long _ (root_properties context) c.take_found.new.values (c.in-Read.ensures.conforms c.members.invariant.4 (λ e. absurd (cc))).1 ∙ sym (rows_long context c.args.plan.now c.requires.plan))) (subst (EndsMember context.line c.take_found.new.so_far.place) c.in-Some-Brace.field-0-is c.in-Some-Brace.ensures)

pub pass_rest-requires-clause-within : goal.pass_rest-requires-clause-within
pass_rest-requires-clause-within g c = (c.in-Rejected.ensures.read c.args.from c.members.invariant.3).members.bounds.1

pub pass_rest-requires-clause-order : goal.pass_rest-requires-clause-order
pass_rest-requires-clause-order g c = c.in-Rejected.ensures.further.1

pub pass_rest-requires-clause-conforms : goal.pass_rest-requires-clause-conforms
pass_rest-requires-clause-conforms g c = c.in-Rejected.ensures.conforms c.members.invariant.4 (λ e. absurd (cc))

pub returns-in-Rejected-clause-read : goal.returns-in-Rejected-clause-read
returns-in-Rejected-clause-read g c = c.pass_rest.ensures.read c.args.from (c.in-Rejected.ensures.read c.args.from c.members.invariant.3)
