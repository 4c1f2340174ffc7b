use Rattle.std.proofs.Common.{true, inr, refl}
use Rattle.edm_rows.proofs.SeenBits.{unmarked}
use Rattle.edm_rows.proofs.RowSteps.{further_on, none_bounds, none_in, passed_at, slot_in}
use Rattle.edm_rows.proofs.kept_value.pass_next.Goals as goal

pub returns-in_default-clause-read : goal.returns-in_default-clause-read
returns-in_default-clause-read g c from values long so_far _ =
    let a = c.args in
    none_in a.context.now a.plan.now from a.so_far.now.place (g.M.SeenSlots.bits a.so_far.now.seen) true values a.found c.in_default.is c.requires.plan c.requires.found so_far

pub has-requires-clause-within : goal.has-requires-clause-within
has-requires-clause-within g c = ((slot_in c.args.context.now c.args.plan.now c.args.so_far.now.place c.args.found c.in-Some.slot c.in-Some.is c.requires.plan c.requires.found).mark g.M.SeenSlots.most c.requires.room).within

pub has-requires-clause-bit : goal.has-requires-clause-bit
has-requires-clause-bit g c = ((slot_in c.args.context.now c.args.plan.now c.args.so_far.now.place c.args.found c.in-Some.slot c.in-Some.is c.requires.plan c.requires.found).mark g.M.SeenSlots.most c.requires.room).bit

pub pass_found-requires-clause-slot : goal.pass_found-requires-clause-slot
pass_found-requires-clause-slot g c = (slot_in c.args.context.now c.args.plan.now c.args.so_far.now.place c.args.found c.in-Some.slot c.in-Some.is c.requires.plan c.requires.found).root

pub pass_found-requires-clause-mark : goal.pass_found-requires-clause-mark
pass_found-requires-clause-mark g c = (slot_in c.args.context.now c.args.plan.now c.args.so_far.now.place c.args.found c.in-Some.slot c.in-Some.is c.requires.plan c.requires.found).mark g.M.SeenSlots.most c.requires.room

pub pass_found-requires-clause-within : goal.pass_found-requires-clause-within
pass_found-requires-clause-within g c = (slot_in c.args.context.now c.args.plan.now c.args.so_far.now.place c.args.found c.in-Some.slot c.in-Some.is c.requires.plan c.requires.found).names.bounds.1

pub returns-clause-read : goal.returns-clause-read
returns-clause-read g c from values long so_far done =
    let a = c.args in
    let context = a.context.now in
    let plan = a.plan.now in
    let slot = c.in-Some.slot.now in
    let seen = g.M.SeenSlots.bits a.so_far.now.seen in
    let f = slot_in context plan a.so_far.now.place a.found c.in-Some.slot c.in-Some.is c.requires.plan c.requires.found in
    let e = c.pass_found.ensures in
    passed_at context plan from a.so_far.now.place a.found.place seen slot f values long true c.pass_found.new.so_far.place (g.M.SeenSlots.bits c.pass_found.new.so_far.seen)
    (inr (refl, unmarked seen slot.index c.has.ensures c.if-has.false)) so_far (e.passed done) (e.seen done)

pub returns-in_default-clause-further : goal.returns-in_default-clause-further
returns-in_default-clause-further g c _ =
    let bounds = none_bounds c.args.context.now c.args.plan.now c.args.so_far.now.place c.args.found c.in_default.is c.requires.found in
    (bounds.0, bounds.1, c.requires.order)

pub returns-clause-further : goal.returns-clause-further
returns-clause-further g c done =
    let a = c.args in
    let f = slot_in a.context.now a.plan.now a.so_far.now.place a.found c.in-Some.slot c.in-Some.is c.requires.plan c.requires.found in
    further_on a.context.now c.in-Some.slot.now a.so_far.now.place a.found.place c.pass_found.new.so_far.place c.pass_found.new.so_far.order f.names.bounds.0 (c.pass_found.ensures.passed done) (c.pass_found.ensures.order done)
