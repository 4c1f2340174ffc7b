use Rattle.std.proofs.Common.{◌≡◌, ◌<◌, ℕ, true, false, inl, Some, length, get_or, slice_get, slice_set, sym, subst, arith}
use Rattle.std.proofs.lemmas.Option.{slice_get-get_or}
use Rattle.edm_rows.specs.private.KeptSoFar.{KeptRead}
use Rattle.edm_rows.proofs.RootEnds.{rows_long}
use Rattle.edm_rows.proofs.RowSteps.{conforms_on, none_in, passed_at, put_read, rejected_on, slot_in}
use Rattle.edm_rows.proofs.kept_value.take_found.Goals as goal

pub returns-in_default-clause-read : goal.returns-in_default-clause-read
returns-in_default-clause-read g c from so_far =
    let a = c.args in
    none_in a.context.now a.plan.now from a.so_far.now.place (g.M.SeenSlots.bits a.so_far.now.seen) false a.values.now a.found c.in_default.is c.requires.plan c.requires.found so_far

pub take_value-requires-clause-slot : goal.take_value-requires-clause-slot
take_value-requires-clause-slot g c = (slot_in c.args.context.now c.args.plan.now c.args.so_far.now.place c.args.found c.in-Some.slot c.in-Some.is c.requires.plan c.requires.found).root

pub take_value-requires-clause-within : goal.take_value-requires-clause-within
take_value-requires-clause-within g c = (slot_in c.args.context.now c.args.plan.now c.args.so_far.now.place c.args.found c.in-Some.slot c.in-Some.is c.requires.plan c.requires.found).names.bounds.1

pub pass_found-requires-clause-slot : goal.pass_found-requires-clause-slot
pass_found-requires-clause-slot g c = (slot_in c.args.context.now c.args.plan.now c.args.so_far.now.place c.args.found c.in-Some.slot c.in-Some.is c.requires.plan c.requires.found).root

pub pass_found-requires-clause-mark : goal.pass_found-requires-clause-mark
pass_found-requires-clause-mark g c = (slot_in c.args.context.now c.args.plan.now c.args.so_far.now.place c.args.found c.in-Some.slot c.in-Some.is c.requires.plan c.requires.found).mark g.M.SeenSlots.most c.requires.room

pub read_slot-requires : goal.read_slot-requires
read_slot-requires g c = ((slot_in c.args.context.now c.args.plan.now c.args.so_far.now.place c.args.found c.in-Some.slot c.in-Some.is c.requires.plan c.requires.found).mark g.M.SeenSlots.most c.requires.room)

pub read_slot-requires-in-Rejected : goal.read_slot-requires-in-Rejected
read_slot-requires-in-Rejected g c = ((slot_in c.args.context.now c.args.plan.now c.args.so_far.now.place c.args.found c.in-Some.slot c.in-Some.is c.requires.plan c.requires.found).mark g.M.SeenSlots.most c.requires.room)

pub returns-then-pass_found-clause-read : goal.returns-then-pass_found-clause-read
returns-then-pass_found-clause-read g c from so_far =
    let a = c.args in
    let context = a.context.now in
    let plan = a.plan.now in
    let slot = c.in-Some.slot.now in
    let f = slot_in context plan a.so_far.now.place a.found c.in-Some.slot c.in-Some.is c.requires.plan c.requires.found in
    let e = c.pass_found.ensures in
    let done = c.if-pass_found.true in
    passed_at context plan from a.so_far.now.place a.found.place (g.M.SeenSlots.bits a.so_far.now.seen) slot f a.values.now c.requires.long false c.pass_found.new.so_far.place (g.M.SeenSlots.bits c.pass_found.new.so_far.seen) (inl c.if-not-slot.true) so_far (e.passed done) (e.seen done)

pub offset_bounds-values-slot : goal.offset_bounds-values-slot
offset_bounds-values-slot g c =
    let a = c.args in
    let context = a.context.now in
    let plan = a.plan.now in
    let slot = c.in-Some.slot.now in
    let values = a.values.now in
    let f = slot_in context plan a.so_far.now.place a.found c.in-Some.slot c.in-Some.is c.requires.plan c.requires.found in
    record { fits = omega (arith, f.within, c.requires.plan.is.few, rows_long context plan c.requires.plan) }

pub bounds-values-slot : goal.bounds-values-slot
bounds-values-slot g c =
    let a = c.args in
    let context = a.context.now in
    let plan = a.plan.now in
    let slot = c.in-Some.slot.now in
    let values = a.values.now in
    let f = slot_in context plan a.so_far.now.place a.found c.in-Some.slot c.in-Some.is c.requires.plan c.requires.found in
    omega (arith, f.within, c.requires.long)

pub returns-in-Put-clause-read : goal.returns-in-Put-clause-read
returns-in-Put-clause-read g c from so_far =
    let a = c.args in
    let context = a.context.now in
    let plan = a.plan.now in
    let slot = c.in-Some.slot.now in
    let values = a.values.now in
    let f = slot_in context plan a.so_far.now.place a.found c.in-Some.slot c.in-Some.is c.requires.plan c.requires.found in
    let new = c.read_slot.new.self in
    let put = slice_set values slot.index c.take_value.new.value in
    subst (λ (k : ℕ). KeptRead context plan.slots.items from k (g.M.SeenSlots.bits new.seen) false put) (sym c.read_slot.ensures.place)
    (subst (λ (k : ℕ). KeptRead context plan.slots.items from c.in-Put.end k false put) (sym c.read_slot.ensures.seen)
    (put_read context plan.slots.items from a.so_far.now.place a.found.place c.in-Put.end (g.M.SeenSlots.bits a.so_far.now.seen) slot f values c.take_value.new.value so_far c.in-Put.ensures.taken))

pub returns-in-Put-clause-further : goal.returns-in-Put-clause-further
returns-in-Put-clause-further g c =
    let a = c.args in
    let f = slot_in a.context.now a.plan.now a.so_far.now.place a.found c.in-Some.slot c.in-Some.is c.requires.plan c.requires.found in
    (omega (arith, f.names.bounds.0, c.in-Put.ensures.taken.bounds.0, c.read_slot.ensures.place), subst (λ (k : ℕ). k < 1024) (sym c.read_slot.ensures.order) f.root.is.order)

pub returns-in-Put-clause-conforms : goal.returns-in-Put-clause-conforms
returns-in-Put-clause-conforms g c conforms _ =
    let a = c.args in
    let context = a.context.now in
    let plan = a.plan.now in
    let slot = c.in-Some.slot.now in
    let values = a.values.now in
    let f = slot_in context plan a.so_far.now.place a.found c.in-Some.slot c.in-Some.is c.requires.plan c.requires.found in
    let within : slot.index < length values = omega (arith, f.within, c.requires.long) in
    let old = get_or values slot.index c.index-values-slot.result in
    let there : slice_get values slot.index ≡ Some old = slice_get-get_or values slot.index c.index-values-slot.result within in
    conforms_on context plan.slots.items 0 a.so_far.now.place a.found.place c.in-Put.end (g.M.SeenSlots.bits a.so_far.now.seen) slot f values old c.take_value.new.value there (c.in-Put.ensures.goes_on (λ e. absurd (cc))) conforms

pub returns-in-Rejected-clause-read : goal.returns-in-Rejected-clause-read
returns-in-Rejected-clause-read g c from so_far =
    let a = c.args in
    let context = a.context.now in
    let plan = a.plan.now in
    let slot = c.in-Some.slot.now in
    let values = a.values.now in
    let f = slot_in context plan a.so_far.now.place a.found c.in-Some.slot c.in-Some.is c.requires.plan c.requires.found in
    let within : slot.index < length values = omega (arith, f.within, c.requires.long) in
    let old = get_or values slot.index c.index-values-slot.result in
    let there : slice_get values slot.index ≡ Some old = slice_get-get_or values slot.index c.index-values-slot.result within in
    let new = c.read_slot-in-Rejected.new.self in
    let put = slice_set values slot.index c.take_value.new.value in
    subst (λ (k : ℕ). KeptRead context plan.slots.items from k (g.M.SeenSlots.bits new.seen) true put) (sym c.read_slot-in-Rejected.ensures.place)
    (subst (λ (k : ℕ). KeptRead context plan.slots.items from c.in-Rejected.end k true put) (sym c.read_slot-in-Rejected.ensures.seen)
    (rejected_on context plan from a.so_far.now.place a.found.place (g.M.SeenSlots.bits a.so_far.now.seen) slot f values c.requires.long old c.take_value.new.value c.in-Rejected.end there c.if-not-slot.false so_far c.in-Rejected.ensures.taken))

pub returns-in-Rejected-clause-further : goal.returns-in-Rejected-clause-further
returns-in-Rejected-clause-further g c =
    let a = c.args in
    let f = slot_in a.context.now a.plan.now a.so_far.now.place a.found c.in-Some.slot c.in-Some.is c.requires.plan c.requires.found in
    (omega (arith, f.names.bounds.0, c.in-Rejected.ensures.taken.0.bounds.0, c.read_slot-in-Rejected.ensures.place), subst (λ (k : ℕ). k < 1024) (sym c.read_slot-in-Rejected.ensures.order) f.root.is.order)

pub returns-in-Rejected-clause-conforms : goal.returns-in-Rejected-clause-conforms
returns-in-Rejected-clause-conforms g c conforms _ =
    let a = c.args in
    let context = a.context.now in
    let plan = a.plan.now in
    let slot = c.in-Some.slot.now in
    let values = a.values.now in
    let f = slot_in context plan a.so_far.now.place a.found c.in-Some.slot c.in-Some.is c.requires.plan c.requires.found in
    let within : slot.index < length values = omega (arith, f.within, c.requires.long) in
    let old = get_or values slot.index c.index-values-slot.result in
    let there : slice_get values slot.index ≡ Some old = slice_get-get_or values slot.index c.index-values-slot.result within in
    conforms_on context plan.slots.items 0 a.so_far.now.place a.found.place c.in-Rejected.end (g.M.SeenSlots.bits a.so_far.now.seen) slot f values old c.take_value.new.value there (c.in-Rejected.ensures.goes_on (λ e. absurd (cc))) conforms

pub returns-in-Nothing-clause-conforms : goal.returns-in-Nothing-clause-conforms
returns-in-Nothing-clause-conforms g c conforms _ =
    let a = c.args in
    let context = a.context.now in
    let plan = a.plan.now in
    let slot = c.in-Some.slot.now in
    let values = a.values.now in
    let f = slot_in context plan a.so_far.now.place a.found c.in-Some.slot c.in-Some.is c.requires.plan c.requires.found in
    let within : slot.index < length values = omega (arith, f.within, c.requires.long) in
    let old = get_or values slot.index c.index-values-slot.result in
    let there : slice_get values slot.index ≡ Some old = slice_get-get_or values slot.index c.index-values-slot.result within in
    conforms_on context plan.slots.items 0 a.so_far.now.place a.found.place a.found.place (g.M.SeenSlots.bits a.so_far.now.seen) slot f values old c.take_value.new.value there (c.in-Nothing.ensures.goes_on (λ e. absurd (cc))) conforms
