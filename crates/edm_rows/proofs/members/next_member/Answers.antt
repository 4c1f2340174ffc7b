use Rattle.std.proofs.Common.{◌≡◌, length, Some, slice_get, refl, arith}
use Rattle.std.proofs.lemmas.Option.{slice_get_read}
use Rattle.csdl_schema.specs.SchemaModel.{properties_at}
use Rattle.edm_rows.proofs.NextMembers.{as_many, other_of_next, slot_named, slot_of_next, slot_stands}
use Rattle.edm_rows.proofs.members.next_member.Goals as goal

pub returns-in-Some-clause-found : goal.returns-in-Some-clause-found
returns-in-Some-clause-found c =
    let context = c.args.context.now in
    let type = c.args.plan.now in
    let ps = properties_at context.schema.now type.type_id in
    let k = c.compact_slot-likely.result in
    let slot = c.index-slot.result.now in
    let at : slice_get type.slots.items k ≡ Some slot = slice_get_read type.slots.items (length type.slots.items) k slot refl (omega arith) c.index-slot.ensures in
    let named = slot_named context.schema.now context.plan.now.expansion context.plan.now.plans.items c.requires.plan.0 type k slot c.requires.plan.1 at in
    (k, at, slot_stands context.line ps k c.args.place c.in-Some.end slot.key c.in-Some.ensures.further c.in-Some.ensures.name named)

pub returns-in-Some-spaced_member-clause-found : goal.returns-in-Some-spaced_member-clause-found
returns-in-Some-spaced_member-clause-found c = c.in-Some-spaced_member.ensures c.args.cache.now.depth

pub returns-then-cache-len-clause-found : goal.returns-then-cache-len-clause-found
returns-then-cache-len-clause-found c =
    let context = c.args.context.now in
    let type = c.args.plan.now in
    let ps = properties_at context.schema.now type.type_id in
    let k = c.other_member.new.cache.slot in
    let slot = c.index.result.now in
    let count = as_many context.schema.now context.plan.now.expansion context.plan.now.plans.items c.requires.plan.0 type c.requires.plan.1 in
    let at : slice_get type.slots.items k ≡ Some slot = slice_get_read type.slots.items (length type.slots.items) k slot refl (omega arith) c.index.ensures in
    (k, at, slot_of_next c.args.cache.now.depth context.line ps k c.args.place c.in-Some-other_member.end (omega (arith, count)) c.in-Some-other_member.ensures.found)

pub returns-clause-found : goal.returns-clause-found
returns-clause-found c =
    let context = c.args.context.now in
    let type = c.args.plan.now in
    let ps = properties_at context.schema.now type.type_id in
    let count = as_many context.schema.now context.plan.now.expansion context.plan.now.plans.items c.requires.plan.0 type c.requires.plan.1 in
    other_of_next c.args.cache.now.depth context.line ps c.other_member.new.cache.slot c.args.place c.in-Some-other_member.end (omega (arith, count)) c.in-Some-other_member.ensures.found
