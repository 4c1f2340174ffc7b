use Rattle.std.proofs.Common.{◌≡◌, length, Some, slice_get, refl, arith}
use Rattle.std.proofs.lemmas.Option.{slice_get_read}
use Rattle.csdl_schema.specs.SchemaModel.{properties_at}
use Rattle.edm_rows.proofs.NextMembers.{slot_behind, slot_named, slot_stands}
use Rattle.edm_rows.proofs.members.spaced_member.Goals as goal

pub returns-in-Some : goal.returns-in-Some
returns-in-Some c depth =
    let context = c.args.context.now in
    let line = context.line in
    let type = c.args.plan.now in
    let ps = properties_at context.schema.now type.type_id in
    let k = c.spaced_slot-likely.result in
    let slot = c.index-slot.result.now in
    let end = c.in-Some.end in
    let at : slice_get type.slots.items k ≡ Some slot = slice_get_read type.slots.items (length type.slots.items) k slot refl (omega arith) c.index-slot.ensures in
    let named = slot_named context.schema.now context.plan.now.expansion context.plan.now.plans.items c.requires.plan.0 type k slot c.requires.plan.1 at in
    let name = c.past_space-name.result in
    let stands = slot_stands line ps k name end slot.key c.in-Some.ensures.further c.in-Some.ensures.name named in
    (k, at, slot_behind line ps k c.args.place name end c.past_space-name.ensures stands)
