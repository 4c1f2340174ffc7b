use Rattle.std.proofs.Common.{◌≡◌, inl, inr, length, Some, slice_get, refl, sym, arith}
use Rattle.std.proofs.lemmas.Option.{slice_get_read}
use Rattle.csdl_schema.specs.SchemaModel.{properties_at}
use Rattle.edm_entities.proofs.SlotLemmas.SlotNames.{no_slot_is_named}
use Rattle.json_room.proofs.Places.{names_to}
use Rattle.edm_rows.proofs.NextMembers.{as_many, slot_named}
use Rattle.edm_rows.proofs.members.next_name.Goals as goal

pub returns-in-Some-clause-name : goal.returns-in-Some-clause-name
returns-in-Some-clause-name c =
    let context = c.args.context.now in
    let type = c.args.plan.now in
    let count = as_many context.schema.now context.plan.now.expansion context.plan.now.plans.items c.requires.plan.0 type c.requires.plan.1 in
    let found = c.in-Some.ensures context.schema.now c.requires.context.1.names in (
      found.0,
      names_to context.line c.args.place found.0 c.in-Some.end found.2 found.1,
      inr (omega (arith, count), no_slot_is_named found.0 (properties_at context.schema.now type.type_id) (sym found.3)),
    )

pub returns-in-Some-end_before_blanks-clause-name : goal.returns-in-Some-end_before_blanks-clause-name
returns-in-Some-end_before_blanks-clause-name c =
    let context = c.args.context.now in
    let type = c.args.plan.now in
    let k = c.last_slot-likely.result in
    let slot = c.index.result.now in
    let end = c.in-Some-end_before_blanks in
    let at : slice_get type.slots.items k ≡ Some slot = slice_get_read type.slots.items (length type.slots.items) k slot refl (omega arith) c.index.ensures in
    let count = as_many context.schema.now context.plan.now.expansion context.plan.now.plans.items c.requires.plan.0 type c.requires.plan.1 in (
      slot.key,
      names_to context.line c.args.place slot.key end.end end.ensures.further end.ensures.name,
      inl (omega (arith, count), slot_named context.schema.now context.plan.now.expansion context.plan.now.plans.items c.requires.plan.0 type k slot c.requires.plan.1 at),
    )
