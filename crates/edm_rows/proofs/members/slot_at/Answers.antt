use Rattle.std.proofs.Common.{inl, inr, sym, ◌∙◌, arith}
use Rattle.csdl_schema.specs.SchemaModel.{properties_at}
use Rattle.edm_entities.proofs.SlotLemmas.SlotNames.{slot_is_named, no_slot_is_named}
use Rattle.json_room.proofs.RoomLemmas.{other_default, within_byte}
use Rattle.json_room.proofs.Places.{named_text}
use Rattle.edm_rows.proofs.SlotsHeld.{slot_within}
use Rattle.edm_rows.proofs.members.slot_at.Goals as goal

pub returns-in-Some-slot : goal.returns-in-Some-slot
returns-in-Some-slot c =
    let d = c.args.line.now in
    let i = c.args.place in
    let colon = c.past_blanks-colon.result in
    let here = sym c.byte.ensures.here ∙ c.if-byte-ne58.false in
    let name = c.in-Some.name.now in
    let ps = properties_at c.args.schema.now c.args.plan.now.type_id in
    let at = slot_is_named name ps c.in-Some-slot.slot (sym c.in-Some-slot.is ∙ c.slot.ensures) in (
      name,
      named_text d i c.in-Some.end colon name c.in-Some.ensures.further c.in-Some.ensures.text c.past_blanks-colon.ensures (within_byte d colon 58 here (λ e. omega arith)) (other_default d colon 58 here (λ e. omega arith)),
      inl (slot_within ps c.in-Some-slot.slot name at, at),
    )

pub returns-in-None : goal.returns-in-None
returns-in-None c =
    let d = c.args.line.now in
    let i = c.args.place in
    let colon = c.past_blanks-colon.result in
    let here = sym c.byte.ensures.here ∙ c.if-byte-ne58.false in
    let name = c.in-Some.name.now in
    let ps = properties_at c.args.schema.now c.args.plan.now.type_id in (
      name,
      named_text d i c.in-Some.end colon name c.in-Some.ensures.further c.in-Some.ensures.text c.past_blanks-colon.ensures (within_byte d colon 58 here (λ e. omega arith)) (other_default d colon 58 here (λ e. omega arith)),
      inr (omega (arith, c.requires.count), no_slot_is_named name ps (sym c.in-None.is ∙ c.slot.ensures)),
    )
