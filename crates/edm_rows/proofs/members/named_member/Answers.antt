use Rattle.std.proofs.Common.{◌≡◌, ℕ, inl, length, Some, slice_get, refl, sym, ap, ◌∙◌, subst, arith}
use Rattle.std.proofs.lemmas.Option.{slice_get_read}
use Rattle.csdl_schema.specs.SchemaModel.{properties_at}
use Rattle.edm_rows.specs.private.Members.{FindsName}
use Rattle.edm_rows.proofs.NextMembers.{as_many, slot_named}
use Rattle.json_room.proofs.Places.{names_to}
use Rattle.edm_rows.proofs.members.named_member.Goals.{else-len-le-FEW_SLOTS, then-len-le-FEW_SLOTS+else-loop-slot-test}
use Rattle.edm_rows.proofs.members.named_member.Goals as goal

pub slot_at-requires-clause-count : goal.slot_at-requires-clause-count
slot_at-requires-clause-count c =
    let context = c.args.context.now in
    as_many context.schema.now context.plan.now.expansion context.plan.now.plans.items c.requires.plan.0 c.args.plan.now c.requires.plan.1

pub returns-in-Some-clause-name : goal.returns-in-Some-clause-name
returns-in-Some-clause-name c =
    let context = c.args.context.now in
    let type = c.args.plan.now in
    let k = c.loop-slot.slot in
    let slot = c.index.result.now in
    let at : slice_get type.slots.items k ≡ Some slot = slice_get_read type.slots.items (length type.slots.items) k slot refl (omega arith) c.index.ensures in
    let count = as_many context.schema.now context.plan.now.expansion context.plan.now.plans.items c.requires.plan.0 type c.requires.plan.1 in (
      slot.key,
      names_to context.line c.args.place slot.key c.in-Some.end c.in-Some.ensures.further c.in-Some.ensures.name,
      inl (omega (arith, count), slot_named context.schema.now context.plan.now.expansion context.plan.now.plans.items c.requires.plan.0 type k slot c.requires.plan.1 at),
    )

pub returns-in-Some-clause-depth : goal.returns-in-Some-clause-depth
returns-in-Some-clause-depth c = c.loop-slot.invariant

pub returns-in_default-slot_at-clause-depth : goal.returns-in_default-slot_at-clause-depth
returns-in_default-slot_at-clause-depth c = elim c.if-len-le-FEW_SLOTS.branch [
  | then-len-le-FEW_SLOTS+else-loop-slot-test w ↦ ap (λ k. k.depth) w.cache-is ∙ w.loop-slot.invariant
  | else-len-le-FEW_SLOTS w ↦ ap (λ k. k.depth) w.cache-is
]

pub returns-clause-name : goal.returns-clause-name
returns-clause-name c =
    let context = c.args.context.now in
    let ps = properties_at context.schema.now c.args.plan.now.type_id in
    subst (λ (k : ℕ). FindsName context.line ps k c.args.place c.in-Some-slot_at.end) (sym c.note_name.ensures.slot) c.in-Some-slot_at.ensures

pub returns-clause-depth : goal.returns-clause-depth
returns-clause-depth c = c.note_name.ensures.depth ∙ elim c.if-len-le-FEW_SLOTS.branch [
  | then-len-le-FEW_SLOTS+else-loop-slot-test w ↦ ap (λ k. k.depth) w.cache-is ∙ w.loop-slot.invariant
  | else-len-le-FEW_SLOTS w ↦ ap (λ k. k.depth) w.cache-is
]
