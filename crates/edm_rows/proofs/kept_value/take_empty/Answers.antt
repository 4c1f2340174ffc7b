use Rattle.std.proofs.Common.{sym, ◌∙◌, subst, arith}
use Rattle.json_room.proofs.RoomLemmas.{other_default, within_byte}
use Rattle.edm_rows.specs.private.Filled.{FillsSlots}
use Rattle.edm_rows.specs.private.KeptRows.{root_properties}
use Rattle.edm_rows.proofs.RootEnds.{fills_absent, rows_long}
use Rattle.edm_rows.proofs.UnseenNull.{type_marks}
use Rattle.edm_rows.proofs.KeptSlots.{held_long}
use Rattle.edm_rows.proofs.RowSteps.{row_empty}
use Rattle.edm_rows.proofs.kept_value.take_empty.Goals as goal

pub ends_object-requires-clause-as_many : goal.ends_object-requires-clause-as_many
ends_object-requires-clause-as_many g c =
    held_long _ (root_properties c.args.context.now) c.args.values.now c.requires.conforms.1 ∙ sym (rows_long c.args.context.now c.args.plan.now c.requires.plan)

pub ends_object-requires-clause-marks : goal.ends_object-requires-clause-marks
ends_object-requires-clause-marks g c =
    let context = c.args.context.now in
    type_marks context.schema.now context.plan.now.expansion context.plan.now.plans.items c.requires.plan.plan c.args.plan.now g.M.SeenSlots.most c.requires.plan.is c.requires.room

pub returns-clause-read : goal.returns-clause-read
returns-clause-read g c =
    let context = c.args.context.now in
    let line = context.line in
    let brace = c.past_blanks-brace.result in
    let here = sym c.byte.ensures.here ∙ c.if-byte-ne125.false in
    let within = within_byte line brace 125 here (λ e. omega arith) in
    let fills = subst (λ seen. FillsSlots c.args.plan.now seen c.args.values.now c.ends_object.new.values) c.none.ensures (c.ends_object.ensures.fills c.if-not-ends_object.false) in
    row_empty context c.args.plan.now c.args.from brace c.args.values.now c.ends_object.new.values c.requires.plan (fills_absent context c.args.plan.now c.requires.plan 0 c.args.values.now c.ends_object.new.values fills
    (held_long _ (root_properties context) c.args.values.now c.requires.conforms.1 ∙ sym (rows_long context c.args.plan.now c.requires.plan)))
    (held_long _ (root_properties context) c.args.values.now c.requires.conforms.1) c.past_blanks-brace.ensures within (other_default line brace 125 here (λ e. omega arith))
