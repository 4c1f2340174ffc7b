use Rattle.std.proofs.Common.{◌≡◌, ◌+◌, ◌-◌, arith}
use Rattle.csdl_schema.specs.SchemaModel.{properties_at}
use Rattle.edm_entities.proofs.SlotLemmas.BorrowedSlots.{cursor_slot}
use Rattle.edm_entities.proofs.property_cursor.PropertyCursor.at.Goals as goal

pub returns-then-has-clause-name : goal.returns-then-has-clause-name
returns-then-has-clause-name c =
    let cursor = c.args.self.now in
    let there : cursor.first + (c.args.slot - cursor.first) ≡ c.args.slot = omega arith in
    (cursor_slot c.args.schema.now (properties_at c.args.schema.now c.args.type_id) cursor.piece cursor.first (c.args.slot - cursor.first) c.args.slot
    (c.entry.result.0.now, c.entry.result.1.now) c.requires.cursor c.entry.ensures there).name

pub returns-then-has-clause-property : goal.returns-then-has-clause-property
returns-then-has-clause-property c =
    let cursor = c.args.self.now in
    let there : cursor.first + (c.args.slot - cursor.first) ≡ c.args.slot = omega arith in
    (cursor_slot c.args.schema.now (properties_at c.args.schema.now c.args.type_id) cursor.piece cursor.first (c.args.slot - cursor.first) c.args.slot
    (c.entry.result.0.now, c.entry.result.1.now) c.requires.cursor c.entry.ensures there).property

pub returns-clause-name : goal.returns-clause-name
returns-clause-name c =
    let there : c.args.slot + 0 ≡ c.args.slot = omega arith in
    (cursor_slot c.args.schema.now (properties_at c.args.schema.now c.args.type_id) c.properties_from-self.result c.args.slot 0 c.args.slot
    (c.entry-2.result.0.now, c.entry-2.result.1.now) c.properties_from-self.ensures.first c.entry-2.ensures there).name

pub returns-clause-property : goal.returns-clause-property
returns-clause-property c =
    let there : c.args.slot + 0 ≡ c.args.slot = omega arith in
    (cursor_slot c.args.schema.now (properties_at c.args.schema.now c.args.type_id) c.properties_from-self.result c.args.slot 0 c.args.slot
    (c.entry-2.result.0.now, c.entry-2.result.1.now) c.properties_from-self.ensures.first c.entry-2.ensures there).property
