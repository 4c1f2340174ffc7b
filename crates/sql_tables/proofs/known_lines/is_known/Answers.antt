use Rattle.std.proofs.Common.{arith, refl}
use Rattle.csdl_schema.specs.SchemaModel.{properties_at}
use Rattle.sql_tables.proofs.SlotColumns.{known_empty, known_here, lacks_none, lacks_on, named_there, not_named}
use Rattle.sql_tables.proofs.known_lines.is_known.Goals as goal

pub loop-slot-init : goal.loop-slot-init
loop-slot-init c = lacks_none (properties_at c.args.schema.now c.args.id) c.args.line.now

pub loop-slot-preserved : goal.loop-slot-preserved
loop-slot-preserved c =
    let name = c.slot_name.result.now in
    let line = c.args.line.now in
    lacks_on (properties_at c.args.schema.now c.args.id) line name c.loop-slot.slot c.slot_name.ensures
    (not_named name line c.named_column.result c.is_some.result c.named_column.ensures c.is_some.ensures c.if-is_some.false) c.loop-slot.invariant

pub returns-then-is_some : goal.returns-then-is_some
returns-then-is_some c =
    let name = c.slot_name.result.now in
    let line = c.args.line.now in
    let named = named_there name line c.named_column.result c.is_some.result c.named_column.ensures c.is_some.ensures c.if-is_some.true in
    let known = known_here (properties_at c.args.schema.now c.args.id) line name named.0 c.loop-slot.slot c.slot_name.ensures named.1 in
    (λ _. known, λ _. refl)

pub returns : goal.returns
returns c =
    known_empty (properties_at c.args.schema.now c.args.id) c.args.line.now c.loop-slot.slot c.is_empty.result (omega (arith, c.slots-slot-end.ensures.count)) c.loop-slot.invariant c.is_empty.ensures
