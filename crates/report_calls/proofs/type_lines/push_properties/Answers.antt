use Rattle.std.proofs.Common.{arith, string_bytes}
use Rattle.csdl_schema.specs.SchemaModel.{properties_at}
use Rattle.report_calls.proofs.TypeSteps.{line_more, lines_all}
use Rattle.report_calls.proofs.type_lines.push_properties.Goals as goal

pub loop-slot-preserved : goal.loop-slot-preserved
loop-slot-preserved c =
    line_more c.args.schema.now (properties_at c.args.schema.now c.args.id) c.loop-slot.slot c.slot_name.result.now (string_bytes c.args.text.now) (string_bytes c.loop-slot.text)
    (string_bytes c.push_property.new.text) c.property.result.now c.slot_name.ensures c.property.ensures c.loop-slot.invariant c.in_ok-push_property.ensures

pub returns : goal.returns
returns c =
    lines_all (properties_at c.args.schema.now c.args.id) c.loop-slot.slot (string_bytes c.args.text.now) (string_bytes c.loop-slot.text) (omega (arith, c.slots-slot-end.ensures.count)) c.loop-slot.invariant
