use Rattle.std.proofs.Common.{◌≡◌, ◌++◌, flat_map, string_bytes, take}
use Rattle.csdl_schema.specs.SchemaModel.{properties_at}
use Rattle.report_calls.specs.TypeLines.{property_line}
use Rattle.report_calls.proofs.type_lines.push_properties.Given as goal

-- the properties so far have their lines
abbrev pub invariant-loop-slot : goal.invariant-loop-slot
invariant-loop-slot l = string_bytes l.text ≡ string_bytes l.initial.text ++ flat_map property_line (take l.slot (properties_at l.schema l.id))
