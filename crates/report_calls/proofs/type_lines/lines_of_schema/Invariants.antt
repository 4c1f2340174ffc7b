use Rattle.std.proofs.Common.{◌≡◌, flat_map, string_bytes, take}
use Rattle.report_calls.specs.TypeLines.{type_lines}
use Rattle.report_calls.proofs.type_lines.lines_of_schema.Given as goal

-- the types so far have their lines
abbrev pub invariant-loop-index : goal.invariant-loop-index
invariant-loop-index l = string_bytes l.text ≡ flat_map (type_lines l.schema) (take l.index l.schema.types)
