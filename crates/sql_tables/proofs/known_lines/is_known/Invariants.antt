use Rattle.csdl_schema.specs.SchemaModel.{properties_at}
use Rattle.sql_tables.proofs.SlotColumns.{LacksBefore}
use Rattle.sql_tables.proofs.known_lines.is_known.Given as goal

-- the line is about none of the properties so far
abbrev pub invariant-loop-slot : goal.invariant-loop-slot
invariant-loop-slot l = LacksBefore (properties_at l.schema l.id) l.line l.slot
