use Rattle.std.proofs.Common.{map, take}
use Rattle.csdl_schema.specs.SchemaModel.{properties_at}
use Rattle.sql_tables.specs.Columns.{AreColumns}
use Rattle.sql_tables.specs.Lines.{lines_of}
use Rattle.sql_tables.proofs.named_columns.columns_of.Given as goal

-- a column for each of the properties so far
abbrev pub invariant-loop-slot : goal.invariant-loop-slot
invariant-loop-slot l =
    AreColumns (take l.slot (properties_at l.schema l.id)) (lines_of l.lines) (map (λ name. name.now) l.names.items)
