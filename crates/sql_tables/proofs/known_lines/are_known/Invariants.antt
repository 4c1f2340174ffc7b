use Rattle.std.proofs.Common.{length}
use denote.Text.{Utf8}
use denote.Shadow.{shadow}
use Rattle.csdl_schema.specs.SchemaModel.{properties_at}
use Rattle.sql_tables.proofs.TableLines.{LeftKnown}
use Rattle.sql_tables.proofs.known_lines.are_known.Given as goal

-- all lines are known where those that are left are
abbrev pub invariant-loop-line : goal.invariant-loop-line
invariant-loop-line l = shadow (Utf8 l.rest) × LeftKnown (properties_at l.schema l.id) l.lines l.rest

abbrev pub decreases-loop-line : goal.decreases-loop-line
decreases-loop-line l = length l.rest
