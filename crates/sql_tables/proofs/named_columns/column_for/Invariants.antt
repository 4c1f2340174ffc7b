use Rattle.std.proofs.Common.{length}
use denote.Text.{Utf8}
use denote.Shadow.{shadow}
use Rattle.sql_tables.proofs.TableLines.{LeftSay}
use Rattle.sql_tables.proofs.named_columns.column_for.Given as goal

-- what the lines that are left say, all lines say
abbrev pub invariant-loop-line : goal.invariant-loop-line
invariant-loop-line l = shadow (Utf8 l.rest) × LeftSay l.property l.lines l.rest

abbrev pub decreases-loop-line : goal.decreases-loop-line
decreases-loop-line l = length l.rest
