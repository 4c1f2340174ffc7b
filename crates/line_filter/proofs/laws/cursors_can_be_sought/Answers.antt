use Rattle.std.proofs.Common.{refl}
use Rattle.std.specs.Io.Cursor.{cursor_position}
use Rattle.line_filter.proofs.laws.cursors_can_be_sought.Goals as goal

pub returns : goal.returns
returns c = record { offset = cursor_position c.args.cursor.now; stands = refl; has = refl; reads = λ other at text stands has. cc }
