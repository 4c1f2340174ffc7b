use Rattle.json_room.proofs.EscapesPassed.{is_short}
use Rattle.json_room.proofs.escapes.is_short_escape.Goals as goal

pub returns-in-34 : goal.returns-in-34
returns-in-34 c _ = is_short c.args.byte c.in-34.is
