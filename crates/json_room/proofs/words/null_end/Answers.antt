use Rattle.json_room.proofs.Standing.{null_stands}
use Rattle.json_room.proofs.words.null_end.Goals as goal

pub returns-then-stand_4 : goal.returns-then-stand_4
returns-then-stand_4 c = null_stands c.args.line.now c.args.place (c.stand_4.ensures.stands c.if-stand_4.true)
