use Rattle.json_room.proofs.Utf8Pieces.{two_of_two}
use Rattle.json_room.proofs.utf8.is_run_utf8.Goals as goal

pub returns-then-run-eq2 : goal.returns-then-run-eq2
returns-then-run-eq2 c is = two_of_two c.args.run.now c.if-run-eq2.true (c.is_character_of_two.ensures is)
