use Rattle.std.proofs.Common.{arith}
use Rattle.std.proofs.lemmas.Bool.{eqb-true}
use Rattle.json_room.proofs.KeyLemmas.{lanes_equal}
use Rattle.json_room.proofs.fronts.are_equal_16.Goals as goal

pub returns : goal.returns
returns c done = lanes_equal 16 c.args.lanes c.args.others c.fits-lanes.0 c.fits-others.0 (omega arith) (eqb-true _ _ done)
