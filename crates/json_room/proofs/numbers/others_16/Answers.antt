use Rattle.json_room.proofs.Lanes.{others_mask}
use Rattle.json_room.proofs.numbers.others_16.Goals as goal

pub returns : goal.returns
returns c = others_mask c.args.lanes c.fits-lanes.0 c.fits-lanes.1
