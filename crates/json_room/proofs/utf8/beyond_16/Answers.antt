use Rattle.json_room.proofs.Lanes.{beyond_mask}
use Rattle.json_room.proofs.utf8.beyond_16.Goals as goal

pub returns : goal.returns
returns c = beyond_mask c.args.lanes c.fits-lanes.0
