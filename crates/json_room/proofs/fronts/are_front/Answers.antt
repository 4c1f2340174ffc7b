use Rattle.json_room.proofs.KeysStand.{masked_lane, unmasked_lane}
use Rattle.json_room.proofs.fronts.are_front.Goals as goal

pub returns-clause-same : goal.returns-clause-same
returns-clause-same c done k few bits = masked_lane c.args.lanes c.args.mask c.args.front c.fits-lanes.0 c.fits-lanes.1 c.fits-mask.0 (c.are_equal_16.ensures done) k few bits

pub returns-clause-never : goal.returns-clause-never
returns-clause-never c done none = unmasked_lane c.args.lanes c.args.mask c.args.front c.fits-lanes.0 c.fits-mask.0 (c.are_equal_16.ensures done) none
