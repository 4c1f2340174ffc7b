use Rattle.std.proofs.Common.{arith}
use Rattle.json_room.proofs.StopLemmas.{stops_mask}
use Rattle.json_room.proofs.texts.stops_32.Goals as goal

pub returns : goal.returns
returns c = stops_mask c.args.lanes 32 c.fits-lanes.0 (omega arith)
