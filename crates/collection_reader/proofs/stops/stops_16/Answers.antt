use Rattle.std.proofs.Common.{arith}
use Rattle.collection_reader.proofs.StopLemmas.{stops_mask}
use Rattle.collection_reader.proofs.stops.stops_16.Goals as goal

pub returns : goal.returns
returns c = stops_mask c.args.lanes 16 c.fits-lanes.0 (omega arith)
