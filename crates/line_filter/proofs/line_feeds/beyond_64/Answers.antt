use Rattle.line_filter.proofs.FeedLemmas.{beyond_mask}
use Rattle.line_filter.proofs.line_feeds.beyond_64.Goals as goal

pub returns : goal.returns
returns c = beyond_mask c.args.lanes c.fits-lanes.0
