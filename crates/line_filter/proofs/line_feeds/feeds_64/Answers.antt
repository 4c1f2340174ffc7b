use Rattle.line_filter.proofs.FeedLemmas.{feeds_mask}
use Rattle.line_filter.proofs.line_feeds.feeds_64.Goals as goal

pub returns : goal.returns
returns c = feeds_mask c.args.lanes c.fits-lanes.0
