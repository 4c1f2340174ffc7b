use Rattle.line_filter.proofs.BufferLaws.Ranges.{first_of_range, none_of_range}
use Rattle.line_filter.proofs.line_feeds.line_feed_of_few.Goals as goal

pub returns-in-Some : goal.returns-in-Some
returns-in-Some c = first_of_range c.args.bytes.now c.args.from c.args.to c.requires.0 c.requires.1 c.in-Some.count c.in-Some.ensures.0 c.in-Some.ensures.1

pub returns-in-None : goal.returns-in-None
returns-in-None c = none_of_range c.args.bytes.now c.args.from c.args.to c.requires.0 c.requires.1 c.in-None.ensures
