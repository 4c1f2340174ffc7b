use Rattle.odata_filter.proofs.RunLemmas.RunEndings.{moment_there, no_moment}
use Rattle.odata_filter.proofs.command.runner.given_moment.Goals as goal

pub returns-in-Some-read_moment-clause-moment : goal.returns-in-Some-read_moment-clause-moment
returns-in-Some-read_moment-clause-moment c =
    moment_there c.args.plan.now.now c.in-Some.text c.in-Some-read_moment.moment c.in-Some.is c.in-Some-read_moment.ensures.value

pub returns-in-None-read_moment-clause-other : goal.returns-in-None-read_moment-clause-other
returns-in-None-read_moment-clause-other c = no_moment c.args.plan.now c.in-Some.text c.in-Some.is c.in-None-read_moment.ensures.only
