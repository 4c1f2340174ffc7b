use Rattle.sql_outcomes.proofs.outcomes.SqlAgrees.{counts_agree}
use Rattle.sql_outcomes.proofs.laws.counts_agree.Goals as goal

pub returns : goal.returns
returns c = counts_agree
