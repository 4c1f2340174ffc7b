use Rattle.sql_meaning.proofs.Chains.{and_regroups, or_regroups}
use Rattle.sql_meaning.proofs.laws.chains_may_be_balanced.Goals as goal

pub returns-clause-and : goal.returns-clause-and
returns-clause-and c = and_regroups

pub returns-clause-or : goal.returns-clause-or
returns-clause-or c = or_regroups
