use Rattle.sql_outcomes.proofs.outcomes.SqlAgrees.{enough_compare, opposites_differ}
use Rattle.sql_outcomes.proofs.laws.comparisons_agree.Goals as goal

pub returns : goal.returns
returns c = record { enough = enough_compare; opposite = opposites_differ }
