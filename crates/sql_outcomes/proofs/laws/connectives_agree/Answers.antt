use Rattle.sql_outcomes.proofs.outcomes.SqlAgrees.{both_false, both_true, chains_regroup, connected_is, one_false, one_true}
use Rattle.sql_outcomes.proofs.laws.connectives_agree.Goals as goal

pub returns : goal.returns
returns c = record {
  are = connected_is;
  regroup = chains_regroup;
  both_true = both_true;
  both_false = both_false;
  one_true = one_true;
  one_false = one_false;
}
