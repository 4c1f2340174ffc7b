use Rattle.odata_meaning.proofs.costs.SomeCosts as costs
use Rattle.odata_meaning.proofs.laws.members_cost.Goals as goal

pub returns : goal.returns
returns c = record {
  some = costs.some;
  not_all = costs.not_all;
  within = costs.within;
  listed = costs.listed;
  compared = costs.compared;
  long_texts = costs.long_texts;
  made_texts = costs.made_texts;
  of_none = costs.of_none;
  of_null = costs.of_null;
  fault_first = costs.fault_costs;
}
