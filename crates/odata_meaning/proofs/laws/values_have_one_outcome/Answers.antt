use Rattle.odata_meaning.proofs.meaning.FunctionLaws.{FunctionGives-one}
use Rattle.odata_meaning.proofs.meaning.OneLeaf.{CompareGives-one, StepGives-one}
use Rattle.odata_meaning.proofs.laws.values_have_one_outcome.Goals as goal

pub returns : goal.returns
returns c = record {
  compared = CompareGives-one;
  called = FunctionGives-one c.laws_below.ensures.one;
  stepped = StepGives-one;
}
