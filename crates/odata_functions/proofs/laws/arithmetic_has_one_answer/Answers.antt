use Rattle.odata_functions.proofs.Numbers.{arithmetic_once, arithmetic_there, negation_once, negation_there}
use Rattle.odata_functions.proofs.laws.arithmetic_has_one_answer.Goals as goal

pub returns-clause-there : goal.returns-clause-there
returns-clause-there c = arithmetic_there

pub returns-clause-negation_there : goal.returns-clause-negation_there
returns-clause-negation_there c = negation_there

pub returns-clause-one : goal.returns-clause-one
returns-clause-one c = arithmetic_once

pub returns-clause-negation : goal.returns-clause-negation
returns-clause-negation c = negation_once
