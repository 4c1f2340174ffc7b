use Rattle.std.proofs.Common.{int_div, int_rem}
use Rattle.odata_functions.proofs.Divisions.{division, none_by_zero, one_quotient, one_remainder}
use Rattle.odata_functions.proofs.laws.divisions_are_unique.Goals as goal

pub returns-clause-there : goal.returns-clause-there
returns-clause-there c = λ a b other. (int_div a b, int_rem a b, division a b other)

pub returns-clause-quotient : goal.returns-clause-quotient
returns-clause-quotient c = one_quotient

pub returns-clause-remainder : goal.returns-clause-remainder
returns-clause-remainder c = one_remainder

pub returns-clause-zero : goal.returns-clause-zero
returns-clause-zero c = none_by_zero
