use Rattle.odata_functions.proofs.Decided.{comparison_reported, same_comparable}
use Rattle.odata_functions.proofs.laws.comparisons_are_decided.Goals as goal

pub returns-clause-decided : goal.returns-clause-decided
returns-clause-decided c = comparison_reported

pub returns-clause-any_reading : goal.returns-clause-any_reading
returns-clause-any_reading c = λ operator left right l r k s h. same_comparable l r k s operator left right h
