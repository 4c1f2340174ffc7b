use Rattle.row_judges.proofs.RowLemmas.OneJudgment.{judged_once, value_once}
use Rattle.row_judges.proofs.laws.rows_are_judged_once.Goals as goal

pub returns-clause-line : goal.returns-clause-line
returns-clause-line c = judged_once c.one_value_fits.ensures c.what_has_a_fault_fits_nothing.ensures c.one_fault_is_first.ensures

pub returns-clause-value : goal.returns-clause-value
returns-clause-value c = value_once c.one_value_fits.ensures c.what_has_a_fault_fits_nothing.ensures c.one_fault_is_first.ensures
