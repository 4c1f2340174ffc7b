use Rattle.row_judges.proofs.RowLemmas.OneJudgment.{reported_once}
use Rattle.row_judges.proofs.RowLemmas.RowJudges.{row_judged}
use Rattle.row_judges.proofs.laws.rows_are_reported_once.Goals as goal

pub returns-clause-one : goal.returns-clause-one
returns-clause-one c = reported_once c.one_value_fits.ensures c.what_has_a_fault_fits_nothing.ensures c.one_fault_is_first.ensures

pub returns-clause-line : goal.returns-clause-line
returns-clause-line c = row_judged
