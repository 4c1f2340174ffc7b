use Rattle.sql_meaning.proofs.ComparisonTables.{eq_beside_null, ge_beside_null, gt_beside_null, le_beside_null, lt_beside_null, ne_beside_null}
use Rattle.sql_meaning.proofs.laws.tables_beside_null.Goals as goal

pub returns-clause-equal : goal.returns-clause-equal
returns-clause-equal c = eq_beside_null

pub returns-clause-not_equal : goal.returns-clause-not_equal
returns-clause-not_equal c = ne_beside_null

pub returns-clause-greater : goal.returns-clause-greater
returns-clause-greater c = gt_beside_null

pub returns-clause-at_least : goal.returns-clause-at_least
returns-clause-at_least c = ge_beside_null

pub returns-clause-less : goal.returns-clause-less
returns-clause-less c = lt_beside_null

pub returns-clause-at_most : goal.returns-clause-at_most
returns-clause-at_most c = le_beside_null
