use Rattle.sql_meaning.proofs.ComparisonTables.{eq_table, ge_table, gt_table, le_table, lt_table, ne_table}
use Rattle.sql_meaning.proofs.laws.tables_are_comparisons.Goals as goal

pub returns-clause-equal : goal.returns-clause-equal
returns-clause-equal c = eq_table

pub returns-clause-not_equal : goal.returns-clause-not_equal
returns-clause-not_equal c = ne_table

pub returns-clause-greater : goal.returns-clause-greater
returns-clause-greater c = gt_table

pub returns-clause-at_least : goal.returns-clause-at_least
returns-clause-at_least c = ge_table

pub returns-clause-less : goal.returns-clause-less
returns-clause-less c = lt_table

pub returns-clause-at_most : goal.returns-clause-at_most
returns-clause-at_most c = le_table
