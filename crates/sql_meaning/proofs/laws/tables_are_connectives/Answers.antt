use Rattle.sql_meaning.proofs.Tables.{and_table, or_table}
use Rattle.sql_meaning.proofs.laws.tables_are_connectives.Goals as goal

pub returns-clause-and : goal.returns-clause-and
returns-clause-and c = and_table

pub returns-clause-or : goal.returns-clause-or
returns-clause-or c = or_table
