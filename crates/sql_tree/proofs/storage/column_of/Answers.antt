use Rattle.std.proofs.Common.{sym}
use Rattle.sql_tree.proofs.CodeTexts.{column_named, column_within}
use Rattle.sql_tree.proofs.storage.column_of.Goals as goal

pub column_at-requires : goal.column_at-requires
column_at-requires c = column_within c.args.table.now.storage c.in-Columns.names c.args.slot c.in-Columns.is c.requires

pub returns-in-Columns : goal.returns-in-Columns
returns-in-Columns c = sym (column_named c.args.table.now.storage c.in-Columns.names c.args.slot c.column_at.result c.in-Columns.is c.column_at.ensures)
