use Rattle.std.proofs.Common.{◌++◌, List, ℕ, ap, string_bytes}
use Rattle.std.specs.Prelude.{codes}
use Rattle.sql_tree.specs.QuotedName.{quoted_name}
use Rattle.sql_tree.specs.TableModel.{column_text, table_in}
use Rattle.sql_tree.proofs.Written.{written_more}
use Rattle.sql_tree.proofs.storage.write_column.Goals as goal

pub returns : goal.returns
returns c =
    written_more c.write_name.result (string_bytes c.args.out.now) (string_bytes c.push_str.new.self) (string_bytes c.write_name.new.out) (codes "t.") (quoted_name c.column_of.result.now)
    (column_text (table_in c.args.table.now) c.args.slot) c.write_name.ensures.ok c.in_ok-push_str.ensures.bytes (ap (λ (n : List ℕ). codes "t." ++ quoted_name n) c.column_of.ensures)
