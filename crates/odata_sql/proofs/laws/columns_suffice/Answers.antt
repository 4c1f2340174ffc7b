use Rattle.odata_sql.proofs.AllColumns.{own_columns}
use Rattle.odata_sql.proofs.laws.columns_suffice.Goals as goal

pub returns : goal.returns
returns c = λ filter columns right many. own_columns c.trees_have_one_type.ensures filter columns right many
