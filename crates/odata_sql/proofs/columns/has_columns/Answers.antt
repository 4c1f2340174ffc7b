use Rattle.std.proofs.Common.{◌↔◌, IsTrue, length, refl, sym, subst}
use Rattle.sql_tree.specs.TableModel.{storage_in}
use Rattle.sql_tree.specs.declared.storage.Storage.{Storage}
use Rattle.odata_sql.specs.Refusals.{HasColumns}
use Rattle.odata_sql.proofs.OwnSlots.{columns_there}
use Rattle.odata_sql.proofs.columns.has_columns.Goals as goal

pub returns-in-Columns : goal.returns-in-Columns
returns-in-Columns c =
    subst (λ (storage : Storage). IsTrue c.are_below.result ↔ HasColumns c.args.checked.now.list.nodes (storage_in storage)) (sym c.in-Columns.is)
    (columns_there c.nodes.result.now c.args.checked.now.list.nodes c.nodes.ensures.same c.in-Columns.names.now (length c.in-Columns.names.now) refl c.are_below.result c.are_below.ensures)
