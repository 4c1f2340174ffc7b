use Rattle.std.proofs.Common.{◌↔◌, IsTrue, sym, subst}
use Rattle.std.specs.List.{AllByRecursion}
use Rattle.sql_meaning.specs.ParameterGives.{HoldsNul}
use Rattle.sql_tree.specs.TableModel.{storage_in}
use Rattle.sql_tree.specs.declared.storage.Storage.{Storage}
use Rattle.odata_sql.specs.Refusals.{names_of}
use Rattle.odata_sql.proofs.nul_free.storage_is_nul_free.Goals as goal

pub returns-in-Columns : goal.returns-in-Columns
returns-in-Columns c =
    subst (λ (storage : Storage). IsTrue c.names_are_nul_free.result ↔ AllByRecursion (λ name. ¬ HoldsNul name) (names_of (storage_in storage))) (sym c.in-Columns.is) c.names_are_nul_free.ensures

pub returns-in-Document : goal.returns-in-Document
returns-in-Document c =
    let is = c.text_is_nul_free.ensures in
    subst (λ (storage : Storage). IsTrue c.text_is_nul_free.result ↔ AllByRecursion (λ name. ¬ HoldsNul name) (names_of (storage_in storage))) (sym c.in-Document.is)
    (λ holds. (is.0 holds, tt), λ all. is.1 all.0)
