use Rattle.std.proofs.Common.{not, subst, sym}
use Rattle.edm_values.specs.Val.{boolean}
use Rattle.edm_values.specs.declared.datum.Datum.{Datum}
use Rattle.csdl_schema.specs.ExprType.{collection}
use Rattle.odata_functions.specs.DatumVal.{datum_val}
use Rattle.odata_filter_operations.specs.CollectionGives.{AnyItemGives}
use Rattle.odata_filter_operations.specs.Outcome.{gives}
use Rattle.odata_filter_operations.specs.DatumView.{reading_at}
use Rattle.odata_filter_operations.proofs.values.MemberCounts.{some_member}
use Rattle.odata_filter_operations.proofs.collections.any_item_of.Goals as goal

pub returns : goal.returns
returns c = λ slots member s.
    subst (λ (d : Datum). AnyItemGives (datum_val (reading_at slots (collection member)) d) (gives (boolean (not c.is_empty.result)))) (sym c.in-List.is)
    (some_member slots member c.in-List.members.now c.is_empty.result c.is_empty.ensures)
