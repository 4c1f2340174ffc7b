use Rattle.odata_signatures.proofs.tree_types.Examples.{item_filter_typed}
use Rattle.odata_signatures.proofs.tree_type_laws.a_filter_of_items_is_boolean.Goals as goal

pub returns : goal.returns
returns c = item_filter_typed
