use Rattle.odata_signatures.proofs.tree_types.Examples.{mixed_filter_untyped}
use Rattle.odata_signatures.proofs.tree_type_laws.a_number_is_no_text.Goals as goal

pub returns : goal.returns
returns c = mixed_filter_untyped
