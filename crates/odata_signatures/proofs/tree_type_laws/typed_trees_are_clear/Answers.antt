use Rattle.odata_signatures.proofs.untypable.Untypable.{typed_clear}
use Rattle.odata_signatures.proofs.tree_type_laws.typed_trees_are_clear.Goals as goal

pub returns : goal.returns
returns c = typed_clear c.calls_have_one_type.ensures.one
