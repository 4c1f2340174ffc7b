use Rattle.odata_signatures.proofs.tree_types.OneType.{Typed-one}
use Rattle.odata_signatures.proofs.tree_type_laws.trees_have_one_type.Goals as goal

pub returns : goal.returns
returns c = Typed-one c.calls_have_one_type.ensures.one
