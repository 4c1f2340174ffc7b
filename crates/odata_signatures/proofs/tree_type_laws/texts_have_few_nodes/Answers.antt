use Rattle.odata_signatures.proofs.pre_orders.Sizes.{few_nodes}
use Rattle.odata_signatures.proofs.tree_type_laws.texts_have_few_nodes.Goals as goal

pub returns : goal.returns
returns c = few_nodes
