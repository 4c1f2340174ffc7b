use Rattle.odata_signatures.proofs.tree_types.Quoting.{quoted_string}
use Rattle.odata_signatures.proofs.tree_type_laws.quoting_trees_are_texts.Goals as goal

pub returns : goal.returns
returns c = quoted_string
