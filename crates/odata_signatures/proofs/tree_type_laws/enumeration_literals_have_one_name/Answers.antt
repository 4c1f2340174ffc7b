use Rattle.odata_signatures.proofs.tree_types.OneType.{one_name}
use Rattle.odata_signatures.proofs.tree_types.OneValue.{one_text}
use Rattle.odata_signatures.proofs.tree_type_laws.enumeration_literals_have_one_name.Goals as goal

pub returns : goal.returns
returns c = λ spelling a b x y p q. (one_name spelling a b x y p q, one_text spelling a b x y p q)
