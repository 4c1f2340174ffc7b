use Rattle.odata_signatures.proofs.untypable.Unread.{unread_reason}
use Rattle.odata_signatures.proofs.tree_type_laws.unread_operands_have_one_reason.Goals as goal

pub returns : goal.returns
returns c = unread_reason
