use Rattle.odata_meaning.proofs.meaning.UnreadAlone.{flags_alone, items_alone, operands_alone}
use Rattle.odata_meaning.proofs.laws.unread_operands_stand_alone.Goals as goal

pub returns : goal.returns
returns c = record { operands = operands_alone; flags = flags_alone; items = items_alone }
