use Rattle.odata_signatures.proofs.types.Unread.{flags_by_types, items_by_types, operands_by_types, texts_apart}
use Rattle.odata_signatures.proofs.laws.unread_operands_go_by_types.Goals as goal

pub returns-clause-operands : goal.returns-clause-operands
returns-clause-operands c = operands_by_types

pub returns-clause-flags : goal.returns-clause-flags
returns-clause-flags c = flags_by_types

pub returns-clause-items : goal.returns-clause-items
returns-clause-items c = items_by_types

pub returns-clause-apart : goal.returns-clause-apart
returns-clause-apart c = texts_apart
