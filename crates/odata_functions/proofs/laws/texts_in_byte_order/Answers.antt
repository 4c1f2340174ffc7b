use Rattle.std.proofs.Common.{ap}
use Rattle.std.specs.Str.{chars}
use Rattle.odata_functions.proofs.TextOrder.{text_cmp-bytes, same_characters}
use Rattle.odata_functions.proofs.laws.texts_in_byte_order.Goals as goal

pub returns-clause-order : goal.returns-clause-order
returns-clause-order c = text_cmp-bytes

pub returns-clause-equal : goal.returns-clause-equal
returns-clause-equal c = λ s t of_s of_t. (same_characters s t of_s of_t, λ e. ap chars e)
