use Rattle.odata_checked_filter.proofs.flat.Alone.{one_slot_at, one_type_at}
use Rattle.odata_checked_filter.proofs.laws.numbers_have_one_type_and_slot.Goals as goal

pub returns-clause-types : goal.returns-clause-types
returns-clause-types c = one_type_at c.trees_have_one_type.ensures

pub returns-clause-slots : goal.returns-clause-slots
returns-clause-slots c = one_slot_at c.trees_have_one_type.ensures
