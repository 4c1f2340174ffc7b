use Rattle.seen_slots.proofs.SlotBits.{bits_none}
use Rattle.seen_slots.proofs.many_slots.ManySlotsSeenSlots.none.Goals as goal

pub returns : goal.returns
returns c = bits_none 16
