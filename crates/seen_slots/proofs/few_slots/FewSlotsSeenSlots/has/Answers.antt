use Rattle.seen_slots.proofs.SlotBits.{word_tested}
use Rattle.seen_slots.proofs.few_slots.FewSlotsSeenSlots.has.Goals as goal

pub returns : goal.returns
returns c = word_tested c.args.self.now.word c.args.index c.args.bit c.requires.within c.requires.bit
