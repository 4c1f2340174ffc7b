use Rattle.std.proofs.Common.{◌≡◌, ◌<◌, ℕ, get_or, bit_or}
use Rattle.seen_slots.proofs.many_slots.ManySlotsSeenSlots.are_all_but.Given as goal

-- the words so far are those of all slots, with those of the slots that may be absent
abbrev pub invariant-loop-word : goal.invariant-loop-word
invariant-loop-word l = (j : ℕ) → j < l.word → bit_or (get_or l.self.words j 0) (get_or l.optional.words j 0) ≡ get_or l.all.words j 0
