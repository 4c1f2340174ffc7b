use Rattle.std.proofs.Common.{◌/◌, ℕ, get_or, bit_and, nat_eq, not, ap, ◌∙◌}
use Rattle.seen_slots.proofs.SlotBits.{bit_tested}
use Rattle.seen_slots.proofs.many_slots.ManySlotsSeenSlots.has.Goals as goal

pub returns : goal.returns
returns c =
    let words = c.args.self.now.words in
    let index = c.args.index in
    ap (λ (b : ℕ). not (nat_eq (bit_and (get_or words (index / 64) 0) b) 0)) c.requires.bit ∙ bit_tested words index
