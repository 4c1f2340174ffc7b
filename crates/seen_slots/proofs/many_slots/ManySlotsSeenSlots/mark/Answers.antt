use Rattle.std.proofs.Common.{◌≡◌, ◌/◌, ℕ, length, get_or, slice_set, bit_or, ap, ◌∙◌, rules, arith}
use Rattle.seen_slots.specs.SlotBits.{bits_of}
use Rattle.seen_slots.proofs.SlotBits.{bits_marked}
use Rattle.seen_slots.proofs.many_slots.ManySlotsSeenSlots.mark.Goals as goal

pub returns : goal.returns
returns c =
    let words = c.args.self.now.words in
    let index = c.args.index in
    let long : length words ≡ 16 = search rules in
    ap (λ (b : ℕ). bits_of (slice_set words (index / 64) (bit_or (get_or words (index / 64) 0) b))) c.requires.bit ∙ bits_marked words index (omega (arith, c.requires.within, long))
