use Rattle.std.proofs.Common.{◌≡◌, ◌%◌, ◌^◌, ℕ, bit_or, ap, ◌∙◌, arith}
use Rattle.seen_slots.proofs.few_slots.FewSlotsSeenSlots.mark.Goals as goal

pub returns : goal.returns
returns c =
    let low : c.args.index % 64 ≡ c.args.index = omega (arith, c.requires.within) in
    ap (bit_or c.args.self.now.word) (c.requires.bit ∙ ap (λ (i : ℕ). 2 ^ i) low)
