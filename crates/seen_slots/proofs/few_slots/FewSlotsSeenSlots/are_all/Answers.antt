use Rattle.std.proofs.Common.{◌<◌, ◌^◌, ℕ, get_or, sym, ap, ◌∙◌, rules}
use Rattle.std.specs.Int.{bit_at}
use Rattle.seen_slots.proofs.SlotBits.{first_bit, first_by_bits}
use Rattle.std.proofs.lemmas.Bool.{eqb-true, eq-eqb}
use Rattle.seen_slots.proofs.few_slots.FewSlotsSeenSlots.are_all.Goals as goal

pub returns : goal.returns
returns c =
    let word = c.args.self.now.word in
    let all = c.args.all.now.words in
    let fits : word < 2 ^ 64 = search rules in
    let room : get_or all 0 0 < 2 ^ 64 = search rules in
    (λ is k less. ap (λ (w : ℕ). bit_at w k) (eqb-true _ _ is) ∙ sym (first_bit all k less), λ same. eq-eqb _ _ (first_by_bits word all all fits room same))
