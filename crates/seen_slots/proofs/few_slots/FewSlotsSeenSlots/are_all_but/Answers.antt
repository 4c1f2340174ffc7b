use Rattle.std.proofs.Common.{◌<◌, ◌^◌, get_or, rules}
use Rattle.std.proofs.lemmas.Bool.{eqb-true, eq-eqb}
use Rattle.seen_slots.proofs.SlotBits.{either_first, either_in_word}
use Rattle.seen_slots.proofs.few_slots.FewSlotsSeenSlots.are_all_but.Goals as goal

pub returns : goal.returns
returns c =
    let word = c.args.self.now.word in
    let more = c.args.optional.now.words in
    let all = c.args.all.now.words in
    let first : word < 2 ^ 64 = search rules in
    let second : get_or more 0 0 < 2 ^ 64 = search rules in
    let third : get_or all 0 0 < 2 ^ 64 = search rules in
    (λ is k less. either_in_word word more all k less (eqb-true _ _ is), λ same. eq-eqb _ _ (either_first word more all first second third same))
