use Rattle.std.proofs.Common.{◌≡◌, ◌<◌, ◌^◌, ℕ, get_or, ⊎_elim, sym, subst, refl, rules, arith}
use Rattle.std.proofs.lemmas.Bool.{cases_lt, true≢false}
use Rattle.seen_slots.proofs.SlotBits.{all_seen, word_by_bits}
use Rattle.seen_slots.proofs.many_slots.ManySlotsSeenSlots.are_all.Goals as goal

pub loop-word-init : goal.loop-word-init
loop-word-init c j less = absurd (omega (arith, less))

pub loop-word-preserved : goal.loop-word-preserved
loop-word-preserved c j less =
    let l = c.loop-word in
    ⊎_elim (l.invariant j)
    (λ more.
    let here : j ≡ l.word = omega (arith, more, less) in
    subst (λ (i : ℕ). get_or c.args.self.now.words i 0 ≡ get_or c.args.all.now.words i 0) (sym here) c.if-self-word.false) (cases_lt j l.word)

pub returns-then-self-word : goal.returns-then-self-word
returns-then-self-word c =
    let l = c.loop-word in
    let words = c.args.self.now.words in
    let all = c.args.all.now.words in
    let fits : get_or words l.word 0 < 2 ^ 64 = search rules in
    let room : get_or all l.word 0 < 2 ^ 64 = search rules in
    (λ never. absurd (true≢false (sym never)), λ same. absurd (c.if-self-word.true (word_by_bits words all 16 l.word (search rules) fits room same)))

pub returns : goal.returns
returns c =
    let end : c.loop-word.word ≡ 16 = omega arith in
    (λ _ k inside. all_seen c.args.self.now.words c.args.all.now.words 16 k inside (λ j less. c.loop-word.invariant j (omega (arith, less, end))), λ _. refl)
