use Rattle.std.proofs.Common.{◌≡◌, ◌<◌, ◌≤◌, ℕ, length, get_or, sym, ap, ◌∙◌, subst, ⊎_elim, arith}
use Rattle.std.proofs.lemmas.Bool.{cases_lt}
use Rattle.std.proofs.lemmas.List.{get_or_default}
use Rattle.json_room.proofs.RoomLemmas.{within_byte}
use Rattle.json_room.proofs.numbers.number_bytes_end.Goals as goal

pub loop-place-init : goal.loop-place-init
loop-place-init c = (omega arith, c.requires, λ k from to. absurd (omega (arith, from, to)))

pub loop-place-preserved : goal.loop-place-preserved
loop-place-preserved c =
    let l = c.loop-place in
    let d = c.args.line.now in
    let x = c.byte.result in
    let within : l.place < length d = within_byte d l.place x (sym c.byte.ensures.here) (c.is_of_number.ensures.other c.loop-place-test.true) in
    let low : get_or d l.place 0 < 128 = subst (λ y. y < 128) (c.byte.ensures.here ∙ sym (get_or_default d l.place 0 10 within)) (c.is_of_number.ensures.ascii c.loop-place-test.true) in
    let old = l.invariant in (
      omega (arith, old.0),
      omega (arith, within),
      λ k from to. ⊎_elim (λ before. old.2 k from before) (λ behind. let same : l.place ≡ k = omega (arith, behind, to) in subst (λ j. get_or d j 0 < 128) same low) (cases_lt k l.place),
    )
