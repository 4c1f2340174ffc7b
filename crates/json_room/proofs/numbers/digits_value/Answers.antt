use Rattle.std.proofs.Common.{◌≡◌, ◌+◌, ◌-◌, ◌*◌, ◌<◌, ◌≤◌, ℕ, length, drop, get_or, true, refl, sym, ap, ◌∙◌, subst, arith, length-drop}
use Rattle.std.proofs.lemmas.List.{get_or_default, get_or-drop}
use Rattle.std.specs.Char.{is_ascii_digit}
use Rattle.json_room.specs.private.Lexemes.{WritesWhole}
use Rattle.json_room.proofs.WholeLemmas.{few_digits, first_digit, one_digit_more}
use Rattle.json_room.proofs.RoomLemmas.{digit_within}
use Rattle.json_room.proofs.numbers.digits_value.Goals as goal

pub loop-place-init : goal.loop-place-init
loop-place-init c =
    let d = c.args.line.now in
    let i = c.args.from in
    let r = drop i d in
    let digit : is_ascii_digit c.byte-first.result ≡ true = sym c.is_ascii_digit.ensures.value ∙ c.if-not-is_ascii_digit.false in
    let within : i < length d = digit_within d i c.byte-first.result (sym c.byte-first.ensures.here) digit in
    let none : i + 0 ≡ i = omega arith in
    let here : c.byte-first.result ≡ get_or r 0 0 = c.byte-first.ensures.here ∙ sym (get_or_default d i 0 10 within) ∙ ap (λ k. get_or d k 0) (sym none) ∙ sym (get_or-drop i d 0 0) in
    let one : i + 1 - i ≡ 1 = omega arith in
    let writes = first_digit r (c.byte-first.result - 48) (omega (arith, within, length-drop i d)) (ap is_ascii_digit (sym here) ∙ digit) (ap (λ x. x - 48) here) in
    (omega arith, omega (arith, within), subst (λ n. WritesWhole r n (c.byte-first.result - 48)) (sym one) writes)

pub loop-place-preserved : goal.loop-place-preserved
loop-place-preserved c =
    let d = c.args.line.now in
    let i = c.args.from in
    let r = drop i d in
    let l = c.loop-place in
    let old = l.invariant in
    let x = c.byte-in-loop-place.result in
    let same : c.byte.result ≡ x = c.byte.ensures.here ∙ sym c.byte-in-loop-place.ensures.here in
    let digit : is_ascii_digit x ≡ true = ap is_ascii_digit (sym same) ∙ sym c.is_ascii_digit-in-loop-place.ensures.value ∙ c.if-is_ascii_digit.true in
    let within : l.place < length d = digit_within d l.place x (sym c.byte-in-loop-place.ensures.here) digit in
    let there : i + (l.place - i) ≡ l.place = omega (arith, old.0) in
    let here : x ≡ get_or r (l.place - i) 0 = c.byte-in-loop-place.ensures.here ∙ sym (get_or_default d l.place 0 10 within) ∙ ap (λ k. get_or d k 0) (sym there) ∙ sym (get_or-drop i d (l.place - i) 0) in
    let few : l.place - i < 18 = omega (arith, c.loop-place-test.true) in
    let next : l.place - i + 1 ≡ l.place + 1 - i = omega (arith, old.0) in
    let writes = one_digit_more r (l.place - i) l.number (l.number * 10 + (x - 48)) old.2 (omega (arith, within, length-drop i d, old.0)) (ap is_ascii_digit (sym here) ∙ digit) (few_digits r (l.place - i) l.number old.2 few)
    (ap (λ y. l.number * 10 + (y - 48)) here) in
    (omega (arith, old.0), omega (arith, within), subst (λ n. WritesWhole r n (l.number * 10 + (x - 48))) next writes)
