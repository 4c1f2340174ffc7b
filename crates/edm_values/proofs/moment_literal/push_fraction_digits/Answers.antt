use Rattle.std.proofs.Common.{arith, ℕ, suc, List, [], ◌∷◌, ◌++◌, ◌≡◌, ◌+◌, ◌-◌, ◌%◌, ◌<◌, ◌^◌, ◌/◌, ap, sym, ◌∙◌, append-nil}
use Rattle.std.specs.Prelude.{string_bytes}
use Rattle.std.proofs.lemmas.Str.{encode_ascii}
use Rattle.edm_values.specs.MomentLiteral.{significant_digits}
use Rattle.edm_values.proofs.moments.FractionDigits.{ten_pos, some_left, first_digit, digit_step, significant_digits-zero}
use Rattle.edm_values.proofs.moment_literal.push_fraction_digits.Goals as goal

pub nonzero_div-rest : goal.nonzero_div-rest
nonzero_div-rest c = rw c.pow-unit.ensures (ten_pos (c.loop-rest.digits_left - 1))

pub overflow_cast-rest : goal.overflow_cast-rest
overflow_cast-rest c =
    let some = some_left c.loop-rest.digits_left c.loop-rest.rest c.loop-rest-test.true c.loop-rest.invariant.1 in
    let e : c.loop-rest.digits_left ≡ suc (c.loop-rest.digits_left - 1) = omega (arith, some) in
    let below : c.loop-rest.rest < 10 ^ suc (c.loop-rest.digits_left - 1) = rw (← e) c.loop-rest.invariant.1 in
    let d : c.loop-rest.rest / c.pow-unit.result < 10 = rw c.pow-unit.ensures (first_digit (c.loop-rest.digits_left - 1) c.loop-rest.rest below) in
    omega (arith, d)

pub overflow_add-rest : goal.overflow_add-rest
overflow_add-rest c =
    let some = some_left c.loop-rest.digits_left c.loop-rest.rest c.loop-rest-test.true c.loop-rest.invariant.1 in
    let e : c.loop-rest.digits_left ≡ suc (c.loop-rest.digits_left - 1) = omega (arith, some) in
    let below : c.loop-rest.rest < 10 ^ suc (c.loop-rest.digits_left - 1) = rw (← e) c.loop-rest.invariant.1 in
    let d : c.loop-rest.rest / c.pow-unit.result < 10 = rw c.pow-unit.ensures (first_digit (c.loop-rest.digits_left - 1) c.loop-rest.rest below) in
    omega (arith, d)

pub nonzero_rem-rest : goal.nonzero_rem-rest
nonzero_rem-rest c = rw c.pow-unit.ensures (ten_pos (c.loop-rest.digits_left - 1))

pub loop-rest-preserved : goal.loop-rest-preserved
loop-rest-preserved c =
    let k = c.loop-rest.digits_left - 1 in
    let some = some_left c.loop-rest.digits_left c.loop-rest.rest c.loop-rest-test.true c.loop-rest.invariant.1 in
    let e : c.loop-rest.digits_left ≡ suc (c.loop-rest.digits_left - 1) = omega (arith, some) in
    let below : c.loop-rest.rest < 10 ^ suc (c.loop-rest.digits_left - 1) = rw (← e) c.loop-rest.invariant.1 in
    let d : c.loop-rest.rest / 10 ^ (c.loop-rest.digits_left - 1) < 10 = first_digit (c.loop-rest.digits_left - 1) c.loop-rest.rest below in
    let kept : string_bytes c.loop-rest.text ++ significant_digits (suc (c.loop-rest.digits_left - 1)) c.loop-rest.rest
    ≡ string_bytes c.args.text.now ++ significant_digits 9 c.args.nanoseconds = rw (← e) c.loop-rest.invariant.2 in
    let step = digit_step (c.loop-rest.digits_left - 1) c.loop-rest.rest (string_bytes c.loop-rest.text) (string_bytes c.args.text.now ++ significant_digits 9 c.args.nanoseconds) c.loop-rest-test.true kept in
    let digit : c.from.result ≡ 48 + c.loop-rest.rest / 10 ^ (c.loop-rest.digits_left - 1) = c.from.ensures ∙ ap (λ (u : ℕ). 48 + c.loop-rest.rest / u) c.pow-unit.ensures in
    let one = encode_ascii c.from.result (omega (arith, digit, d)) in
    let now : string_bytes c.push.new.self ≡ string_bytes c.loop-rest.text ++ ((48 + c.loop-rest.rest / 10 ^ (c.loop-rest.digits_left - 1)) ∷ []) =
    c.in_ok-push.ensures.bytes ∙ ap (λ (xs : List ℕ). string_bytes c.loop-rest.text ++ xs) (one ∙ ap (λ (n : ℕ). n ∷ []) digit) in
    (omega arith, rw c.pow-unit.ensures (let z : c.loop-rest.rest % 10 ^ (c.loop-rest.digits_left - 1) < 10 ^ (c.loop-rest.digits_left - 1) = omega (arith, ten_pos (c.loop-rest.digits_left - 1)) in z), rw (now, c.pow-unit.ensures) step)

pub returns : goal.returns
returns c =
    sym (append-nil (string_bytes c.loop-rest.text))
    ∙ ap (λ (xs : List ℕ). string_bytes c.loop-rest.text ++ xs) (sym (significant_digits-zero c.loop-rest.digits_left) ∙ ap (λ (n : ℕ). significant_digits c.loop-rest.digits_left n) (sym c.loop-rest-test.false))
    ∙ c.loop-rest.invariant.2
