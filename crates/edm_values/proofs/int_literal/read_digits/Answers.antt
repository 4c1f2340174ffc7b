use Rattle.std.proofs.Common.{arith, ◌≡◌, ◌+◌, ◌*◌, ◌^◌, ℕ, length, take, get_or, add-one, ap, subst, ◌∙◌}
use Rattle.std.proofs.Math.Seq.{take-length}
use Rattle.std.specs.Str.Parse.{AllDigits, digits_value}
use Rattle.std.proofs.Math.Nat.{pow-suc}
use Rattle.std.proofs.lemmas.Int.Digits.{digits_more, digits_value_more}
use Rattle.std.proofs.lemmas.Str.Parse.{digit_at}
use Rattle.std.proofs.lemmas.Str.{digit_value_digit}
use Rattle.edm_values.proofs.moments.FractionDigits.{small_power}
use Rattle.edm_values.proofs.int_literal.read_digits.Goals as goal

pub returns-then-not-is_ascii_digit-clause-none : goal.returns-then-not-is_ascii_digit-clause-none
returns-then-not-is_ascii_digit-clause-none c = λ all.
    let digit = digit_at c.args.digits.now c.loop-digit.digit-index all (omega arith) in
    let other = rw c.if-not-is_ascii_digit.true at c.is_ascii_digit.ensures.cases in
    omega (arith, digit, other)

pub overflow_mul-number : goal.overflow_mul-number
overflow_mul-number c = omega (arith, small_power c.loop-digit.digit-index 17 (omega arith))

pub overflow_add-number : goal.overflow_add-number
overflow_add-number c =
    let digit = rw c.if-not-is_ascii_digit.false at c.is_ascii_digit.ensures.cases in
    omega (arith, digit, small_power c.loop-digit.digit-index 17 (omega arith))

pub loop-digit-preserved : goal.loop-digit-preserved
loop-digit-preserved c =
    let i = c.loop-digit.digit-index in
    let byte = get_or c.args.digits.now c.loop-digit.digit-index 0 in
    let digit = rw c.if-not-is_ascii_digit.false at c.is_ascii_digit.ensures.cases in
    let worth = digit_value_digit (get_or c.args.digits.now c.loop-digit.digit-index 0) digit in
    let more = digits_value_more 10 c.args.digits.now c.loop-digit.digit-index c.loop-digit-test.true in
    let power : 10 ^ (c.loop-digit.digit-index + 1) ≡ 10 ^ c.loop-digit.digit-index * 10 = rw add-one (pow-suc 10 c.loop-digit.digit-index) in (
      digits_more 10 c.args.digits.now c.loop-digit.digit-index c.loop-digit-test.true c.loop-digit.invariant.0 (omega (arith, worth, digit)),
      omega (arith, worth, more, digit, c.loop-digit.invariant.1),
      omega (arith, worth, power, digit, c.loop-digit.invariant.2),
    )

pub returns-clause-value : goal.returns-clause-value
returns-clause-value c =
    let digits = c.loop-digit.invariant in
    let over = c.loop-digit-test.false in
    let within = c.loop-digit.auto.digit-index-end in
    let end : c.loop-digit.digit-index ≡ length c.args.digits.now = omega arith in
    let whole : take c.loop-digit.digit-index c.args.digits.now ≡ c.args.digits.now = ap (λ (k : ℕ). take k c.args.digits.now) end ∙ take-length c.args.digits.now in (
      subst (AllDigits 10) whole digits.0,
      digits.1 ∙ ap (digits_value 10) whole,
      omega (arith, digits.2, small_power c.loop-digit.digit-index 18 (omega (arith, c.requires))),
    )
