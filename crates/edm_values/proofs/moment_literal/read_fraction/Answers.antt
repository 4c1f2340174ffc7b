use Rattle.std.proofs.Common.{arith, ◌^◌, ◌<◌, length, ◌∙◌, sym, refl}
use Rattle.std.proofs.lemmas.Int.Digits.{digits_value-lt}
use Rattle.edm_values.proofs.moments.FractionDigits.{fraction_below, some_length}
use Rattle.edm_values.proofs.moment_literal.read_fraction.Goals as goal

pub overflow_mul-result : goal.overflow_mul-result
overflow_mul-result c =
    let read = c.in_ok-number.ensures.value in
    let below : c.in_ok-number.number < 10 ^ length c.args.digits.now = omega (arith, read.1, digits_value-lt 10 c.args.digits.now read.0) in
    let product = fraction_below c.in_ok-number.number (length c.args.digits.now) (omega arith) below in
    rw c.pow.ensures (omega (arith, product))

pub returns-clause-value : goal.returns-clause-value
returns-clause-value c =
    let read = c.in_ok-number.ensures.value in
    let below : c.in_ok-number.number < 10 ^ length c.args.digits.now = omega (arith, read.1, digits_value-lt 10 c.args.digits.now read.0) in
    let product = fraction_below c.in_ok-number.number (length c.args.digits.now) (omega arith) below in
    (rw c.pow.ensures product, ((some_length (length c.args.digits.now) (sym c.is_empty.ensures ∙ c.if-is_empty.false), read.0), omega arith, rw (c.pow.ensures, read.1) refl))
