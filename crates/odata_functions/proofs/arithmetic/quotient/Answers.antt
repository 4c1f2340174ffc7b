use Rattle.std.proofs.Common.{◌≢◌, pos, ap, arith, FitsSigned, of_z, int_div, int_rem}
use Rattle.std.proofs.lemmas.Int.{to_z-of_z}
use Rattle.std.specs.Int.{w64, IsNonZero}
use Rattle.odata_syntax.specs.declared.binary_operator.ArithmeticOperator.TheVariants.{Div}
use Rattle.odata_functions.proofs.Divisions.{division}
use Rattle.odata_functions.proofs.Numbers.{number_gives, quotient_fits}
use Rattle.odata_functions.proofs.arithmetic.quotient.Goals as goal

pub returns : goal.returns
returns c =
    let of_a : FitsSigned w64 c.args.a = c.ranges.a in
    let of_b : FitsSigned w64 c.args.b = c.ranges.b in
    let other : c.args.b ≢ pos 0 = λ e. c.if-b-eq0.false (ap (of_z w64) e) in
    let some : IsNonZero w64 c.args.b = omega (arith, c.if-b-eq0.false) in
    let reported = simp to_z-of_z at c.checked_div.ensures in
    let here = quotient_fits c.args.a c.args.b c.checked_div.result some reported in
    number_gives Div c.args.kind c.args.a c.args.b (int_div c.args.a c.args.b) c.within.result
    (int_rem c.args.a c.args.b, division c.args.a c.args.b other) (c.within.ensures (int_div c.args.a c.args.b) here)
