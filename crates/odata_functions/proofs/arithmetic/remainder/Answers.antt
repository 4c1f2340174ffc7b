use Rattle.std.proofs.Common.{◌≢◌, ℤ, pos, sym, ap, subst, FitsSigned, of_z, int_div}
use Rattle.std.proofs.lemmas.Int.{to_z-of_z}
use Rattle.std.specs.Int.{w64}
use Rattle.odata_functions.specs.Division.{IsDivision}
use Rattle.odata_syntax.specs.declared.binary_operator.ArithmeticOperator.TheVariants.{Mod}
use Rattle.odata_functions.proofs.Divisions.{division}
use Rattle.odata_functions.proofs.Numbers.{number_gives}
use Rattle.odata_functions.proofs.arithmetic.remainder.Goals as goal

pub returns : goal.returns
returns c =
    let of_a : FitsSigned w64 c.args.a = c.ranges.a in
    let of_b : FitsSigned w64 c.args.b = c.ranges.b in
    let other : c.args.b ≢ pos 0 = λ e. c.if-b-eq0.false (ap (of_z w64) e) in
    let reported = simp to_z-of_z at c.wrapping_rem.ensures in
    let fits : FitsSigned w64 c.wrapping_rem.result = record { sfits = c.wrapping_rem.type_inv } in
    let is = subst (λ (r : ℤ). IsDivision c.args.a c.args.b (int_div c.args.a c.args.b) r) (sym reported) (division c.args.a c.args.b other) in
    number_gives Mod c.args.kind c.args.a c.args.b c.wrapping_rem.result c.within.result (int_div c.args.a c.args.b, is)
    (c.within.ensures c.wrapping_rem.result (fits, to_z-of_z w64 c.wrapping_rem.result fits))
