use Rattle.odata_ranges.proofs.Common.{◌*ℤ◌, arith, w128, FitsSigned, to_z-of_z}
use Rattle.odata_ranges.proofs.Remainders.{small_product}
use Rattle.odata_ranges.proofs.arithmetic_ranges.product.Goals as goal

pub returns : goal.returns
returns c =
    let of_a : FitsSigned w128 c.args.a = c.ranges.a in
    let of_b : FitsSigned w128 c.args.b = c.ranges.b in
    let of_both : FitsSigned w128 (c.args.a *ℤ c.args.b) = small_product c.args.a c.args.b c.requires.left c.requires.right in
    first_of (simp to_z-of_z, grind (arith, to_z-of_z))
