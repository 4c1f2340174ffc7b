use Rattle.std.proofs.Common.{◌<◌, ◌^◌, bit_and, eqb-true, eq-eqb, FitsSigned, of_z}
use Rattle.std.proofs.Math.Facts.{Fits-of_z}
use Rattle.std.specs.Int.{w64}
use Rattle.odata_functions.proofs.SharedBits.{all_shared, each_shared}
use Rattle.odata_functions.proofs.bits.has_bits.Goals as goal

pub returns : goal.returns
returns c =
    let fits : FitsSigned w64 c.args.flags = c.ranges.flags in
    let value = of_z w64 c.args.value in
    let flags = of_z w64 c.args.flags in
    let small : flags < 2 ^ 64 = (Fits-of_z fits).fits in (
      λ same k below one. each_shared value flags k (eqb-true (bit_and value flags) flags same) one,
      λ each. eq-eqb (bit_and value flags) flags (all_shared value flags small each),
    )
