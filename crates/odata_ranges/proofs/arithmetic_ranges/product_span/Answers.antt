use Rattle.odata_ranges.proofs.Common.{arith, rules, w128, FitsSigned, ints, to_z-of_z}
use Rattle.odata_ranges.proofs.Attained.{product_attains}
use Rattle.odata_ranges.proofs.Calculations.{product_reaches}
use Rattle.odata_ranges.proofs.arithmetic_ranges.product_span.Goals as goal

pub returns-clause-reaches : goal.returns-clause-reaches
returns-clause-reaches c =
    let left_low : FitsSigned w128 c.args.left.low = search rules in
    let left_high : FitsSigned w128 c.args.left.high = search rules in
    let right_low : FitsSigned w128 c.args.right.low = search rules in
    let right_high : FitsSigned w128 c.args.right.high = search rules in
    let p = simp to_z-of_z at c.product-both_low.ensures in
    let q = simp to_z-of_z at c.product-low_by_high.ensures in
    let r = simp to_z-of_z at c.product-high_by_low.ensures in
    let s = simp to_z-of_z at c.product-both_high.ensures in
    product_reaches c.args.left c.args.right c.product-both_low.result c.product-low_by_high.result c.product-high_by_low.result c.product-both_high.result
    c.span_of.result p q r s
    (omega (arith, ints), omega (arith, ints), omega (arith, ints), omega (arith, ints))
    (omega (arith, ints), omega (arith, ints), omega (arith, ints), omega (arith, ints))

pub returns-clause-attains : goal.returns-clause-attains
returns-clause-attains c =
    let left_low : FitsSigned w128 c.args.left.low = search rules in
    let left_high : FitsSigned w128 c.args.left.high = search rules in
    let right_low : FitsSigned w128 c.args.right.low = search rules in
    let right_high : FitsSigned w128 c.args.right.high = search rules in
    let p = simp to_z-of_z at c.product-both_low.ensures in
    let q = simp to_z-of_z at c.product-low_by_high.ensures in
    let r = simp to_z-of_z at c.product-high_by_low.ensures in
    let s = simp to_z-of_z at c.product-both_high.ensures in
    let of_p : FitsSigned w128 c.product-both_low.result = search rules in
    let of_q : FitsSigned w128 c.product-low_by_high.result = search rules in
    let of_r : FitsSigned w128 c.product-high_by_low.result = search rules in
    let of_s : FitsSigned w128 c.product-both_high.result = search rules in
    let ones = simp to_z-of_z at c.span_of.ensures.one in
    product_attains c.args.left c.args.right c.product-both_low.result c.product-low_by_high.result c.product-high_by_low.result c.product-both_high.result
    c.span_of.result c.requires.left c.requires.right p q r s ones.0 ones.1
