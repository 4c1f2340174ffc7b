use Rattle.odata_ranges.proofs.Common.{◌<◌, ◌≤ℤ◌, arith, unsigned_abs, ints}
use Rattle.odata_ranges.proofs.Remainders.{near_side}
use Rattle.odata_ranges.proofs.arithmetic_ranges.remainder_span.Goals as goal

pub lowest_remainder-requires-clause-most : goal.lowest_remainder-requires-clause-most
lowest_remainder-requires-clause-most c =
    let itself : c.args.right.low ≤ℤ c.args.right.low = omega (arith, ints) in
    let far = c.farthest-most.ensures.farther c.args.right.low (itself, c.requires.right.ordered) in
    (omega (arith, ints, far), omega (arith, ints))

pub highest_remainder-requires-clause-most : goal.highest_remainder-requires-clause-most
highest_remainder-requires-clause-most c =
    let itself : c.args.right.low ≤ℤ c.args.right.low = omega (arith, ints) in
    let far = c.farthest-most.ensures.farther c.args.right.low (itself, c.requires.right.ordered) in
    (omega (arith, ints, far), omega (arith, ints))

pub returns : goal.returns
returns c = λ a b n in_left in_right made.
    let far = c.farthest-most.ensures.farther b in_right in
    let small : unsigned_abs n < unsigned_abs b = made.1.small in
    let side = near_side a b n made in
    let low = c.lowest_remainder.ensures a n (omega (arith, ints, in_left.0)) (omega (arith, ints, far), omega (arith, ints, far), side) in
    let high = c.highest_remainder.ensures a n (omega (arith, ints, in_left.1)) (omega (arith, ints, far), omega (arith, ints, far), side) in
    (omega (arith, ints, low), omega (arith, ints, high))
