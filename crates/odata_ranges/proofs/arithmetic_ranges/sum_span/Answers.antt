use Rattle.odata_ranges.proofs.Common.{arith, ints}
use Rattle.odata_ranges.proofs.Attained.{low_in, high_in}
use Rattle.odata_ranges.proofs.arithmetic_ranges.sum_span.Goals as goal

pub returns-clause-attains : goal.returns-clause-attains
returns-clause-attains c = (
  record { first = c.args.left.low; second = c.args.right.low; in_left = low_in c.args.left c.requires.left; in_right = low_in c.args.right c.requires.right; made = omega (arith, ints) },
  record { first = c.args.left.high; second = c.args.right.high; in_left = high_in c.args.left c.requires.left; in_right = high_in c.args.right c.requires.right; made = omega (arith, ints) },
)
