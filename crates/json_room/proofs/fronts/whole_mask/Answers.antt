use Rattle.std.proofs.Common.{arith}
use Rattle.json_room.proofs.fronts.whole_mask.Goals as goal

pub returns-then-count-gt16-clause-word : goal.returns-then-count-gt16-clause-word
returns-then-count-gt16-clause-word c few k inside = absurd (omega (arith, few))

pub returns-clause-word : goal.returns-clause-word
returns-clause-word c few k inside = c.mask_of.ensures.first k (omega (arith, few, inside)) inside

pub returns-clause-never : goal.returns-clause-never
returns-clause-never c many = absurd (omega (arith, many))
