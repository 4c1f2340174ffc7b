use Rattle.std.proofs.Common.{arith}
use Rattle.json_room.proofs.fronts.whole_front.Goals as goal

pub returns-then-word-gt16-clause-word : goal.returns-then-word-gt16-clause-word
returns-then-word-gt16-clause-word c few k inside = absurd (omega (arith, few))

pub returns-clause-word : goal.returns-clause-word
returns-clause-word c few k inside = c.front_of.ensures.first k (omega (arith, few, inside)) inside

pub returns-clause-never : goal.returns-clause-never
returns-clause-never c many = absurd (omega (arith, many))
