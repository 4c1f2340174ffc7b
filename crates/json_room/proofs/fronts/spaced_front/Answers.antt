use Rattle.std.proofs.Common.{◌∙◌, arith}
use Rattle.json_room.proofs.fronts.spaced_front.Goals as goal

pub returns-then-end-ge16-clause-word : goal.returns-then-end-ge16-clause-word
returns-then-end-ge16-clause-word c few k inside = absurd (omega (arith, few))

pub returns-then-end-ge16-clause-space : goal.returns-then-end-ge16-clause-space
returns-then-end-ge16-clause-space c few = absurd (omega (arith, few))

pub returns-clause-word : goal.returns-clause-word
returns-clause-word c few k inside = c.with_space.ensures.word k (omega (arith, inside)) ∙ c.front_of.ensures.first k (omega (arith, few, inside)) inside

pub returns-clause-space : goal.returns-clause-space
returns-clause-space c few = c.with_space.ensures.space (omega (arith, few))

pub returns-clause-never : goal.returns-clause-never
returns-clause-never c many = absurd (omega (arith, many))
