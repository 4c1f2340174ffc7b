use Rattle.std.proofs.Common.{arith}
use Rattle.odata_syntax.proofs.machine.WordLengths.{next_other}
use Rattle.odata_syntax.proofs.parser.next_operator.any_case_next.Goals as goal

pub returns-in_default : goal.returns-in_default
returns-in_default c =
    let below = c.in_default.len_below in
    next_other c.args.word.now (λ two. absurd (omega arith)) (λ three. absurd (omega arith))

pub returns-in_default-2 : goal.returns-in_default-2
returns-in_default-2 c =
    let above = c.in_default.len_at_least in
    next_other c.args.word.now (λ two. absurd (omega arith)) (λ three. absurd (omega arith))
