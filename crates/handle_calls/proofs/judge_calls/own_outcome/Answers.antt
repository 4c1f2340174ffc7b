use Rattle.std.proofs.Common.{ℕ, Option, sym, subst}
use Rattle.handle_calls.specs.RowCalls.{IsOutcomeAt}
use Rattle.handle_calls.proofs.judge_calls.own_outcome.Goals as goal

pub returns-in-Some-clause-outcome : goal.returns-in-Some-clause-outcome
returns-in-Some-clause-outcome c =
    let checked = c.args.checked.now in let now = c.args.now.now in let row = c.args.row.now in let result = c.bounded_outcome.result in
    subst (λ (bound : Option ℕ). IsOutcomeAt checked now bound row result) (sym c.in-Some.is)
    (c.bounded_outcome.ensures checked now row c.in-Some.most c.judge_within.ensures.verdict)

pub returns-in-None-clause-outcome : goal.returns-in-None-clause-outcome
returns-in-None-clause-outcome c =
    let checked = c.args.checked.now in let now = c.args.now.now in let row = c.args.row.now in let result = c.plain_outcome.result in
    subst (λ (bound : Option ℕ). IsOutcomeAt checked now bound row result) (sym c.in-None.is)
    (c.plain_outcome.ensures checked now row c.judge.ensures.verdict)
