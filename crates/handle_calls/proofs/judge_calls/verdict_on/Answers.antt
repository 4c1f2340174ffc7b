use Rattle.std.proofs.Common.{ℕ, Option, sym, subst}
use Rattle.handle_calls.specs.RowCalls.{IsOutcomeAt}
use Rattle.handle_calls.proofs.RowSteps.{at_moment, outcome_there}
use Rattle.handle_calls.proofs.judge_calls.verdict_on.Goals as goal

pub returns-in-Some-clause-outcome : goal.returns-in-Some-clause-outcome
returns-in-Some-clause-outcome c =
    let checked = c.checked-checked.result in let row = c.args.row.now in let given = c.args.judge.now.moment in
    let result = c.bounded_outcome.result in
    outcome_there c.args.held.now given c.args.judge.now.bound row result
    (at_moment (λ filter now. IsOutcomeAt filter now c.args.judge.now.bound row result)
    checked c.args.held.now given c.in_ok-now.now c.checked-checked.ensures c.in_ok-now.ensures.moment
    (subst (λ (bound : Option ℕ). IsOutcomeAt checked c.in_ok-now.now bound row result) (sym c.in-Some.is)
    (c.bounded_outcome.ensures checked c.in_ok-now.now row c.in-Some.most c.judge.ensures)))

pub returns-clause-outcome : goal.returns-clause-outcome
returns-clause-outcome c =
    let checked = c.checked-checked.result in let row = c.args.row.now in let given = c.args.judge.now.moment in
    let result = c.plain_outcome.result in
    outcome_there c.args.held.now given c.args.judge.now.bound row result
    (at_moment (λ filter now. IsOutcomeAt filter now c.args.judge.now.bound row result)
    checked c.args.held.now given c.in_ok-now.now c.checked-checked.ensures c.in_ok-now.ensures.moment
    (subst (λ (bound : Option ℕ). IsOutcomeAt checked c.in_ok-now.now bound row result) (sym c.in-None.is)
    (c.plain_outcome.ensures checked c.in_ok-now.now row c.judge_row-reported.ensures)))
