use Rattle.std.proofs.Common.{◌∙◌, sym, subst}
use Rattle.odata_checked_filter.specs.Filter.{Filter}
use Rattle.row_judges.specs.FilterRows.{AreRowsOfFilter}
use Rattle.handle_calls.specs.RowCalls.{IsOutcomeAt}
use Rattle.call_handles.specs.declared.handle.OwnFilter.TheInside.{Inside}
use Rattle.handle_calls.proofs.RowSteps.{at_moment, outcome_there}
use Rattle.handle_calls.proofs.judge_calls.own_verdict.Goals.{in-Own-2, in-Borrowed-2}
use Rattle.handle_calls.proofs.judge_calls.own_verdict.Goals as goal

pub returns-clause-outcome : goal.returns-clause-outcome
returns-clause-outcome c =
    let row = c.args.row.now in let given = c.args.moment in let result = c.own_outcome.result in
    outcome_there c.args.own.now given c.args.bound row result
    (at_moment (λ filter now. IsOutcomeAt filter now c.args.bound row result) c.checked-checked.result c.args.own.now given c.in_ok-now.now
    (c.checked-checked.ensures ∙ c.own.view_is) c.in_ok-now.ensures.moment c.own_outcome.ensures.outcome)

-- what is kept is of the filter as before, however that is put away
pub invariant_of-own : goal.invariant_of-own
invariant_of-own c =
    let rows = c.own_outcome.new.rows in
    let kept : AreRowsOfFilter c.own.inside.held rows = subst (λ (filter : Filter). AreRowsOfFilter filter rows) c.checked-checked.ensures c.own_outcome.ensures.rows in
    elim c.match-checked-2.branch [
      | in-Own-2 w ↦ subst (λ (own : Inside). AreRowsOfFilter own.held own.rows) (sym w.own-inside-is) kept
      | in-Borrowed-2 w ↦ subst (λ (own : Inside). AreRowsOfFilter own.held own.rows) (sym w.own-inside-is) kept
    ]
