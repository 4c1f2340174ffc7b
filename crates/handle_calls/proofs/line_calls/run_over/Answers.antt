use Rattle.std.proofs.Common.{ℕ, Option, None, Some, subst, sym}
use Rattle.handle_calls.specs.RowCalls.{IsRunAt, IsRunOver}
use Rattle.handle_calls.proofs.RowSteps.{at_moment, run_there}
use Rattle.handle_calls.proofs.line_calls.run_over.Goals as goal

pub returns-in-Some : goal.returns-in-Some
returns-in-Some c =
    let filter = c.args.held.now in let given = c.args.judge.now.moment in let rows = c.args.rows.now in let run = c.run_within.result in
    let bound : Option ℕ = Some c.in-Some.most in
    subst (λ (b : Option ℕ). IsRunOver filter given b rows run.outcome run.kept.items) (sym c.in-Some.is)
    (run_there filter given bound rows run.outcome run.kept.items
    (at_moment (λ f now. IsRunAt f now bound rows run.outcome run.kept.items) c.checked-checked.result filter given c.in-Ok.now
    c.checked-checked.ensures c.in-Ok.ensures.moment c.run_within.ensures))

pub returns-in-Ok : goal.returns-in-Ok
returns-in-Ok c =
    let filter = c.args.held.now in let given = c.args.judge.now.moment in let rows = c.args.rows.now in let run = c.run_plain.result in
    subst (λ (b : Option ℕ). IsRunOver filter given b rows run.outcome run.kept.items) (sym c.in-None.is)
    (run_there filter given None rows run.outcome run.kept.items
    (at_moment (λ f now. IsRunAt f now None rows run.outcome run.kept.items) c.checked-checked.result filter given c.in-Ok.now
    c.checked-checked.ensures c.in-Ok.ensures.moment c.run_plain.ensures))
