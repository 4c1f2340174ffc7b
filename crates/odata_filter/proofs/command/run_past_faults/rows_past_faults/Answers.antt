use Rattle.std.proofs.Common.{Err, ap, ◌∙◌, option_map, subst, sym}
use Rattle.std.proofs.lemmas.Result.{err_from_is_err_and}
use Rattle.std.proofs.KnownBytes.{Keeps-refl}
use Rattle.odata_filter.specs.Run.{Status, streams}
use Rattle.odata_filter.specs.RunsPastFaults.{FailsPastFaults}
use Rattle.odata_filter.proofs.RunLemmas.PastFaultsEndings.{fails_past, lacks_moment_past}
use Rattle.odata_filter.proofs.RunLemmas.RunEndings.{is_ready, lacks_moment}
use Rattle.odata_filter.proofs.command.run_past_faults.rows_past_faults.Goals as goal

pub returns-in_err-now-clause-failed : goal.returns-in_err-now-clause-failed
returns-in_err-now-clause-failed g c document is_filter =
    let exit = err_from_is_err_and c.from_residual.result c.from_residual.ensures.1 in
    rw (exit.1 ∙ ap Err exit.2) (lacks_moment_past c.args.asked.now.plan.now document c.in_err-now.field-0.0 (streams (option_map (λ r. g.R.Read.remaining r) c.args.rows) (g.W.Write.contents c.args.out.now) (g.W.Write.contents c.args.out.now))
    c.in_err-now.ensures.needed (lacks_moment c.args.asked.now.plan.now document c.args.asked.now.checked.now c.args.asked.now.given c.requires c.in_err-now.ensures.none c.in_err-now.ensures.asks is_filter)
    (Keeps-refl (g.W.Write.contents c.args.out.now)))

pub returns-in-Ok-clause-done : goal.returns-in-Ok-clause-done
returns-in-Ok-clause-done g c document is_filter = record {
  filter = c.args.asked.now.checked.now;
  now = c.in_ok-now.now;
  is_ready = is_ready c.args.asked.now.plan.now document c.args.asked.now.checked.now c.args.asked.now.given c.in_ok-now.now c.requires c.in_ok-now.ensures.moment is_filter;
  written = c.in-Ok.ensures.done;
}

pub returns-in-Err-clause-failed : goal.returns-in-Err-clause-failed
returns-in-Err-clause-failed g c document is_filter =
    let plan = c.args.asked.now.plan.now in
    let over = streams (option_map (λ r. g.R.Read.remaining r) c.args.rows) (g.W.Write.contents c.args.out.now) (g.W.Write.contents c.lines_past_faults.new.out) in
    let ready = is_ready plan document c.args.asked.now.checked.now c.args.asked.now.given c.in_ok-now.now c.requires c.in_ok-now.ensures.moment is_filter in
    subst (λ (status : Status). FailsPastFaults status plan document over) (sym c.failure_of.ensures)
    (fails_past plan document c.args.asked.now.checked.now c.in_ok-now.now ready over c.in-Err.end c.in-Err.ensures.failed)
