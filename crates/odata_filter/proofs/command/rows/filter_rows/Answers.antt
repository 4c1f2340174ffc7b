use Rattle.std.proofs.Common.{Err, ap, ◌∙◌, inl, option_map}
use Rattle.std.proofs.lemmas.Result.{err_from_is_err_and}
use Rattle.std.proofs.KnownBytes.{Keeps-refl}
use Rattle.odata_filter.specs.Run.{streams}
use Rattle.odata_filter.proofs.RunLemmas.RunEndings.{is_ready, lacks_moment, without_moment}
use Rattle.odata_filter.proofs.command.rows.filter_rows.Goals as goal

pub returns-in_err-now-clause-says : goal.returns-in_err-now-clause-says
returns-in_err-now-clause-says g c document is_filter =
    let exit = err_from_is_err_and c.from_residual.result c.from_residual.ensures.1 in
    rw (exit.1 ∙ ap Err exit.2) (without_moment c.args.asked.now.plan.now document c.in_err-now.field-0.0 (streams (option_map (λ r. g.R.Read.remaining r) c.args.rows) (g.W.Write.contents c.args.out.now) (g.W.Write.contents c.args.out.now))
    c.in_err-now.ensures.needed (lacks_moment c.args.asked.now.plan.now document c.args.asked.now.checked.now c.args.asked.now.given c.requires c.in_err-now.ensures.none c.in_err-now.ensures.asks is_filter)
    (Keeps-refl (g.W.Write.contents c.args.out.now)))

pub returns-in_err-now-clause-begins : goal.returns-in_err-now-clause-begins
returns-in_err-now-clause-begins g c document is_filter = inl (Keeps-refl (g.W.Write.contents c.args.out.now))

pub returns-clause-says : goal.returns-clause-says
returns-clause-says g c document is_filter =
    c.filter_ready.ensures.says document
    (is_ready c.args.asked.now.plan.now document c.args.asked.now.checked.now c.args.asked.now.given c.in_ok-now.now c.requires c.in_ok-now.ensures.moment is_filter)

pub returns-clause-begins : goal.returns-clause-begins
returns-clause-begins g c document is_filter =
    c.filter_ready.ensures.begins document
    (is_ready c.args.asked.now.plan.now document c.args.asked.now.checked.now c.args.asked.now.given c.in_ok-now.now c.requires c.in_ok-now.ensures.moment is_filter)
