use Rattle.std.proofs.Common.{Err, ap, ◌∙◌, option_map}
use Rattle.std.proofs.lemmas.Result.{err_from_is_err_and}
use Rattle.odata_filter.proofs.RunLemmas.RowEndings.{lines_begin, lines_say}
use Rattle.odata_filter.proofs.command.rows.filter_by_line.Goals as goal

pub returns-clause-says : goal.returns-clause-says
returns-clause-says g c document is_ready =
    rw c.in_ok-lines_by_filter.was at (lines_say c.args.ready.now.plan.now document c.args.ready.now.checked.now c.args.ready.now.now is_ready c.requires
    (record { rows = option_map (λ r. g.R.Read.remaining r) c.args.rows; old = g.W.Write.contents c.args.out.now; new = g.W.Write.contents c.lines_by_filter.new.out })
    c.lines_by_filter.result c.lines_by_filter.ensures.done c.lines_by_filter.ensures.failed)

pub returns-clause-begins : goal.returns-clause-begins
returns-clause-begins g c document is_ready =
    lines_begin c.args.ready.now.plan.now document c.args.ready.now.checked.now c.args.ready.now.now is_ready c.requires
    (record { rows = option_map (λ r. g.R.Read.remaining r) c.args.rows; old = g.W.Write.contents c.args.out.now; new = g.W.Write.contents c.lines_by_filter.new.out })
    c.lines_by_filter.result c.lines_by_filter.ensures.done c.lines_by_filter.ensures.failed

pub returns-in_err-lines_by_filter-clause-says : goal.returns-in_err-lines_by_filter-clause-says
returns-in_err-lines_by_filter-clause-says g c document is_ready =
    let exit = err_from_is_err_and c.from_residual.result c.from_residual.ensures.1 in
    rw (exit.1 ∙ ap Err exit.2) (rw c.in_err-lines_by_filter.was at (lines_say c.args.ready.now.plan.now document c.args.ready.now.checked.now c.args.ready.now.now is_ready c.requires
    (record { rows = option_map (λ r. g.R.Read.remaining r) c.args.rows; old = g.W.Write.contents c.args.out.now; new = g.W.Write.contents c.lines_by_filter.new.out })
    c.lines_by_filter.result c.lines_by_filter.ensures.done c.lines_by_filter.ensures.failed))

pub returns-in_err-lines_by_filter-clause-begins : goal.returns-in_err-lines_by_filter-clause-begins
returns-in_err-lines_by_filter-clause-begins g c document is_ready =
    lines_begin c.args.ready.now.plan.now document c.args.ready.now.checked.now c.args.ready.now.now is_ready c.requires
    (record { rows = option_map (λ r. g.R.Read.remaining r) c.args.rows; old = g.W.Write.contents c.args.out.now; new = g.W.Write.contents c.lines_by_filter.new.out })
    c.lines_by_filter.result c.lines_by_filter.ensures.done c.lines_by_filter.ensures.failed
