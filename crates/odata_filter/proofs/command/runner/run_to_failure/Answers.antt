use Rattle.std.proofs.Common.{refl, option_map}
use Rattle.odata_filter.specs.private.RunFailures.{status_of}
use Rattle.odata_filter.specs.Run.{complete}
use Rattle.odata_filter.proofs.RunLemmas.RunEndings.{Answers-reported}
use Rattle.odata_filter.proofs.command.runner.run_to_failure.Goals as goal

pub returns-in-Ok-clause-answers : goal.returns-in-Ok-clause-answers
returns-in-Ok-clause-answers g c = record { status = complete; is_answer = refl; says = c.in-Ok.ensures.says; begins = c.in-Ok.ensures.begins }

pub returns-in-Err-clause-answers : goal.returns-in-Err-clause-answers
returns-in-Err-clause-answers g c =
    Answers-reported c.report.result (status_of c.in-Err.failure) c.args.plan.now c.args.document.now (option_map (λ r. g.R.Read.remaining r) c.args.rows)
    (g.W.Write.contents c.args.out.now) (g.W.Write.contents c.carry_out.new.out) (g.W.Write.contents c.report.new.out)
    c.in-Err.ensures.says c.in-Err.ensures.begins c.report.ensures.reported
