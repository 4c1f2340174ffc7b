use Rattle.std.proofs.Common.{inr}
use Rattle.odata_filter.specs.Run.{IsRefusedLine}
use Rattle.odata_filter.specs.private.RunFailures.{status_of}
use Rattle.odata_filter.proofs.RunLemmas.RunEndings.{begun_kept, unwritten_number}
use Rattle.odata_filter.proofs.command.runner.report_refusal.Goals as goal

pub returns-in-Err-clause-answered : goal.returns-in-Err-clause-answered
returns-in-Err-clause-answered g c =
    inr (
      unwritten_number (status_of c.in-Err.other) c.report_failure.result c.report_failure.ensures.status c.in-Err.ensures.unwritten,
      begun_kept IsRefusedLine (g.W.Write.contents c.args.out.now) (g.W.Write.contents c.report_answer.new.out) (g.W.Write.contents c.report_failure.new.out) c.report_answer.ensures.begins c.report_failure.ensures.kept,
    )
