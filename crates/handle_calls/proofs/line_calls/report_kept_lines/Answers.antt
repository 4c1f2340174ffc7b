use Rattle.std.proofs.Common.{List, ℕ, Ok, refl, subst}
use Rattle.handle_calls.specs.RowCalls.{IsRunOver}
use Rattle.handle_calls.specs.RowReports.{ReportsTally}
use Rattle.handle_calls.proofs.line_calls.report_kept_lines.Goals as goal

pub returns-in-Ok : goal.returns-in-Ok
returns-in-Ok c =
    let run = c.run_over-outcome.result in let tally = c.in-Ok.tally in
    record {
      outcome = Ok tally;
      text = run.kept.items;
      right = subst (λ outcome. IsRunOver c.args.held.now c.args.judge.now.moment c.args.judge.now.bound c.args.rows.now outcome run.kept.items) c.in-Ok.is c.run_over-outcome.ensures;
      keeps = refl;
      reports = subst (λ (text : List ℕ). ReportsTally tally text c.args.buffer.now c.report_tally.new.buffer c.report_tally.new.answer c.report_tally.result) c.deref.ensures.value c.report_tally.ensures;
    }
