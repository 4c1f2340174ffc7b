use Rattle.std.proofs.Common.{ℕ, List, subst}
use Rattle.line_filter.specs.Growth.{Grows}
use Rattle.line_filter.specs.Kept.{Stops, StopsHeld}
use Rattle.line_filter.specs.declared.run_stop.RunStop.{RunStop}
use Rattle.row_judges.specs.RowCosts.{rows_within}
use Rattle.row_judges.specs.declared.bounded_line_judge.BoundedFault.{BoundedFault}
use Rattle.handle_calls.proofs.RowSteps.{from_nothing, stopped_within}
use Rattle.handle_calls.proofs.line_calls.run_within.Goals as goal

pub returns-in-Err-Fault : goal.returns-in-Err-Fault
returns-in-Err-Fault c =
    let rows = rows_within c.args.checked.now c.args.now.now c.args.most c.args.rows.now in
    let new = c.filter_lines.new.out.items in
    let at = c.in-Err-Fault in
    let none = c.new-kept.result.items in
    let stops = subst (λ (stop : RunStop BoundedFault). Grows none new (λ (text : List ℕ). StopsHeld rows text stop)) at.field-0-is at.ensures.stops in
    stopped_within c.args.checked.now c.args.now.now c.args.most c.args.rows.now new c.line_fault.result at.line at.fault c.line_fault.ensures
    (from_nothing none new (λ (text : List ℕ). Stops rows text (RunStop.Fault at.line at.fault)) c.new-kept.ensures.items stops)
