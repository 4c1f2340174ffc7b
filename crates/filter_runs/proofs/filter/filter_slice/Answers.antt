use Rattle.std.proofs.Common.{◌≡◌}
use Rattle.edm_values.specs.MomentParts.{MomentParts}
use Rattle.odata_checked_filter.specs.Filter.{Filter}
use Rattle.line_filter.specs.Growth.{Grows}
use Rattle.line_filter.specs.Kept.{Filters, StopsOn}
use Rattle.row_judges.specs.RowJudgment.{rows_of}
use Rattle.filter_runs.specs.RunStops.{StopsBy}
use Rattle.filter_runs.specs.declared.run_fault.RunFault.{RunFault}
use Rattle.filter_runs.proofs.RowLemmas.RowLineJudges.{of_filter, held_memory, held_stops, held_unread, held_unwritten}
use Rattle.filter_runs.proofs.filter.filter_slice.Goals as goal

pub returns-in-Ok-clause-filters : goal.returns-in-Ok-clause-filters
returns-in-Ok-clause-filters c =
    let judge = c.new-judge.result in
    let rows = c.args.rows.now in
    let old = c.args.out.now.items in
    let new = c.filter_bytes.new.out.items in
    let Passed : Filter → MomentParts → Type 0 = λ f m. Grows old new (λ text. Filters (rows_of f m rows) text c.in-Ok.tally) in
    of_filter Passed judge.filter c.args.checked.now judge.moment c.args.now.now c.new-judge.ensures.filter c.new-judge.ensures.moment c.in-Ok.ensures.filters

pub returns-clause-stops : goal.returns-clause-stops
returns-clause-stops c =
    let judge = c.new-judge.result in
    let rows = c.args.rows.now in
    let old = c.args.out.now.items in
    let new = c.filter_bytes.new.out.items in
    let (text, wrote, stops) = c.in-Err.ensures.stops in
    let stopped = held_stops (rows_of judge.filter judge.moment rows) text c.run_fault.result c.in-Err.stop c.run_fault.ensures stops in
    let Stopped : Filter → MomentParts → Type 0 = λ f m. Grows old new (λ text. StopsBy (rows_of f m rows) text c.run_fault.result) in
    of_filter Stopped judge.filter c.args.checked.now judge.moment c.args.now.now c.new-judge.ensures.filter c.new-judge.ensures.moment
    (text, wrote, stopped)

pub returns-clause-unread : goal.returns-clause-unread
returns-clause-unread c =
    let judge = c.new-judge.result in
    let (text, wrote, stops) = c.in-Err.ensures.stops in
    held_unread (rows_of judge.filter judge.moment c.args.rows.now) text c.run_fault.result c.in-Err.stop c.run_fault.ensures stops

pub returns-clause-memory : goal.returns-clause-memory
returns-clause-memory c line same =
    let judge = c.new-judge.result in
    let rows = c.args.rows.now in
    let old = c.args.out.now.items in
    let new = c.filter_bytes.new.out.items in
    let (text, wrote, stops) = c.in-Err.ensures.stops in
    let here : c.run_fault.result ≡ RunFault.Memory line = cc in
    let On : Filter → MomentParts → Type 0 = λ f m. Grows old new (λ text. StopsOn (rows_of f m rows) text line) in
    of_filter On judge.filter c.args.checked.now judge.moment c.args.now.now c.new-judge.ensures.filter c.new-judge.ensures.moment
    (text, wrote, held_memory (rows_of judge.filter judge.moment rows) text c.run_fault.result c.in-Err.stop c.run_fault.ensures stops line here)

pub returns-clause-unwritten : goal.returns-clause-unwritten
returns-clause-unwritten c =
    let judge = c.new-judge.result in
    let (text, wrote, stops) = c.in-Err.ensures.stops in
    held_unwritten (rows_of judge.filter judge.moment c.args.rows.now) text c.run_fault.result c.in-Err.stop c.run_fault.ensures stops c.in-Err.ensures.of_item
