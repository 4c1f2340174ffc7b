use Rattle.std.proofs.Common.{IfSome}
use Rattle.edm_values.specs.MomentParts.{MomentParts}
use Rattle.odata_checked_filter.specs.Filter.{Filter}
use Rattle.line_filter.specs.Growth.{Writes}
use Rattle.line_filter.specs.Kept.{Filters}
use Rattle.line_filter.specs.LineSource.{left_of}
use Rattle.filter_runs.specs.DeviceFaults.{StopsLines}
use Rattle.row_judges.specs.RowJudgment.{rows_of}
use Rattle.filter_runs.proofs.RowLemmas.DeviceCalls.{reads_until_fault, writes_until_fault}
use Rattle.filter_runs.proofs.RowLemmas.RowLineJudges.{of_filter, stops_lines}
use Rattle.filter_runs.proofs.filter.filter_lines_with.Goals as goal

pub returns-in-Ok-clause-filters : goal.returns-in-Ok-clause-filters
returns-in-Ok-clause-filters g c =
    let judge = c.new-judge.result in
    let left = left_of g.R.Read.remaining c.args.rows.now in
    let old = g.T.Writes.contents c.args.out.now in
    let new = g.T.Writes.contents c.filter_reader.new.out in
    let Passed : Filter → MomentParts → Type 0 = λ f m. IfSome left (λ bytes. Writes old new (λ text. Filters (rows_of f m bytes) text c.in-Ok.tally)) in
    of_filter Passed judge.filter c.args.checked.now judge.moment c.args.now.now c.new-judge.ensures.filter c.new-judge.ensures.moment c.in-Ok.ensures.filters

pub returns-clause-stops : goal.returns-clause-stops
returns-clause-stops g c =
    let judge = c.new-judge.result in
    let source = c.filter_reader.new.reader in
    let left = left_of g.R.Read.remaining c.args.rows.now in
    let known = g.R.Read.remaining source.reader in
    let old = g.T.Writes.contents c.args.out.now in
    let new = g.T.Writes.contents c.filter_reader.new.out in
    let Stopped : Filter → MomentParts → Type 0 = λ f m. IfSome left (λ bytes. Writes old new (λ text. StopsLines f m bytes source.waiting known text c.run_fault.result)) in
    of_filter Stopped judge.filter c.args.checked.now judge.moment c.args.now.now c.new-judge.ensures.filter c.new-judge.ensures.moment
    (stops_lines judge.filter judge.moment source.waiting known left old new c.in-Err.stop c.run_fault.result c.run_fault.ensures c.in-Err.ensures.stops)

pub returns-clause-reads : goal.returns-clause-reads
returns-clause-reads g c =
    reads_until_fault g.S.Reads.calls g.R.Read.remaining c.args.rows.now c.filter_reader.new.reader c.run_fault.result c.in-Err.stop c.run_fault.ensures c.in-Err.ensures.reads

pub returns-clause-writes : goal.returns-clause-writes
returns-clause-writes g c =
    writes_until_fault (g.T.Writes.calls c.args.out.now) (g.T.Writes.calls c.filter_reader.new.out) c.run_fault.result c.in-Err.stop c.run_fault.ensures c.in-Err.ensures.writes
