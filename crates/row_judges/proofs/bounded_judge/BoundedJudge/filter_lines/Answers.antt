use Rattle.std.proofs.Common.{ℕ, IfErr, IfOk}
use Rattle.edm_values.specs.MomentParts.{MomentParts}
use Rattle.line_filter.specs.Growth.{Grows}
use Rattle.line_filter.specs.Kept.{Filters, StopsHeld}
use Rattle.odata_checked_filter.specs.Filter.{Filter}
use Rattle.row_judges.specs.RowCosts.{rows_within}
use Rattle.row_judges.proofs.RowLemmas.BoundedLines.{by_judge}
use Rattle.row_judges.proofs.bounded_judge.BoundedJudge.filter_lines.Goals as goal

pub returns-clause-filters : goal.returns-clause-filters
returns-clause-filters c =
    let judge = c.new-judge.result in
    let by = c.args.self.now in
    let old = c.args.out.now.items in
    let new = c.filter_bytes.new.out.items in
    let Passed : Filter → MomentParts → ℕ → Type 0 = λ f m k. IfOk c.filter_bytes.result (λ tally. Grows old new (λ text. Filters (rows_within f m k c.args.rows.now) text tally)) in
    by_judge Passed judge.filter by.checked.now judge.moment by.moment.now judge.most by.most c.new-judge.ensures.filter c.new-judge.ensures.moment c.new-judge.ensures.most c.filter_bytes.ensures.filters

pub returns-clause-stops : goal.returns-clause-stops
returns-clause-stops c =
    let judge = c.new-judge.result in
    let by = c.args.self.now in
    let old = c.args.out.now.items in
    let new = c.filter_bytes.new.out.items in
    let Stopped : Filter → MomentParts → ℕ → Type 0 = λ f m k. IfErr c.filter_bytes.result (λ stop. Grows old new (λ text. StopsHeld (rows_within f m k c.args.rows.now) text stop)) in
    by_judge Stopped judge.filter by.checked.now judge.moment by.moment.now judge.most by.most c.new-judge.ensures.filter c.new-judge.ensures.moment c.new-judge.ensures.most c.filter_bytes.ensures.stops
