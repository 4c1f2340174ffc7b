use Rattle.std.proofs.Common.{◌≡◌, ℕ, List, [], arith, subst}
use Rattle.odfilter_c.specs.Loans.{UnlessLong}
use Rattle.handle_calls.specs.RowReports.{FiltersLines}
use Rattle.odfilter_c.proofs.null_buffer_calls.filter_lines_to_null_at_null.Goals as goal

pub returns : goal.returns
returns c =
    let new = c.filter_lines_at_null.new.kept in
    let judge = c.filter_lines_at_null.new.judge in
    let answer = c.filter_lines_at_null.new.answer in
    let status = c.filter_lines_at_null.result in
    let said =
    subst (λ (old : List ℕ). UnlessLong c.args.rows_length ((judge ≡ c.args.judge.now) × ((new ≡ old) × ((answer ≡ c.args.answer.now) × (status ≡ 1)))) (FiltersLines c.args.filter.now c.args.judge.now judge [] old new answer status))
    c.as_mut_slice.ensures.value c.filter_lines_at_null.ensures in
    ((λ _. (new, said)), (λ long. let short = c.if-length-gt0.false in absurd (omega (arith, long, short))))
