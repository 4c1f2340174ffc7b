use Rattle.std.proofs.Common.{◌≡◌, ℕ, List, [], arith, subst}
use Rattle.odfilter_c.specs.Loans.{UnlessLong}
use Rattle.report_calls.specs.Reports.{ReportsSql}
use Rattle.odfilter_c.proofs.length_calls.sql_to_null_at_null.Goals as goal

pub returns : goal.returns
returns c =
    let new = c.sql_at_null.new.text in
    let answer = c.sql_at_null.new.answer in
    let status = c.sql_at_null.result in
    let said =
    subst (λ (old : List ℕ). UnlessLong c.args.how_length ((new ≡ old) × ((answer ≡ c.args.answer.now) × (status ≡ 1))) (ReportsSql c.args.filter.now c.args.form [] old new answer status))
    c.as_mut_slice.ensures.value c.sql_at_null.ensures in
    ((λ _. (new, said)), (λ long. let short = c.if-length-gt0.false in absurd (omega (arith, long, short))))
