use Rattle.std.proofs.Common.{arith, ◌+◌, ◌*◌, ◌≡◌}
use Rattle.edm_values.specs.DateLiteral.{date_text}
use Rattle.edm_values.proofs.literals.Dates.{date_from_bytes}
use Rattle.edm_values.proofs.date_literal.date_numbers.Goals as goal

pub returns-clause-value : goal.returns-clause-value
returns-clause-value c =
    let century = c.in_ok-century.ensures.value in
    let year = c.in_ok-year.ensures.value in
    let month = c.in_ok-month.ensures.value in
    let day = c.in_ok-day.ensures.value in
    let spelled : c.args.text.now ≡ date_text (100 * c.in_ok-century.century + c.in_ok-year.year) c.in_ok-month.month c.in_ok-day.day =
    date_from_bytes c.args.text.now c.in_ok-century.century c.in_ok-year.year c.in_ok-month.month c.in_ok-day.day
    century.0 year.0 (omega arith)
    century.1 century.2 year.1 year.2 (omega arith) month.1 month.2 (omega arith) day.1 day.2 in
    rw (c.from.ensures, c.from-2.ensures) (omega (arith, century.0, year.0), month.0, day.0, spelled)
