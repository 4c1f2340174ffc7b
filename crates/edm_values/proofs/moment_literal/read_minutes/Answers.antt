use Rattle.std.proofs.Common.{◌≡◌, ◌⊎◌, get_or, arith}
use Rattle.edm_values.proofs.moments.Moments.{minutes_read}
use Rattle.edm_values.proofs.moment_literal.read_minutes.Goals as goal

pub returns-clause-value : goal.returns-clause-value
returns-clause-value c =
    let cut = c.in_ok-date.ensures.cases in
    let hour = c.in_ok-read_two.ensures.value in
    let minute = c.in_ok-read_two-2.ensures.value in
    let letter : (get_or c.in_ok-date.clock.now 0 0 ≡ 84) ⊎ (get_or c.in_ok-date.clock.now 0 0 ≡ 116) = grind arith in (
      hour.0,
      minute.0,
      minutes_read c.args.text.now c.in_ok-date.date.now c.in_ok-date.clock.now c.in_ok-date_of.field-0 c.in_ok-read_two.field-0 c.in_ok-read_two-2.field-0
          cut.1 cut.2 c.in_ok-date_of.ensures.value (omega arith) letter (omega arith) (hour.1, hour.2, minute.1, minute.2),
    )
