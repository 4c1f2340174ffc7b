use Rattle.std.proofs.Common.{◌≡◌, length, arith, ap, length-append}
use Rattle.edm_values.proofs.moments.Moments.{split_found}
use Rattle.edm_values.proofs.moment_literal.split_offset.Goals as goal

pub returns-in_err-checked_sub-clause-only : goal.returns-in_err-checked_sub-clause-only
returns-in_err-checked_sub-clause-only c = λ before offset minutes value same.
    let len = c.offset_len.ensures before offset minutes value same in
    let none = c.in_err-checked_sub.ensures in
    absurd (omega (arith, len, ap length same, length-append before offset, none))

pub returns-clause-only : goal.returns-clause-only
returns-clause-only c = λ before offset minutes value same.
    let len = c.offset_len.ensures before offset minutes value same in
    let some = c.in_ok-checked_sub.ensures in
    let mid : c.in_ok-checked_sub.field-0 ≡ length before = omega (arith, len, ap length same, length-append before offset, some) in
    split_found c.split_at_checked.result c.args.text.now before offset c.in_ok-checked_sub.field-0 c.split_at_checked.ensures.cases same mid
