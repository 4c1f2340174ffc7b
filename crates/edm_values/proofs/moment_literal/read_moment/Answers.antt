use Rattle.std.proofs.Common.{ℕ, List, pos, take, drop, arith, ap, sym, subst, ◌∙◌}
use mir.Val.{to_z, of_z}
use Rattle.std.specs.Int.{w16}
use Rattle.edm_values.proofs.moments.Offsets.{offset_kept}
use Rattle.std.proofs.lemmas.Option.{same_Some}
use Rattle.edm_values.specs.MomentLiteral.{MinutesValue, SecondsValue, OffsetValue}
use Rattle.edm_values.proofs.moments.Moments.{front_is, moment_read, moment_made, same_three, same_two}
use Rattle.edm_values.proofs.moment_literal.read_moment.Goals as goal

pub returns-in_err-date-clause-only : goal.returns-in_err-date-clause-only
returns-in_err-date-clause-only c = λ moment v.
    let cut = c.in_ok-minutes.ensures.cases in
    let front = front_is c.args.text.now c.in_ok-minutes.minutes.now c.in_ok-minutes.rest.now moment v
    (cut.1 ∙ ap (λ (xs : List ℕ). take 16 xs) c.as_bytes.ensures.value) (cut.2 ∙ ap (λ (xs : List ℕ). drop 16 xs) c.as_bytes.ensures.value) in
    let time = moment.civil.time in
    let minutes = c.read_minutes.ensures.only moment.civil.date moment.civil.time.hour moment.civil.time.minute
    (omega (arith, moment.civil.time.hour_in)) (omega (arith, moment.civil.time.minute_in))
    (subst (λ (xs : List ℕ). MinutesValue xs moment.civil.date moment.civil.time.hour moment.civil.time.minute) (sym front.0) v.is_minutes) in
    let none = c.in_err-date.was in
    cc

pub returns-in_err-seconds-clause-only : goal.returns-in_err-seconds-clause-only
returns-in_err-seconds-clause-only c = λ moment v.
    let cut = c.in_ok-minutes.ensures.cases in
    let front = front_is c.args.text.now c.in_ok-minutes.minutes.now c.in_ok-minutes.rest.now moment v
    (cut.1 ∙ ap (λ (xs : List ℕ). take 16 xs) c.as_bytes.ensures.value) (cut.2 ∙ ap (λ (xs : List ℕ). drop 16 xs) c.as_bytes.ensures.value) in
    let time = moment.civil.time in
    let pieces = c.split_offset.ensures.only v.seconds v.offset moment.offset_minutes v.is_offset front.1 in
    let none = rw c.in_err-seconds.was at pieces in
    absurd none

pub returns-in_err-second-clause-only : goal.returns-in_err-second-clause-only
returns-in_err-second-clause-only c = λ moment v.
    let cut = c.in_ok-minutes.ensures.cases in
    let front = front_is c.args.text.now c.in_ok-minutes.minutes.now c.in_ok-minutes.rest.now moment v
    (cut.1 ∙ ap (λ (xs : List ℕ). take 16 xs) c.as_bytes.ensures.value) (cut.2 ∙ ap (λ (xs : List ℕ). drop 16 xs) c.as_bytes.ensures.value) in
    let time = moment.civil.time in
    let pieces = c.split_offset.ensures.only v.seconds v.offset moment.offset_minutes v.is_offset front.1 in
    let piece = rw c.in_ok-seconds.was at pieces in
    let second = c.read_seconds.ensures.only moment.civil.time.second moment.civil.time.subsec_nanosecond (omega (arith, moment.civil.time.second_in))
    (subst (λ (xs : List ℕ). SecondsValue xs moment.civil.time.second moment.civil.time.subsec_nanosecond) (sym piece.0) v.is_seconds) in
    let none = c.in_err-second.was in
    cc

pub returns-in_err-time-clause-only : goal.returns-in_err-time-clause-only
returns-in_err-time-clause-only c = λ moment v.
    let cut = c.in_ok-minutes.ensures.cases in
    let front = front_is c.args.text.now c.in_ok-minutes.minutes.now c.in_ok-minutes.rest.now moment v
    (cut.1 ∙ ap (λ (xs : List ℕ). take 16 xs) c.as_bytes.ensures.value) (cut.2 ∙ ap (λ (xs : List ℕ). drop 16 xs) c.as_bytes.ensures.value) in
    let time = moment.civil.time in
    let minutes = c.read_minutes.ensures.only moment.civil.date moment.civil.time.hour moment.civil.time.minute
    (omega (arith, moment.civil.time.hour_in)) (omega (arith, moment.civil.time.minute_in))
    (subst (λ (xs : List ℕ). MinutesValue xs moment.civil.date moment.civil.time.hour moment.civil.time.minute) (sym front.0) v.is_minutes) in
    let pieces = c.split_offset.ensures.only v.seconds v.offset moment.offset_minutes v.is_offset front.1 in
    let piece = rw c.in_ok-seconds.was at pieces in
    let second = c.read_seconds.ensures.only moment.civil.time.second moment.civil.time.subsec_nanosecond (omega (arith, moment.civil.time.second_in))
    (subst (λ (xs : List ℕ). SecondsValue xs moment.civil.time.second moment.civil.time.subsec_nanosecond) (sym piece.0) v.is_seconds) in
    let numbers = same_three c.in_ok-date.date moment.civil.date c.in_ok-date.hour moment.civil.time.hour c.in_ok-date.minute moment.civil.time.minute (sym c.in_ok-date.was ∙ minutes) in
    let parts = same_two c.in_ok-second.second moment.civil.time.second c.in_ok-second.nanosecond moment.civil.time.subsec_nanosecond (sym c.in_ok-second.was ∙ second) in
    let clock = c.clock_time.ensures.only moment.civil.time
    (ap (λ (n : ℕ). pos n) (sym numbers.1), ap (λ (n : ℕ). pos n) (sym numbers.2), ap (λ (n : ℕ). pos n) (sym parts.0), ap (λ (n : ℕ). pos n) (sym parts.1)) in
    let none = c.in_err-time.was in
    cc

pub returns-in_err-read_offset-clause-only : goal.returns-in_err-read_offset-clause-only
returns-in_err-read_offset-clause-only c = λ moment v.
    let cut = c.in_ok-minutes.ensures.cases in
    let front = front_is c.args.text.now c.in_ok-minutes.minutes.now c.in_ok-minutes.rest.now moment v
    (cut.1 ∙ ap (λ (xs : List ℕ). take 16 xs) c.as_bytes.ensures.value) (cut.2 ∙ ap (λ (xs : List ℕ). drop 16 xs) c.as_bytes.ensures.value) in
    let time = moment.civil.time in
    let pieces = c.split_offset.ensures.only v.seconds v.offset moment.offset_minutes v.is_offset front.1 in
    let piece = rw c.in_ok-seconds.was at pieces in
    let offset = c.read_offset.ensures.only moment.offset_minutes (subst (λ (xs : List ℕ). OffsetValue xs moment.offset_minutes) (sym piece.1) v.is_offset) in
    let none = c.in_err-read_offset.was in
    cc

pub returns-clause-only : goal.returns-clause-only
returns-clause-only c = λ moment v.
    let cut = c.in_ok-minutes.ensures.cases in
    let front = front_is c.args.text.now c.in_ok-minutes.minutes.now c.in_ok-minutes.rest.now moment v
    (cut.1 ∙ ap (λ (xs : List ℕ). take 16 xs) c.as_bytes.ensures.value) (cut.2 ∙ ap (λ (xs : List ℕ). drop 16 xs) c.as_bytes.ensures.value) in
    let time = moment.civil.time in
    let minutes = c.read_minutes.ensures.only moment.civil.date moment.civil.time.hour moment.civil.time.minute
    (omega (arith, moment.civil.time.hour_in)) (omega (arith, moment.civil.time.minute_in))
    (subst (λ (xs : List ℕ). MinutesValue xs moment.civil.date moment.civil.time.hour moment.civil.time.minute) (sym front.0) v.is_minutes) in
    let pieces = c.split_offset.ensures.only v.seconds v.offset moment.offset_minutes v.is_offset front.1 in
    let piece = rw c.in_ok-seconds.was at pieces in
    let second = c.read_seconds.ensures.only moment.civil.time.second moment.civil.time.subsec_nanosecond (omega (arith, moment.civil.time.second_in))
    (subst (λ (xs : List ℕ). SecondsValue xs moment.civil.time.second moment.civil.time.subsec_nanosecond) (sym piece.0) v.is_seconds) in
    let numbers = same_three c.in_ok-date.date moment.civil.date c.in_ok-date.hour moment.civil.time.hour c.in_ok-date.minute moment.civil.time.minute (sym c.in_ok-date.was ∙ minutes) in
    let parts = same_two c.in_ok-second.second moment.civil.time.second c.in_ok-second.nanosecond moment.civil.time.subsec_nanosecond (sym c.in_ok-second.was ∙ second) in
    let clock = c.clock_time.ensures.only moment.civil.time
    (ap (λ (n : ℕ). pos n) (sym numbers.1), ap (λ (n : ℕ). pos n) (sym numbers.2), ap (λ (n : ℕ). pos n) (sym parts.0), ap (λ (n : ℕ). pos n) (sym parts.1)) in
    let offset = c.read_offset.ensures.only moment.offset_minutes (subst (λ (xs : List ℕ). OffsetValue xs moment.offset_minutes) (sym piece.1) v.is_offset) in
    moment_made c.new.result c.from_parts.result (to_z w16 (of_z w16 c.in_ok-read_offset.field-0)) c.args.text.now moment v c.new.ensures.made c.new.ensures.value
    (c.from_parts.ensures.date ∙ numbers.0)
    (c.from_parts.ensures.time ∙ same_Some c.in_ok-time.time moment.civil.time (sym c.in_ok-time.was ∙ clock))
    (offset_kept c.in_ok-seconds.offset.now c.in_ok-read_offset.field-0 c.in_ok-read_offset.ensures.value ∙ same_Some c.in_ok-read_offset.field-0 moment.offset_minutes (sym c.in_ok-read_offset.was ∙ offset))

pub returns-clause-value : goal.returns-clause-value
returns-clause-value c =
    let cut = c.in_ok-minutes.ensures.cases in
    moment_read c.args.text.now c.in_ok-minutes.minutes.now c.in_ok-minutes.rest.now c.in_ok-seconds.seconds.now c.in_ok-seconds.offset.now
    c.in_ok-date.date c.in_ok-date.hour c.in_ok-date.minute c.in_ok-second.second c.in_ok-second.nanosecond c.in_ok-time.time
    c.from_parts.result (to_z w16 (of_z w16 c.in_ok-read_offset.field-0)) c.new.result
    (cut.1 ∙ ap (λ (xs : List ℕ). take 16 xs) c.as_bytes.ensures.value) (cut.2 ∙ ap (λ (xs : List ℕ). drop 16 xs) c.as_bytes.ensures.value)
    c.in_ok-seconds.ensures.value c.in_ok-date.ensures.value.2 c.in_ok-second.ensures.value.2 (rw (offset_kept c.in_ok-seconds.offset.now c.in_ok-read_offset.field-0 c.in_ok-read_offset.ensures.value) c.in_ok-read_offset.ensures.value) c.in_ok-time.ensures.value
    c.from_parts.ensures.date c.from_parts.ensures.time c.new.ensures.value
