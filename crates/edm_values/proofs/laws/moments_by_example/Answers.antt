use Rattle.std.proofs.Common.{◌≡◌, inl, inr, [], codes, pos, neg_ℤ, arith, refl}
use Rattle.jiff.proofs.SpanFacts.{signed_arith}
use Rattle.edm_values.specs.MomentLiteral.{significant_digits}
use Rattle.edm_values.proofs.laws.moments_by_example.Goals as goal

pub returns-clause-new_year : goal.returns-clause-new_year
returns-clause-new_year c = (
  record {
    civil = record {
      date = record { year = pos 2020; month = 1; day = 1; year_in = (omega (arith, signed_arith), omega (arith, signed_arith)); month_in = (omega arith, omega arith); day_in = (omega arith, omega arith) };
      time = record { hour = 0; minute = 0; second = 0; subsec_nanosecond = 0; hour_in = omega arith; minute_in = omega arith; second_in = omega arith; subsec_in = omega arith };
    };
    offset_minutes = pos 0;
  },
  ((refl, refl, refl), (refl, refl, refl, refl), refl),
)

pub returns-clause-new_year_read : goal.returns-clause-new_year_read
returns-clause-new_year_read c = λ m is.
    let year : m.civil.date.year ≡ pos 2020 = is.0.0 in
    let month : m.civil.date.month ≡ 1 = let e = is.0.1 in cc in
    let day : m.civil.date.day ≡ 1 = let e = is.0.2 in cc in
    let hour : m.civil.time.hour ≡ 0 = let e = is.1.0 in cc in
    let minute : m.civil.time.minute ≡ 0 = let e = is.1.1 in cc in
    let second : m.civil.time.second ≡ 0 = let e = is.1.2 in cc in
    let nanosecond : m.civil.time.subsec_nanosecond ≡ 0 = let e = is.1.3 in cc in
    record {
      minutes = codes "2020-01-01t00:00";
      seconds = [];
      offset = codes "z";
      spelled = refl;
      is_minutes = ((omega (arith, signed_arith, year), omega (arith, signed_arith, year)), 116, inr refl, rw (year, month, day, hour, minute) refl);
      is_seconds = inl (refl, second, nanosecond);
      is_offset = inl (inr refl, is.2);
    }

pub returns-clause-leap_day : goal.returns-clause-leap_day
returns-clause-leap_day c = (
  record {
    civil = record {
      date = record { year = pos 2020; month = 2; day = 29; year_in = (omega (arith, signed_arith), omega (arith, signed_arith)); month_in = (omega arith, omega arith); day_in = (omega arith, omega arith) };
      time = record { hour = 23; minute = 59; second = 0; subsec_nanosecond = 120_000_000; hour_in = omega arith; minute_in = omega arith; second_in = omega arith; subsec_in = omega arith };
    };
    offset_minutes = neg_ℤ (pos 330);
  },
  ((refl, refl, refl), (refl, refl, refl, refl), refl),
)

pub returns-clause-leap_day_read : goal.returns-clause-leap_day_read
returns-clause-leap_day_read c = λ m is.
    let year : m.civil.date.year ≡ pos 2020 = is.0.0 in
    let month : m.civil.date.month ≡ 2 = let e = is.0.1 in cc in
    let day : m.civil.date.day ≡ 29 = let e = is.0.2 in cc in
    let hour : m.civil.time.hour ≡ 23 = let e = is.1.0 in cc in
    let minute : m.civil.time.minute ≡ 59 = let e = is.1.1 in cc in
    let second : m.civil.time.second ≡ 0 = let e = is.1.2 in cc in
    let nanosecond : m.civil.time.subsec_nanosecond ≡ 120_000_000 = let e = is.1.3 in cc in
    record {
      minutes = codes "2020-02-29T23:59";
      seconds = codes ":00.120";
      offset = codes "-05:30";
      spelled = refl;
      is_minutes = ((omega (arith, signed_arith, year), omega (arith, signed_arith, year)), 84, inl refl, rw (year, month, day, hour, minute) refl);
      is_seconds = rw (second, nanosecond) (inr (inr (codes "120", refl, ((omega arith, (omega arith, (omega arith, (omega arith, tt)))), omega arith, refl))));
      is_offset = inr (5, 30, omega arith, omega arith, inr (refl, is.2));
    }

pub returns-clause-leap_day_written : goal.returns-clause-leap_day_written
unfolding significant_digits
returns-clause-leap_day_written c = λ m is.
    let year : m.civil.date.year ≡ pos 2020 = is.0.0 in
    let month : m.civil.date.month ≡ 2 = let e = is.0.1 in cc in
    let day : m.civil.date.day ≡ 29 = let e = is.0.2 in cc in
    let hour : m.civil.time.hour ≡ 23 = let e = is.1.0 in cc in
    let minute : m.civil.time.minute ≡ 59 = let e = is.1.1 in cc in
    let second : m.civil.time.second ≡ 0 = let e = is.1.2 in cc in
    let nanosecond : m.civil.time.subsec_nanosecond ≡ 120_000_000 = let e = is.1.3 in cc in
    let offset : m.offset_minutes ≡ neg_ℤ (pos 330) = is.2 in
    rw (year, month, day, hour, minute, second, nanosecond, offset) refl
