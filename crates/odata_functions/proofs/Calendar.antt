-- Day numbers determine dates: those of the library are those of the calendar.
use Rattle.std.proofs.Common.{◌≡◌, ℕ, zero, suc, ◌+◌, ◌-◌, ◌<◌, ◌≤◌, ℤ, pos, negsuc, neg_ℤ, ◌+ℤ◌, ◌-ℤ◌, ◌≤ℤ◌, unsigned_abs, arith, refl, sym, ap, subst, ◌∙◌, rules}
use Rattle.std.proofs.lemmas.Bool.Decides.{nat_tests}
use Rattle.jiff_core.specs.declared.civil.date.Date.{Date}
use Rattle.jiff_core.specs.Calendar.{day_count, days_from_civil, days_in_month, days_of_months}
use Rattle.jiff_core.specs.Calendar.{days_of_years as counted_years}
use Rattle.jiff_core.specs.Date.{epoch_day}
use Rattle.jiff_core.proofs.CalendarLemmas.{days_from_civil-day_count, days_of_months_table}
use Rattle.jiff_core.proofs.DateLemmas.{epoch_day_injective}
use Rattle.jiff_core.proofs.MarchLemmas.{days_of_years-suc, leap_day}
use Rattle.jiff_core.proofs.SignedLemmas.{signed_arith}
use borrow.Author.Differences.{up, down}
use Rattle.odata_functions.specs.Gregorian.{IsDateOf, day_number, days_before_month, days_of_month, days_of_years}

-- one year more
year_more : (n : ℕ) → days_of_years (suc n) ≡ days_of_years n + 365 + leap_day (pos (suc n))
year_more n = grind (arith, nat_tests)

no_years : counted_years 0 ≡ 0
unfolding counted_years
no_years = refl

-- the library counts from the leap year -10000 on
years_counted : (n : ℕ) → counted_years (suc n) ≡ 366 + days_of_years n
years_counted zero =
    let first = days_of_years-suc 0 in
    let none = no_years in
    omega arith
years_counted (suc n) =
    let before = years_counted n in
    let here = days_of_years-suc (suc n) in
    let more = year_more n in
    omega arith

months_counted : (y : ℤ) (n : ℕ) → n < 12 → days_of_months y n ≡ days_before_month y (n + 1)
months_counted y zero h = days_of_months_table y 0 h
months_counted y (suc zero) h = days_of_months_table y 1 h ∙ grind arith
months_counted y (suc (suc zero)) h = days_of_months_table y 2 h ∙ grind arith
months_counted y (suc (suc (suc zero))) h = days_of_months_table y 3 h ∙ grind arith
months_counted y (suc (suc (suc (suc zero)))) h = days_of_months_table y 4 h ∙ grind arith
months_counted y (suc (suc (suc (suc (suc zero))))) h = days_of_months_table y 5 h ∙ grind arith
months_counted y (suc (suc (suc (suc (suc (suc zero)))))) h = days_of_months_table y 6 h ∙ grind arith
months_counted y (suc (suc (suc (suc (suc (suc (suc zero))))))) h = days_of_months_table y 7 h ∙ grind arith
months_counted y (suc (suc (suc (suc (suc (suc (suc (suc zero)))))))) h = days_of_months_table y 8 h ∙ grind arith
months_counted y (suc (suc (suc (suc (suc (suc (suc (suc (suc zero))))))))) h = days_of_months_table y 9 h ∙ grind arith
months_counted y (suc (suc (suc (suc (suc (suc (suc (suc (suc (suc zero)))))))))) h = days_of_months_table y 10 h ∙ grind arith
months_counted y (suc (suc (suc (suc (suc (suc (suc (suc (suc (suc (suc zero))))))))))) h = days_of_months_table y 11 h ∙ grind arith
months_counted y (suc (suc (suc (suc (suc (suc (suc (suc (suc (suc (suc (suc n)))))))))))) h = absurd (omega arith)

month_days : (y : ℤ) (m : ℕ) → 1 ≤ m → m ≤ 12 → days_in_month y m ≡ days_of_month y m
month_days y zero low high = absurd (omega arith)
month_days y (suc zero) low high = refl
month_days y (suc (suc zero)) low high = refl
month_days y (suc (suc (suc zero))) low high = refl
month_days y (suc (suc (suc (suc zero)))) low high = refl
month_days y (suc (suc (suc (suc (suc zero))))) low high = refl
month_days y (suc (suc (suc (suc (suc (suc zero)))))) low high = refl
month_days y (suc (suc (suc (suc (suc (suc (suc zero))))))) low high = refl
month_days y (suc (suc (suc (suc (suc (suc (suc (suc zero)))))))) low high = refl
month_days y (suc (suc (suc (suc (suc (suc (suc (suc (suc zero))))))))) low high = refl
month_days y (suc (suc (suc (suc (suc (suc (suc (suc (suc (suc zero)))))))))) low high = refl
month_days y (suc (suc (suc (suc (suc (suc (suc (suc (suc (suc (suc zero))))))))))) low high = refl
month_days y (suc (suc (suc (suc (suc (suc (suc (suc (suc (suc (suc (suc zero)))))))))))) low high = refl
month_days y (suc (suc (suc (suc (suc (suc (suc (suc (suc (suc (suc (suc (suc m))))))))))))) low high = absurd (omega arith)

counted : (y : ℤ) (m d : ℕ) → day_count y m d ≡ counted_years (unsigned_abs (y +ℤ pos 10000)) + (days_of_months y (m - 1) + d - 1)
unfolding day_count
counted y m d = refl

one_above : (z w : ℤ) → w ≡ z +ℤ pos 1 → pos 0 ≤ℤ z → unsigned_abs w ≡ suc (unsigned_abs z)
one_above (pos n) (pos m) e h = omega (arith, signed_arith)
one_above (pos n) (negsuc m) e h = absurd (omega (arith, signed_arith))
one_above (negsuc n) w e h = absurd (omega (arith, signed_arith))

year_above : (y : ℤ) → neg_ℤ (pos 9999) ≤ℤ y → unsigned_abs (y +ℤ pos 10000) ≡ suc (unsigned_abs (y +ℤ pos 9999))
year_above y low =
    let sum : y +ℤ pos 10000 ≡ y +ℤ pos 9999 +ℤ pos 1 = omega (arith, signed_arith) in
    let above : pos 0 ≤ℤ (y +ℤ pos 9999) = omega (arith, signed_arith) in
    one_above (y +ℤ pos 9999) (y +ℤ pos 10000) sum above

of_numbers : (x : ℤ) (all counted years months before d : ℕ) → up x + 4_371_953 ≡ down x + all → all ≡ counted + (months + d - 1)
    → counted ≡ 366 + years → months ≡ before → 1 ≤ d
    → x ≡ pos (years + before + (d - 1)) -ℤ pos 4_371_587
of_numbers x all counted years months before d e f g h i = omega (arith, signed_arith)

-- the library's day number is that of the calendar
pub same_number : (y : ℤ) (m d : ℕ) → neg_ℤ (pos 9999) ≤ℤ y → 1 ≤ m → m ≤ 12 → 1 ≤ d → days_from_civil y m d ≡ day_number y m d
same_number y m d low some most from_one =
    let next : unsigned_abs (y +ℤ pos 10000) ≡ suc (unsigned_abs (y +ℤ pos 9999)) = year_above y low in
    let years : counted_years (unsigned_abs (y +ℤ pos 10000)) ≡ 366 + days_of_years (unsigned_abs (y +ℤ pos 9999)) =
    ap counted_years next ∙ years_counted (unsigned_abs (y +ℤ pos 9999)) in
    let small : m - 1 < 12 = omega arith in
    let back : m - 1 + 1 ≡ m = omega arith in
    let months : days_of_months y (m - 1) ≡ days_before_month y m =
    months_counted y (m - 1) small ∙ ap (days_before_month y) back in
    let all = counted y m d in
    of_numbers (days_from_civil y m d) (day_count y m d) (counted_years (unsigned_abs (y +ℤ pos 10000))) (days_of_years (unsigned_abs (y +ℤ pos 9999)))
    (days_of_months y (m - 1)) (days_before_month y m) d (days_from_civil-day_count y m d) all years months from_one

-- the dates of the library
pub date_there : (d : Date) → IsDateOf (epoch_day d) d.year d.month d.day
date_there d = record {
  year_in = d.year_in;
  month_in = d.month_in;
  day_in = (d.day_in.0, subst (λ (n : ℕ). d.day ≤ n) (month_days d.year d.month d.month_in.0 d.month_in.1) d.day_in.1);
  number_is = same_number d.year d.month d.day d.year_in.0 d.month_in.0 d.month_in.1 d.day_in.0;
}

of_date : (number year : ℤ) (month day : ℕ) → IsDateOf number year month day → Date
of_date number year month day is = record {
  year = year;
  month = month;
  day = day;
  year_in = is.year_in;
  month_in = is.month_in;
  day_in = (is.day_in.0, subst (λ (n : ℕ). day ≤ n) (sym (month_days year month is.month_in.0 is.month_in.1)) is.day_in.1);
}

pub one_date : (number y y' : ℤ) (m m' d d' : ℕ) → IsDateOf number y m d → IsDateOf number y' m' d' → (y ≡ y') × (m ≡ m') × (d ≡ d')
unfolding of_date
one_date number y y' m m' d d' first second =
    let a = of_date number y m d first in
    let b = of_date number y' m' d' second in
    let same : epoch_day a ≡ epoch_day b =
    same_number y m d first.year_in.0 first.month_in.0 first.month_in.1 first.day_in.0 ∙ sym first.number_is ∙ second.number_is
    ∙ sym (same_number y' m' d' second.year_in.0 second.month_in.0 second.month_in.1 second.day_in.0) in
    epoch_day_injective a b same

pub epoch : IsDateOf (pos 0) (pos 1970) 1 1
epoch = record { year_in = search rules; month_in = search rules; day_in = search rules; number_is = refl }
