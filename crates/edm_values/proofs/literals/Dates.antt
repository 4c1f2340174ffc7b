-- Date literals.
use Rattle.std.proofs.Common.{◌≤◌, negsuc, unsigned_abs, ◌≡◌, ℕ, ◌+◌, ◌*◌, ◌/◌, ◌%◌, ◌<◌, List, length, get_or, arith, sym, refl, ap, ◌∙◌, ℤ, pos, Some, Result, Ok, Err, IsOk, IfOk, ◌↔◌, Bool, true, false}
use Rattle.std.proofs.lemmas.Slice.Eq.{text_from_reads}
use Rattle.std.specs.Int.{w8, w16}
use Rattle.std.specs.Result.{result_ok}
use Rattle.std.proofs.lemmas.Int.{to_z_pos}
use Rattle.std.proofs.lemmas.Grind.{common_steps}
use mir.Val.{to_z}
use Rattle.jiff.proofs.SpanFacts.{signed_arith}
use Rattle.jiff.specs.Words.{IsDate, IsYmd, days_in_month}
use Rattle.jiff.specs.Types.{Date}
use Rattle.jiff.proofs.Family.{same_date, epoch_day_same}
use Rattle.edm_values.specs.MomentParts.{IsFourDigitYear}
use Rattle.edm_values.specs.DateLiteral.{date_text, IsDateSpelling, date_spelling}

-- ten bytes that are read one by one
pub date_from_bytes : (text : List ℕ) (century year month day : ℕ) → century < 100 → year < 100
    → length text ≡ 10
    → get_or text 0 0 ≡ 48 + century / 10 → get_or text 1 0 ≡ 48 + century % 10
    → get_or text 2 0 ≡ 48 + year / 10 → get_or text 3 0 ≡ 48 + year % 10 → get_or text 4 0 ≡ 45
    → get_or text 5 0 ≡ 48 + month / 10 → get_or text 6 0 ≡ 48 + month % 10 → get_or text 7 0 ≡ 45
    → get_or text 8 0 ≡ 48 + day / 10 → get_or text 9 0 ≡ 48 + day % 10
    → text ≡ date_text (100 * century + year) month day
date_from_bytes text century year month day hc hy len b0 b1 b2 b3 b4 b5 b6 b7 b8 b9 =
    let e : (100 * century + year) / 100 ≡ century = omega arith in
    let f : (100 * century + year) % 100 ≡ year = omega arith in
    text_from_reads text (date_text (100 * century + year) month day) len
    (rw e b0, (rw e b1, (rw f b2, (rw f b3, (b4, (b5, (b6, (b7, (b8, (b9, tt))))))))))

-- the text determines the numbers
pub date_text-same : (y m d year month day : ℕ) → date_text y m d ≡ date_text year month day
    → (y ≡ year) × (m ≡ month) × (d ≡ day)
date_text-same y m d year month day same =
    let b0 : 48 + y / 100 / 10 ≡ 48 + year / 100 / 10 = cc in
    let b1 : 48 + y / 100 % 10 ≡ 48 + year / 100 % 10 = cc in
    let b2 : 48 + y % 100 / 10 ≡ 48 + year % 100 / 10 = cc in
    let b3 : 48 + y % 100 % 10 ≡ 48 + year % 100 % 10 = cc in
    let b5 : 48 + m / 10 ≡ 48 + month / 10 = cc in
    let b6 : 48 + m % 10 ≡ 48 + month % 10 = cc in
    let b8 : 48 + d / 10 ≡ 48 + day / 10 = cc in
    let b9 : 48 + d % 10 ≡ 48 + day % 10 = cc in
    (omega (arith, b0, b1, b2, b3), omega (arith, b5, b6), omega (arith, b8, b9))

-- a date is its year, month and day
pub same_parts : (a b : Date) → a.year ≡ b.year → a.month ≡ b.month → a.day ≡ b.day → a ≡ b
same_parts a b year month day = same_date a b (epoch_day_same a b year month day)

-- the calendar has each date, and makes it of its parts
pub date_made : {E : Type 0} (r : Result Date E) (date : Date)
    → (IsOk r ↔ IsDate date.year (pos date.month) (pos date.day)) → IfOk r (IsYmd date.year (pos date.month) (pos date.day))
    → result_ok r ≡ Some date
date_made (Ok d) date made value =
    let month : d.month ≡ date.month = cc in
    let day : d.day ≡ date.day = cc in
    ap Some (same_parts d date value.0 month day)
date_made (Err e) date made value =
    let refused : ◌≡◌ {A = Bool} false true = made.1 (date.year_in, omega (arith, signed_arith, date.month_in), omega (arith, signed_arith, date.day_in)) in
    cc

-- the same, of the numbers that the code casts
pub calendar_made : {E : Type 0} (r : Result Date E) (year month day : ℕ) (date : Date)
    → year < 10_000 → month < 100 → day < 100 → IsYmd (pos year) (pos month) (pos day) date
    → (IsOk r ↔ IsDate (to_z w16 year) (to_z w8 month) (to_z w8 day)) → IfOk r (IsYmd (to_z w16 year) (to_z w8 month) (to_z w8 day))
    → result_ok r ≡ Some date
calendar_made r year month day date hy hm hd ymd made value =
    let y : to_z w16 year ≡ date.year = to_z_pos w16 year (omega arith) ∙ sym ymd.0 in
    let m : to_z w8 month ≡ pos date.month = to_z_pos w8 month (omega arith) ∙ sym ymd.1 in
    let d : to_z w8 day ≡ pos date.day = to_z_pos w8 day (omega arith) ∙ sym ymd.2 in
    date_made r date (rw (y, m, d) at made) (rw (y, m, d) at value)

-- a month has at most 31 days
month_days : (year : ℤ) (month : ℕ) → days_in_month year month ≤ 31
month_days year month = grind (arith, common_steps)

year_small : (year : ℤ) → IsFourDigitYear year → unsigned_abs year < 10_000
year_small (pos n) within = omega (arith, signed_arith, within)
year_small (negsuc n) within = absurd (omega (arith, signed_arith, within))

-- the spelling of a date is spelled as one
pub IsDateSpelling-date : (d : Date) → IsFourDigitYear d.year → IsDateSpelling (date_spelling d)
IsDateSpelling-date d within =
    (unsigned_abs d.year, d.month, d.day, year_small d.year within, omega (arith, d.month_in), omega (arith, d.day_in, month_days d.year d.month), refl)
