-- Dates and times as patterns of bytes.
use Rattle.std.proofs.Common.{◌/◌, ◌%◌}
use Rattle.std.proofs.lemmas.Slice.Eq.{text_from_reads}
use Rattle.odata_text.proofs.Common.{◌≡◌, ◌⊎◌, inl, inr, ⊎_elim, ℕ, ◌+◌, ◌-◌, ◌*◌, ◌<◌, ◌==◌, ◌||◌, ◌&&◌, Bool, not, true, List, [], ◌∷◌, ◌++◌, length, get_or, drop, arith, refl, sym, ◌∙◌, ap, subst, append_assoc, is_ascii_digit, list_all, nat_tests, and_from, or_left, eqb-true, IsDateSpelling, IsMomentSpelling, IsOffsetSpelling, IsSecondsSpelling, IsFraction, IsReach, PassesTests, IsMarkedClock, IsTimed, IsZoned, FollowedBy, ByteTest, Digit, Hyphen, Sign, TimeMark, OffsetMark, false≢true, Colon}
use Rattle.edm_values.specs.DateLiteral.{date_text, two_digits}
use Rattle.edm_values.specs.MomentLiteral.{IsClockSpelling, clock_text}
use Rattle.odata_text.specs.LeftOut.{IsTimeOfDaySpelling}
use Rattle.odata_text.proofs.characters.Identifiers.{list_all-weaker}
use Rattle.odata_text.proofs.spellings.Patterns.{either-byte, either-passes, fits-at, fits-length}
use Rattle.odata_text.proofs.spellings.Reaches.{digit_range, numeral-digits}
use Rattle.odata_text.proofs.spellings.Sequences.{ArePieces, IsExact, Perhaps, always-found, exact-by_byte, exact-sized, followed-both, followed-no_first, pair-empty, perhaps-reach, pieces-sized, reach-as, stops}

-- Two digits.

digit : (q : ℕ) → q < 10 → is_ascii_digit (48 + q) ≡ true
digit q below = grind (arith, nat_tests)

tens : (n : ℕ) → n < 100 → is_ascii_digit (48 + n / 10) ≡ true
tens n small = let quotient : n / 10 < 10 = omega arith in digit (n / 10) quotient

units : (n : ℕ) → is_ascii_digit (48 + n % 10) ≡ true
units n = let remainder : n % 10 < 10 = omega arith in digit (n % 10) remainder

-- the number that two digits write
record IsTwo (a b : ℕ) : Type 0 where
  number : ℕ
  small : number < 100
  is_tens : a ≡ 48 + number / 10
  is_units : b ≡ 48 + number % 10

two : (a b : ℕ) → is_ascii_digit a ≡ true → is_ascii_digit b ≡ true → IsTwo a b
two a b first second =
    let high = digit_range a first in
    let low = digit_range b second in
    record { number = 10 * (a - 48) + (b - 48); small = omega arith; is_tens = omega arith; is_units = omega arith }

-- Clocks.

abbrev pub clock_pattern : List ByteTest
clock_pattern = Digit ∷ Digit ∷ Colon ∷ Digit ∷ Digit ∷ []

pub fits-clock : (xs : List ℕ) → IsClockSpelling xs → PassesTests clock_pattern xs
fits-clock xs (h, m, small_h, small_m, same) =
    subst (PassesTests clock_pattern) (sym same) (tens h small_h, (units h, (refl, (tens m small_m, (units m, tt)))))

pub clock-fits : (xs : List ℕ) → PassesTests clock_pattern xs → IsClockSpelling xs
clock-fits xs fits =
    let test = fits-at clock_pattern xs fits in
    let hour = two (get_or xs 0 0) (get_or xs 1 0) (test 0 Digit (omega arith)) (test 1 Digit (omega arith)) in
    let minute = two (get_or xs 3 0) (get_or xs 4 0) (test 3 Digit (omega arith)) (test 4 Digit (omega arith)) in
    let colon = eqb-true (get_or xs 2 0) 58 (test 2 Digit (omega arith)) in (
      hour.number,
      minute.number,
      hour.small,
      minute.small,
      text_from_reads xs (clock_text hour.number minute.number) (fits-length clock_pattern xs fits) (hour.is_tens, (hour.is_units, (colon, (minute.is_tens, (minute.is_units, tt))))),
    )

-- Dates.

abbrev pub date_pattern : List ByteTest
date_pattern = Digit ∷ Digit ∷ Digit ∷ Digit ∷ Hyphen ∷ Digit ∷ Digit ∷ Hyphen ∷ Digit ∷ Digit ∷ []

pub fits-date : (xs : List ℕ) → IsDateSpelling xs → PassesTests date_pattern xs
fits-date xs (y, m, d, small_y, small_m, small_d, same) =
    let century : y / 100 < 100 = omega arith in
    let year : y % 100 < 100 = omega arith in
    subst (PassesTests date_pattern) (sym same)
    (tens (y / 100) century, (units (y / 100), (tens (y % 100) year, (units (y % 100), (refl, (tens m small_m, (units m, (refl, (tens d small_d, (units d, tt))))))))))

pub date-fits : (xs : List ℕ) → PassesTests date_pattern xs → IsDateSpelling xs
date-fits xs fits =
    let test = fits-at date_pattern xs fits in
    let century = two (get_or xs 0 0) (get_or xs 1 0) (test 0 Digit (omega arith)) (test 1 Digit (omega arith)) in
    let year = two (get_or xs 2 0) (get_or xs 3 0) (test 2 Digit (omega arith)) (test 3 Digit (omega arith)) in
    let month = two (get_or xs 5 0) (get_or xs 6 0) (test 5 Digit (omega arith)) (test 6 Digit (omega arith)) in
    let day = two (get_or xs 8 0) (get_or xs 9 0) (test 8 Digit (omega arith)) (test 9 Digit (omega arith)) in
    let first = eqb-true (get_or xs 4 0) 45 (test 4 Digit (omega arith)) in
    let second = eqb-true (get_or xs 7 0) 45 (test 7 Digit (omega arith)) in
    let parts = year-parts century.number year.number century.small year.small in
    let y = 100 * century.number + year.number in (
      y,
      month.number,
      day.number,
      omega (arith, century.small, year.small),
      month.small,
      day.small,
      text_from_reads xs (date_text y month.number day.number) (fits-length date_pattern xs fits)
          (rw (parts.0, parts.1) (century.is_tens, (century.is_units, (year.is_tens, (year.is_units, (first, (month.is_tens, (month.is_units, (second, (day.is_tens, (day.is_units, tt))))))))))),
    )
  where
    year-parts : (c n : ℕ) → c < 100 → n < 100 → ((100 * c + n) / 100 ≡ c) × ((100 * c + n) % 100 ≡ n)
    year-parts c n small_c small_n = (omega arith, omega arith)

-- `Thh:mm`, and a sign and `hh:mm`.

pub fits-marked : (xs : List ℕ) → IsMarkedClock xs → PassesTests (TimeMark ∷ clock_pattern) xs
fits-marked [] marked = absurd marked
fits-marked (letter ∷ clock) marked = (either-passes letter 84 116 marked.0, fits-clock clock marked.1)

pub marked-fits : (xs : List ℕ) → PassesTests (TimeMark ∷ clock_pattern) xs → IsMarkedClock xs
marked-fits [] fits = absurd fits
marked-fits (letter ∷ clock) fits = (either-byte letter 84 116 fits.0, clock-fits clock fits.1)

fits-ahead : (xs : List ℕ) → PassesTests (Sign ∷ clock_pattern) xs → (sign : ℕ) × (clock : List ℕ) × ((sign ≡ 43) ⊎ (sign ≡ 45)) × IsClockSpelling clock × (xs ≡ sign ∷ clock)
fits-ahead [] fits = absurd fits
fits-ahead (sign ∷ clock) fits = (sign, clock, either-byte sign 43 45 fits.0, clock-fits clock fits.1, refl)

-- `:ss`, perhaps with a fraction.

abbrev pub seconds_pattern : List ByteTest
seconds_pattern = Colon ∷ Digit ∷ Digit ∷ []

abbrev pub IsSecond : List ℕ → Type 0
IsSecond xs = FollowedBy (PassesTests seconds_pattern) (Perhaps IsFraction) xs

fits-seconds : (n : ℕ) → n < 100 → PassesTests seconds_pattern (58 ∷ two_digits n)
fits-seconds n small = (refl, (tens n small, (units n, tt)))

second-from_seconds : (xs : List ℕ) → IsSecondsSpelling xs → Perhaps IsSecond xs
second-from_seconds xs (inl none) = inl none
second-from_seconds xs (inr (n, small, inl whole)) = inr (record { front = 58 ∷ two_digits n; back = []; whole = whole; is_front = fits-seconds n small; is_back = inl refl })
second-from_seconds xs (inr (n, small, inr (places, numeral, whole))) =
    inr (record { front = 58 ∷ two_digits n; back = 46 ∷ places; whole = whole; is_front = fits-seconds n small; is_back = inr (refl, numeral) })

seconds-from_second : (xs : List ℕ) → Perhaps IsSecond xs → IsSecondsSpelling xs
seconds-from_second xs (inl none) = inl none
seconds-from_second xs (inr pair) =
    let test = fits-at seconds_pattern pair.front pair.is_front in
    let second = two (get_or pair.front 1 0) (get_or pair.front 2 0) (test 1 Digit (omega arith)) (test 2 Digit (omega arith)) in
    let colon = eqb-true (get_or pair.front 0 0) 58 (test 0 Digit (omega arith)) in
    let front = text_from_reads pair.front (58 ∷ two_digits second.number) (fits-length seconds_pattern pair.front pair.is_front) (colon, (second.is_tens, (second.is_units, tt))) in
    parts second.number second.small pair.back (pair.whole ∙ ap (λ (ys : List ℕ). ys ++ pair.back) front) pair.is_back
  where
    parts : (n : ℕ) → n < 100 → (back : List ℕ) → xs ≡ (58 ∷ two_digits n) ++ back → Perhaps IsFraction back → IsSecondsSpelling xs
    parts n small back whole (inl none) = inr (n, small, inl (whole ∙ ap (λ (ys : List ℕ). (58 ∷ two_digits n) ++ ys) none))
    parts n small [] whole (inr fraction) = absurd fraction
    parts n small (dot ∷ places) whole (inr fraction) =
        inr (n, small, inr (places, fraction.1, whole ∙ ap (λ (b : ℕ). (58 ∷ two_digits n) ++ b ∷ places) fraction.0))

pub seconds-reach : (n : ℕ) (rest : List ℕ) → IsReach IsSecond n rest → IsReach IsSecondsSpelling n rest
seconds-reach n rest reach = reach-as (Perhaps IsSecond) IsSecondsSpelling n rest seconds-from_second second-from_seconds (perhaps-reach IsSecond n rest reach)

-- a digit, `.` or `:`
abbrev pub is_seconds_byte : ℕ → Bool
is_seconds_byte b = is_ascii_digit b || ((b == 46) || (b == 58))

pub seconds-bytes : (xs : List ℕ) → IsSecondsSpelling xs → list_all is_seconds_byte xs ≡ true
seconds-bytes xs seconds =
    ⊎_elim (λ none. ap (list_all is_seconds_byte) none) (λ some. elim some.2 [
      | inl whole ↦ ap (list_all is_seconds_byte) whole ∙ both some.0 some.1 [] refl
      | inr (places, numeral, whole) ↦
          ap (list_all is_seconds_byte) whole ∙ both some.0 some.1 (46 ∷ places) (list_all-weaker is_ascii_digit is_seconds_byte places digit-byte (numeral-digits places numeral))
    ]) seconds
  where
    digit-byte : (b : ℕ) → is_ascii_digit b ≡ true → is_seconds_byte b ≡ true
    digit-byte b is = or_left _ ((b == 46) || (b == 58)) is

    both : (n : ℕ) → n < 100 → (more : List ℕ) → list_all is_seconds_byte more ≡ true → list_all is_seconds_byte ((58 ∷ two_digits n) ++ more) ≡ true
    both n small more all = and_from (is_seconds_byte (48 + n / 10)) (is_seconds_byte (48 + n % 10) && list_all is_seconds_byte more) (digit-byte (48 + n / 10) (tens n small)) (and_from (is_seconds_byte (48 + n % 10)) (list_all is_seconds_byte more) (digit-byte (48 + n % 10) (units n)) all)

-- Offsets.

-- a mark, or a sign and `hh:mm`
abbrev pub IsOffset : List ℕ → Type 0
IsOffset xs = PassesTests (OffsetMark ∷ []) xs ⊎ PassesTests (Sign ∷ clock_pattern) xs

offset-spelled : (xs : List ℕ) → IsOffset xs → IsOffsetSpelling xs
offset-spelled xs (inr ahead) = inr (inr (fits-ahead xs ahead))
offset-spelled [] (inl mark) = absurd mark
offset-spelled (b ∷ []) (inl mark) = ⊎_elim (λ big. inl (ap (λ (c : ℕ). c ∷ []) big)) (λ small. inr (inl (ap (λ (c : ℕ). c ∷ []) small))) (either-byte b 90 122 mark.0)
offset-spelled (b ∷ c ∷ more) (inl mark) = absurd mark.1

pub offset-fits : (xs : List ℕ) → IsOffsetSpelling xs → IsOffset xs
offset-fits xs (inl big) = inl (subst (PassesTests (OffsetMark ∷ [])) (sym big) (refl, tt))
offset-fits xs (inr (inl small)) = inl (subst (PassesTests (OffsetMark ∷ [])) (sym small) (refl, tt))
offset-fits xs (inr (inr (sign, clock, is_sign, is_clock, whole))) =
    inr (subst (PassesTests (Sign ∷ clock_pattern)) (sym whole) (either-passes sign 43 45 is_sign, fits-clock clock is_clock))

pub offset-reach : (n : ℕ) (rest : List ℕ) → IsReach IsOffset n rest → IsReach IsOffsetSpelling n rest
offset-reach n rest reach = reach-as IsOffset IsOffsetSpelling n rest offset-spelled offset-fits reach

offset-stops : (xs : List ℕ) → IsOffsetSpelling xs → stops is_seconds_byte xs ≡ true
offset-stops xs (inl big) = ap (stops is_seconds_byte) big
offset-stops xs (inr (inl small)) = ap (stops is_seconds_byte) small
offset-stops xs (inr (inr (sign, clock, is_sign, is_clock, whole))) =
    ap (stops is_seconds_byte) whole ∙ ⊎_elim (λ is. ap (λ (b : ℕ). not (is_seconds_byte b)) is) (λ is. ap (λ (b : ℕ). not (is_seconds_byte b)) is) is_sign

pub offset-none : IsOffsetSpelling [] → ⊥
offset-none offset = false≢true (offset-stops [] offset)

pub seconds-exact : (n : ℕ) (rest : List ℕ) → IsReach IsSecondsSpelling n rest → IsExact IsSecondsSpelling IsOffsetSpelling n rest
seconds-exact n rest reach = exact-by_byte IsSecondsSpelling IsOffsetSpelling is_seconds_byte n rest reach seconds-bytes offset-stops

-- Moments.

pub moment-from_parts : (xs : List ℕ) → FollowedBy IsDateSpelling IsTimed xs → IsMomentSpelling xs
moment-from_parts xs pair = parts pair.is_back.front pair.is_back.whole pair.is_back.is_front
  where
    parts : (marked : List ℕ) → pair.back ≡ marked ++ pair.is_back.back → IsMarkedClock marked → IsMomentSpelling xs
    parts [] timed is_marked = absurd is_marked
    parts (letter ∷ clock) timed is_marked =
        let zoned = pair.is_back.is_back in
        record {
          date = pair.front;
          letter = letter;
          clock = clock;
          seconds = zoned.front;
          offset = zoned.back;
          spelled = pair.whole ∙ ap (λ (ys : List ℕ). pair.front ++ ys) (timed ∙ ap (λ (ys : List ℕ). (letter ∷ clock) ++ ys) zoned.whole)
              ∙ sym (append_assoc pair.front (letter ∷ clock) (zoned.front ++ zoned.back));
          is_date = pair.is_front;
          is_letter = is_marked.0;
          is_clock = is_marked.1;
          is_seconds = zoned.is_front;
          is_offset = zoned.is_back;
        }

pub parts-from_moment : (xs : List ℕ) → IsMomentSpelling xs → FollowedBy IsDateSpelling IsTimed xs
parts-from_moment xs moment = record {
  front = moment.date;
  back = (moment.letter ∷ moment.clock) ++ (moment.seconds ++ moment.offset);
  whole = moment.spelled ∙ append_assoc moment.date (moment.letter ∷ moment.clock) (moment.seconds ++ moment.offset);
  is_front = moment.is_date;
  is_back = record {
    front = moment.letter ∷ moment.clock;
    back = moment.seconds ++ moment.offset;
    whole = refl;
    is_front = (moment.is_letter, moment.is_clock);
    is_back = record { front = moment.seconds; back = moment.offset; whole = refl; is_front = moment.is_seconds; is_back = moment.is_offset };
  };
}

pub moment-reach : (n : ℕ) (rest : List ℕ) → IsReach (FollowedBy IsDateSpelling IsTimed) n rest → IsReach IsMomentSpelling n rest
moment-reach n rest reach = reach-as (FollowedBy IsDateSpelling IsTimed) IsMomentSpelling n rest moment-from_parts parts-from_moment reach

-- What the code measures: parts one after another.

pub marked_zoned : ArePieces IsMarkedClock IsZoned
marked_zoned =
    pieces-sized IsMarkedClock IsZoned 5 (λ xs marked. fits-length (TimeMark ∷ clock_pattern) xs (fits-marked xs marked))
    (λ zoned. offset-none (pair-empty IsSecondsSpelling IsOffsetSpelling zoned).1)

pub date_timed : ArePieces IsDateSpelling IsTimed
date_timed = pieces-sized IsDateSpelling IsTimed 9 (λ xs date. fits-length date_pattern xs (fits-date xs date)) (λ timed. (pair-empty IsMarkedClock IsZoned timed).0)

pub seconds-by_parts : (rest left : List ℕ) (a b : ℕ) → left ≡ drop a rest → IsReach (PassesTests seconds_pattern) a rest → 0 < a → IsReach IsFraction b left → IsReach IsSecondsSpelling (a + b) rest
seconds-by_parts rest left a b behind second some fraction =
    let perhaps = perhaps-reach IsFraction b left fraction in
    seconds-reach (a + b) rest
    (followed-both (PassesTests seconds_pattern) (Perhaps IsFraction) rest left a b behind (second.found some) (always-found (Perhaps IsFraction) b left (inl refl) perhaps) second.within
    (exact-sized (PassesTests seconds_pattern) (Perhaps IsFraction) 3 a rest (fits-length seconds_pattern) second some) perhaps)

pub zoned-by_parts : (rest left : List ℕ) (a b : ℕ) → left ≡ drop a rest → IsReach IsSecondsSpelling a rest → IsReach IsOffsetSpelling b left → 0 < b → IsReach IsZoned (a + b) rest
zoned-by_parts rest left a b behind seconds offset some =
    followed-both IsSecondsSpelling IsOffsetSpelling rest left a b behind (always-found IsSecondsSpelling a rest (inl refl) seconds) (offset.found some) seconds.within (seconds-exact a rest seconds) offset

clock-length : (xs : List ℕ) → IsClockSpelling xs → length xs ≡ 5
clock-length xs clock = fits-length clock_pattern xs (fits-clock xs clock)

pub time_of_day-none : (rest : List ℕ) (a : ℕ) → IsReach (PassesTests clock_pattern) a rest → a ≡ 0 → IsReach IsTimeOfDaySpelling 0 rest
time_of_day-none rest a reach none =
    followed-no_first IsClockSpelling IsSecondsSpelling rest a (λ clock. let size = clock-length [] clock in omega arith)
    (reach-as (PassesTests clock_pattern) IsClockSpelling a rest clock-fits fits-clock reach) none

pub time_of_day-by_parts : (rest left : List ℕ) (a b : ℕ) → left ≡ drop a rest → IsReach (PassesTests clock_pattern) a rest → 0 < a → IsReach IsSecondsSpelling b left → IsReach IsTimeOfDaySpelling (a + b) rest
time_of_day-by_parts rest left a b behind reach some seconds =
    let clock = reach-as (PassesTests clock_pattern) IsClockSpelling a rest clock-fits fits-clock reach in
    followed-both IsClockSpelling IsSecondsSpelling rest left a b behind (clock.found some) (always-found IsSecondsSpelling b left (inl refl) seconds) clock.within
    (exact-sized IsClockSpelling IsSecondsSpelling 5 a rest clock-length clock some) seconds
