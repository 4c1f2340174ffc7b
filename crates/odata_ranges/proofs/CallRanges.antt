-- What a function evaluates to, of arguments within two ranges.
use Rattle.odata_ranges.proofs.Common.{◌≡◌, ℕ, zero, suc, ◌+◌, ◌-◌, ◌≤◌, ◌++◌, List, [], ◌∷◌, length, map, take, drop, ℤ, pos, negsuc, neg_ℤ, ◌<ℤ◌, ◌≤ℤ◌, Bool, true, false, sym, ap, subst, ◌∙◌, arith, cond, length-append, length-drop, FitsSigned, slice_index, w32, AllByRecursion, ints, Int32, Date, epoch_day, IsFourDigitYear, boolean, whole, text, date, moment, NodeKind, EdmType, Function, GivesTruth, GivesCount, GivesText, Outcome, gives, CalledWithin, HoldsCount, IsUpTo, IsWithin, unbounded, MakesNone, IsCalledRange, Range}
use Rattle.std.specs.Str.{chars}
use Rattle.std.specs.Char.{to_ascii_lowercase, to_ascii_uppercase}
use Rattle.std.proofs.Math.Utf8.{scalars}
use Rattle.std.proofs.lemmas.List.{length-map, length-take}
use Rattle.std.proofs.lemmas.Str.{chars-encodes, scalars-chars}
use Rattle.edm_values.specs.Instant.{offset_of}
use Rattle.odata_functions.specs.DateParts.{IsDayOf, IsMonthOf, IsYearOf, hour_of, minute_of, second_of}
use Rattle.odata_functions.specs.Gregorian.{IsDateOf, days_of_month, has_leap_day, month_lengths}
use Rattle.odata_functions.specs.Texts.{HasEnd, HasPart, HasStart, IsPlaceOf, IsTrimmed, StandsBehind, from_zero, part_from, rest_from}
use Rattle.odata_meaning.proofs.meaning.MadeTexts.{dropped_characters, inner_characters, joined_characters, lower_characters, taken_characters, upper_characters}
use Rattle.odata_ranges.proofs.Counts.{number_within}

-- ---- texts

-- a text of these characters
text_within : (result : Range) (characters : List ℕ) (o : Outcome) → scalars characters ≡ true → HoldsCount result (length characters)
    → GivesText characters o → IsWithin result o
text_within result characters o are holds given =
    subst (IsWithin result) (sym given) (subst (λ (cs : List ℕ). HoldsCount result (length cs)) (sym (chars-encodes characters are)) holds)

fewer : (high : ℤ) (m n : ℕ) → m ≤ n → IsUpTo high n → IsUpTo high m
fewer high m n less most = λ bounded. let few = most bounded in omega (arith, ints)

stands_before : (entire part : List ℕ) (n : ℕ) → StandsBehind entire part n → n ≤ length entire
stands_before entire part n stands =
    let counts = ap length stands.split ∙ length-append stands.before (part ++ stands.behind) in
    omega (arith, counts, stands.counted)

trimmed_few : (entire part : List ℕ) → IsTrimmed entire part → length part ≤ length entire
trimmed_few entire part trimmed =
    let counts = ap length trimmed.split ∙ length-append trimmed.before (part ++ trimmed.behind) in
    let within = length-append part trimmed.behind in
    omega (arith, counts, within)

place_from : (entire part : List ℕ) (n : ℤ) → IsPlaceOf entire part n → negsuc 0 ≤ℤ n
place_from entire part (pos n) is = omega (arith, ints)
place_from entire part (negsuc n) is = omega (arith, ints, is.0)

place_up_to : (entire part : List ℕ) (high n : ℤ) → IsPlaceOf entire part n → pos (length entire) ≤ℤ high → n ≤ℤ high
place_up_to entire part high (pos n) is most = let few = stands_before entire part n is.0 in omega (arith, ints)
place_up_to entire part high (negsuc n) is most = omega (arith, ints)

dropped_few : (n : ℕ) (xs : List ℕ) → length (drop n xs) ≤ length xs
dropped_few n xs = omega (arith, length-drop n xs)

-- counts of type Int32, by the contract of what makes the range
abbrev pub Counts : Range → ℤ → ℤ → Type 0
Counts result low high =
    (n : ℤ) (o : Outcome) → low ≤ℤ n → (high <ℤ unbounded → n ≤ℤ high) → GivesCount n o → IsWithin result o

-- texts of at most so many characters
abbrev pub UpTo : Range → ℤ → Type 0
UpTo result high = (n : ℕ) → IsUpTo high n → HoldsCount result n

module _ (first second result : Range) where
  pub concat_within : ((m n : ℕ) → HoldsCount first m → HoldsCount second n → HoldsCount result (m + n)) → CalledWithin Function.Concat first second result
  concat_within joins now (text s ∷ text t ∷ []) o are given =
      text_within result (chars s ++ chars t) o (joined_characters (chars s) (chars t) (scalars-chars s are.0.0) (scalars-chars t are.1.0))
      (subst (HoldsCount result) (sym (length-append (chars s) (chars t))) (joins (length (chars s)) (length (chars t)) are.0.1 are.1.1)) given
  concat_within joins now _ o are given = absurd given

  pub length_within : ((n : ℤ) (o : Outcome) → first.low ≤ℤ n → pos 0 ≤ℤ n → (first.high <ℤ unbounded → n ≤ℤ first.high) → GivesCount n o → IsWithin result o) → CalledWithin Function.Length first second result
  length_within counts now (text s ∷ []) o are given = counts (pos (length (chars s))) o are.1.0 (omega (arith, ints)) are.1.1 given
  length_within counts now _ o are given = absurd given

  pub index_within : Counts result (negsuc 0) first.high → CalledWithin Function.IndexOf first second result
  index_within counts now (text s ∷ text t ∷ []) o are given =
      counts given.0 o (place_from (chars s) (chars t) given.0 given.1)
      (λ bounded. place_up_to (chars s) (chars t) first.high given.0 given.1 (are.0.1.1 bounded)) given.2
  index_within counts now _ o are given = absurd given

  pub substring_within : UpTo result first.high → CalledWithin Function.Substring first second result
  substring_within up now (text s ∷ whole n ∷ []) o are given =
      text_within result (rest_from n (chars s)) o (dropped_characters (from_zero n) (chars s) (scalars-chars s are.0.0))
      (up _ (fewer first.high _ (length (chars s)) (dropped_few (from_zero n) (chars s)) are.0.1.1)) given
  substring_within up now (text s ∷ whole n ∷ whole m ∷ []) o are given =
      let rest = rest_from n (chars s) in
      let few : length (take (from_zero m) rest) ≤ length (chars s) =
      omega (arith, length-take (from_zero m) rest, dropped_few (from_zero n) (chars s)) in
      text_within result (part_from n m (chars s)) o
      (taken_characters (from_zero m) rest (dropped_characters (from_zero n) (chars s) (scalars-chars s are.0.0)))
      (up _ (fewer first.high _ (length (chars s)) few are.0.1.1)) given
  substring_within up now _ o are given = absurd given

  pub trim_within : UpTo result first.high → CalledWithin Function.Trim first second result
  trim_within up now (text s ∷ []) o are given =
      text_within result given.0 o (inner_characters (chars s) given.1.before given.0 given.1.behind given.1.split (scalars-chars s are.0))
      (up _ (fewer first.high _ (length (chars s)) (trimmed_few (chars s) given.0 given.1) are.1.1)) given.2
  trim_within up now _ o are given = absurd given

  pub lower_within : ((n : ℕ) → HoldsCount first n → HoldsCount result n) → CalledWithin Function.ToLower first second result
  lower_within same now (text s ∷ []) o are given =
      text_within result (map to_ascii_lowercase (chars s)) o (lower_characters (chars s) (scalars-chars s are.0))
      (subst (HoldsCount result) (sym (length-map (chars s) to_ascii_lowercase)) (same (length (chars s)) are.1)) given
  lower_within same now _ o are given = absurd given

  pub upper_within : ((n : ℕ) → HoldsCount first n → HoldsCount result n) → CalledWithin Function.ToUpper first second result
  upper_within same now (text s ∷ []) o are given =
      text_within result (map to_ascii_uppercase (chars s)) o (upper_characters (chars s) (scalars-chars s are.0))
      (subst (HoldsCount result) (sym (length-map (chars s) to_ascii_uppercase)) (same (length (chars s)) are.1)) given
  upper_within same now _ o are given = absurd given

-- ---- parts of dates and moments

-- a range without faults and null
abbrev pub sure : ℤ → ℤ → Range
sure low high = record { may_fault = false; may_be_null = false; low = low; high = high }

-- a number between two bounds, of type Int32 both
between_bounds : (low high n : ℤ) (o : Outcome) → neg_ℤ (pos 1_000_000) ≤ℤ low → high ≤ℤ pos 1_000_000 → low ≤ℤ n → n ≤ℤ high → GivesCount n o → IsWithin (sure low high) o
between_bounds low high n o not_low not_high from up_to given =
    let fits : FitsSigned w32 n = omega (arith, ints) in
    number_within Int32 (sure low high) n o (λ known. (from, up_to)) (λ safe. fits) given

few_at : (xs : List ℕ) (i : ℕ) → AllByRecursion (λ x. x ≤ 31) xs → slice_index xs i ≤ 31
few_at [] i all = omega arith
few_at (x ∷ xs) zero all = all.0
few_at (x ∷ xs) (suc i) all = few_at xs i all.1

leap_few : (leap : Bool) → cond leap 29 28 ≤ 31
leap_few true = omega arith
leap_few false = omega arith

few_days : (year : ℤ) (month : ℕ) → days_of_month year month ≤ 31
few_days year month =
    let l : 31 ≤ 31 = omega arith in
    let s : 30 ≤ 31 = omega arith in
    few_at (month_lengths year) (month - 1) (l, (leap_few (has_leap_day year), (l, (s, (l, (s, (l, (l, (s, (l, (s, (l, tt))))))))))))

abbrev pub OneDate : Type 0
OneDate = (number y y' : ℤ) (m m' d d' : ℕ) → IsDateOf number y m d → IsDateOf number y' m' d' → (y ≡ y') × (m ≡ m') × (d ≡ d')

abbrev pub SomeDate : Type 0
SomeDate = (day : Date) → IsDateOf (epoch_day day) day.year day.month day.day

module _ (first second : Range) where
  year_given : OneDate → SomeDate → (d : Date) (o : Outcome) → IsFourDigitYear d.year
      → (n : ℤ) × IsYearOf (epoch_day d) n × GivesCount n o → IsWithin (sure (pos 1) (pos 9999)) o
  year_given one some d o valid given =
      let same = (one (epoch_day d) d.year given.0 d.month given.1.0 d.day given.1.1 (some d) given.1.2).0 in
      let within = subst IsFourDigitYear same valid in
      between_bounds (pos 1) (pos 9999) given.0 o (omega (arith, ints)) (omega (arith, ints)) within.0 within.1 given.2

  pub year_within : OneDate → SomeDate → CalledWithin Function.Year first second (sure (pos 1) (pos 9999))
  year_within one some now (date d ∷ []) o are given = year_given one some d o are.0 given
  year_within one some now (moment m ∷ []) o are given = year_given one some m.civil.date o are.0.0 given
  year_within one some now _ o are given = absurd given

  month_given : (number : ℤ) (o : Outcome) → (n : ℤ) × IsMonthOf number n × GivesCount n o → IsWithin (sure (pos 1) (pos 12)) o
  month_given number o given =
      let in_year = given.1.4.month_in in
      let same : given.0 ≡ pos given.1.1 = given.1.3 in
      between_bounds (pos 1) (pos 12) given.0 o (omega (arith, ints)) (omega (arith, ints)) (omega (arith, ints, same, in_year.0)) (omega (arith, ints, same, in_year.1)) given.2

  pub month_within : CalledWithin Function.Month first second (sure (pos 1) (pos 12))
  month_within now (date d ∷ []) o are given = month_given (epoch_day d) o given
  month_within now (moment m ∷ []) o are given = month_given (epoch_day m.civil.date) o given
  month_within now _ o are given = absurd given

  day_given : (number : ℤ) (o : Outcome) → (n : ℤ) × IsDayOf number n × GivesCount n o → IsWithin (sure (pos 1) (pos 31)) o
  day_given number o given =
      let in_month = given.1.4.day_in in
      let few = few_days given.1.0 given.1.1 in
      let same : given.0 ≡ pos given.1.2 = given.1.3 in
      between_bounds (pos 1) (pos 31) given.0 o (omega (arith, ints)) (omega (arith, ints)) (omega (arith, ints, same, in_month.0)) (omega (arith, ints, same, in_month.1, few)) given.2

  pub day_within : CalledWithin Function.Day first second (sure (pos 1) (pos 31))
  day_within now (date d ∷ []) o are given = day_given (epoch_day d) o given
  day_within now (moment m ∷ []) o are given = day_given (epoch_day m.civil.date) o given
  day_within now _ o are given = absurd given

  pub hour_within : CalledWithin Function.Hour first second (sure (pos 0) (pos 23))
  hour_within now (moment m ∷ []) o are given =
      let clock = m.civil.time.hour_in in
      between_bounds (pos 0) (pos 23) (hour_of m) o (omega (arith, ints)) (omega (arith, ints)) (omega (arith, ints)) (omega (arith, ints, clock)) given
  hour_within now _ o are given = absurd given

  pub minute_within : CalledWithin Function.Minute first second (sure (pos 0) (pos 59))
  minute_within now (moment m ∷ []) o are given =
      let clock = m.civil.time.minute_in in
      between_bounds (pos 0) (pos 59) (minute_of m) o (omega (arith, ints)) (omega (arith, ints)) (omega (arith, ints)) (omega (arith, ints, clock)) given
  minute_within now _ o are given = absurd given

  pub second_within : CalledWithin Function.Second first second (sure (pos 0) (pos 59))
  second_within now (moment m ∷ []) o are given =
      let clock = m.civil.time.second_in in
      between_bounds (pos 0) (pos 59) (second_of m) o (omega (arith, ints)) (omega (arith, ints)) (omega (arith, ints)) (omega (arith, ints, clock)) given
  second_within now _ o are given = absurd given

  pub offset_within : CalledWithin Function.TotalOffsetMinutes first second (sure (neg_ℤ (pos 1439)) (pos 1439))
  offset_within now (moment m ∷ []) o are given =
      between_bounds (neg_ℤ (pos 1439)) (pos 1439) (offset_of m) o (omega (arith, ints)) (omega (arith, ints)) are.0.1.0 are.0.1.1 given
  offset_within now _ o are given = absurd given

-- ---- values without bounds

pub truth_within : (result : Range) (Fact : Type 0) (o : Outcome) → GivesTruth Fact o → IsWithin result o
truth_within result Fact (gives (boolean b)) given = tt
truth_within result Fact _ given = absurd given

module _ (first second result : Range) where
  pub date_within : CalledWithin Function.Date first second result
  date_within now (moment m ∷ []) o are given = subst (IsWithin result) (sym given) tt
  date_within now _ o are given = absurd given

  pub now_within : CalledWithin Function.Now first second result
  now_within now [] o are given = subst (IsWithin result) (sym given) tt
  now_within now (v ∷ more) o are given = absurd given

  pub contains_within : CalledWithin Function.Contains first second result
  contains_within now (text s ∷ text t ∷ []) o are given = truth_within result (HasPart (chars s) (chars t)) o given
  contains_within now _ o are given = absurd given

  pub starts_within : CalledWithin Function.StartsWith first second result
  starts_within now (text s ∷ text t ∷ []) o are given = truth_within result (HasStart (chars s) (chars t)) o given
  starts_within now _ o are given = absurd given

  pub ends_within : CalledWithin Function.EndsWith first second result
  ends_within now (text s ∷ text t ∷ []) o are given = truth_within result (HasEnd (chars s) (chars t)) o given
  ends_within now _ o are given = absurd given

-- ---- by the function that is called

pub called_as : {f g : Function} {first second made result : Range} → f ≡ g → result ≡ made
    → ((type : EdmType) → MakesNone (NodeKind.Call g) type → made.may_fault ≡ false) → CalledWithin g first second made → IsCalledRange f first second result
called_as {g = g} {first = first} {second = second} {result = result} is same quiet within = record {
  within = subst (λ (h : Function). CalledWithin h first second result) (sym is) (subst (λ (r : Range). CalledWithin g first second r) (sym same) within);
  quiet = λ type makes. ap (λ (r : Range). r.may_fault) same ∙ quiet type (subst (λ (h : Function). MakesNone (NodeKind.Call h) type) is makes);
}
