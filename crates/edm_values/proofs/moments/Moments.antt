-- Moment literals.
use Rattle.std.proofs.Common.{◌≡◌, ◌⊎◌, ℕ, ◌^◌, ◌<◌, ℤ, pos, List, ◌++◌, length, get_or, take, drop, Option, Some, None, IfSome, IsSome, Bor, length-append, Result, Ok, Err, IsOk, IfOk, ◌↔◌, Bool, true, false, arith, refl, sym, ap, ◌∙◌, subst}
use Rattle.std.specs.Int.{w8, w32}
use Rattle.std.specs.Result.{result_ok}
use Rattle.std.specs.Option.{MatchOption, IsSomeAnd}
use Rattle.std.specs.List.{IsSplitAt}
use Rattle.std.proofs.lemmas.Option.{same_Some}
use Rattle.std.proofs.lemmas.Int.{to_z_pos}
use Rattle.std.proofs.lemmas.List.{take_at, drop_at, take-append-drop}
use mir.Val.{to_z}
use Rattle.jiff.specs.Types.{Date, Time, DateTime}
use Rattle.jiff.specs.Words.{IsTime, IsHms}
use Rattle.jiff.proofs.Family.{same_time}
use Rattle.jiff.proofs.SpanFacts.{signed_arith}
use Rattle.edm_values.specs.MomentParts.{MomentParts, IsMoment}
use Rattle.edm_values.specs.DateLiteral.{DateValue, date_spelling}
use Rattle.edm_values.specs.MomentLiteral.{MinutesValue, SecondsValue, OffsetValue, MomentValue}
use Rattle.edm_values.specs.private.MomentLiteral.{AreClockDigits}
use Rattle.edm_values.proofs.moments.Offsets.{OffsetValue-within, signed_clock}

-- a time of day is its hour, minute, second and fraction
pub same_clock : (a b : Time) → a.hour ≡ b.hour → a.minute ≡ b.minute → a.second ≡ b.second → a.subsec_nanosecond ≡ b.subsec_nanosecond → a ≡ b
same_clock a b hour minute second subsec = same_time a b (rw (hour, minute, second, subsec) refl)

time_made : {E : Type 0} (r : Result Time E) (t : Time)
    → (IsOk r ↔ IsTime (pos t.hour) (pos t.minute) (pos t.second) (pos t.subsec_nanosecond))
    → IfOk r (IsHms (pos t.hour) (pos t.minute) (pos t.second) (pos t.subsec_nanosecond))
    → result_ok r ≡ Some t
time_made (Ok u) t made value =
    let hour : u.hour ≡ t.hour = cc in
    let minute : u.minute ≡ t.minute = cc in
    let second : u.second ≡ t.second = cc in
    let subsec : u.subsec_nanosecond ≡ t.subsec_nanosecond = cc in
    ap Some (same_clock u t hour minute second subsec)
time_made (Err e) t made value =
    let refused : ◌≡◌ {A = Bool} false true = made.1 (
      (omega (arith, signed_arith), omega (arith, signed_arith, t.hour_in)),
      (omega (arith, signed_arith), omega (arith, signed_arith, t.minute_in)),
      (omega (arith, signed_arith), omega (arith, signed_arith, t.second_in)),
      (omega (arith, signed_arith), omega (arith, signed_arith, t.subsec_in)),
    ) in
    cc

-- the same, of the numbers that the code casts
pub clock_made : {E : Type 0} (r : Result Time E) (hour minute second nanosecond : ℕ) (t : Time)
    → hour < 100 → minute < 100 → second < 100 → nanosecond < 10 ^ 9
    → IsHms (pos hour) (pos minute) (pos second) (pos nanosecond) t
    → (IsOk r ↔ IsTime (to_z w8 hour) (to_z w8 minute) (to_z w8 second) (to_z w32 nanosecond))
    → IfOk r (IsHms (to_z w8 hour) (to_z w8 minute) (to_z w8 second) (to_z w32 nanosecond))
    → result_ok r ≡ Some t
clock_made r hour minute second nanosecond t hh hm hs hn hms made value =
    let h : to_z w8 hour ≡ pos t.hour = to_z_pos w8 hour (omega arith) ∙ sym hms.0 in
    let m : to_z w8 minute ≡ pos t.minute = to_z_pos w8 minute (omega arith) ∙ sym hms.1 in
    let s : to_z w8 second ≡ pos t.second = to_z_pos w8 second (omega arith) ∙ sym hms.2 in
    let n : to_z w32 nanosecond ≡ pos t.subsec_nanosecond = to_z_pos w32 nanosecond (omega arith) ∙ sym hms.3 in
    time_made r t (rw (h, m, s, n) at made) (rw (h, m, s, n) at value)

-- the date and minutes are the first sixteen bytes
pub front_is : (text front rest : List ℕ) (m : MomentParts) (v : MomentValue text m) → front ≡ take 16 text → rest ≡ drop 16 text
    → (front ≡ v.minutes) × (rest ≡ v.seconds ++ v.offset)
front_is text front rest m v is_front is_rest =
    let len : length v.minutes ≡ 16 = ap length v.is_minutes.3 in (
      is_front ∙ ap (λ (xs : List ℕ). take 16 xs) v.spelled ∙ take_at v.minutes (v.seconds ++ v.offset) 16 len,
      is_rest ∙ ap (λ (xs : List ℕ). drop 16 xs) v.spelled ∙ drop_at v.minutes (v.seconds ++ v.offset) 16 len,
    )

-- what the pieces that were read make
pub moment_read : (text minutes rest seconds offset : List ℕ) (date : Date) (hour minute second nanosecond : ℕ) (time : Time)
    (civil : DateTime) (ahead : ℤ) (r : Option MomentParts)
    → minutes ≡ take 16 text → rest ≡ drop 16 text → rest ≡ seconds ++ offset
    → MinutesValue minutes date hour minute → SecondsValue seconds second nanosecond → OffsetValue offset ahead
    → IsHms (pos hour) (pos minute) (pos second) (pos nanosecond) time → civil.date ≡ date → civil.time ≡ time
    → IfSome r (λ m. m ≡ record { civil = civil; offset_minutes = ahead })
    → IfSome r (MomentValue text)
moment_read text minutes rest seconds offset date hour minute second nanosecond time civil ahead None is_minutes is_rest cut m s o hms same_date same_time made = tt
moment_read text minutes rest seconds offset date hour minute second nanosecond time civil ahead (Some v) is_minutes is_rest cut m s o hms same_date same_time made =
    let hour_is : hour ≡ civil.time.hour = let e : time.hour ≡ hour = cc in sym (ap (λ (u : Time). u.hour) same_time ∙ e) in
    let minute_is : minute ≡ civil.time.minute = let e : time.minute ≡ minute = cc in sym (ap (λ (u : Time). u.minute) same_time ∙ e) in
    let second_is : second ≡ civil.time.second = let e : time.second ≡ second = cc in sym (ap (λ (u : Time). u.second) same_time ∙ e) in
    let nano_is : nanosecond ≡ civil.time.subsec_nanosecond = let e : time.subsec_nanosecond ≡ nanosecond = cc in sym (ap (λ (u : Time). u.subsec_nanosecond) same_time ∙ e) in
    subst (λ (w : MomentParts). MomentValue text w) (sym made) (record {
      minutes = minutes;
      seconds = seconds;
      offset = offset;
      spelled = sym (take-append-drop 16 text) ∙ ap (λ (xs : List ℕ). xs ++ drop 16 text) (sym is_minutes)
          ∙ ap (λ (xs : List ℕ). minutes ++ xs) (sym is_rest ∙ cut);
      is_minutes = rw (same_date, ← hour_is, ← minute_is) m;
      is_seconds = rw (← second_is, ← nano_is) s;
      is_offset = o;
    })

-- the parts of the value make the moment
pub moment_made : (r : Option MomentParts) (civil : DateTime) (ahead : ℤ) (text : List ℕ) (m : MomentParts) → MomentValue text m
    → (IsSome r ↔ IsMoment civil ahead) → IfSome r (λ v. v ≡ record { civil = civil; offset_minutes = ahead })
    → civil.date ≡ m.civil.date → civil.time ≡ m.civil.time → ahead ≡ m.offset_minutes → r ≡ Some m
moment_made (Some v) civil ahead text m value made is date time offset =
    ap Some (is ∙ (λ i. record { civil = record { date = date i; time = time i }; offset_minutes = offset i }))
moment_made None civil ahead text m value made is date time offset =
    let within = OffsetValue-within value.offset m.offset_minutes value.is_offset in
    let refused : ◌≡◌ {A = Bool} false true = made.1 (rw date value.is_minutes.0, rw offset within) in
    cc

-- the two pieces that a text was cut into
pub split_found : (r : Option (Bor (List ℕ) × Bor (List ℕ))) (text before offset : List ℕ) (mid : ℕ)
    → MatchOption r (length text < mid) (λ p. IsSplitAt text mid p.0.now p.1.now)
    → text ≡ before ++ offset → mid ≡ length before → IsSomeAnd r (λ p. (p.0.now ≡ before) × (p.1.now ≡ offset))
split_found (Some p) text before offset mid found same place = (
  found.1 ∙ ap (λ (xs : List ℕ). take mid xs) same ∙ take_at before offset mid (sym place),
  found.2 ∙ ap (λ (xs : List ℕ). drop mid xs) same ∙ drop_at before offset mid (sym place),
)
split_found None text before offset mid found same place =
    absurd (omega (arith, found, place, ap length same, length-append before offset))

-- sixteen bytes that are a date and six more
pub minutes_read : (text front clock : List ℕ) (date : Date) (hour minute : ℕ) → front ≡ take 10 text → clock ≡ drop 10 text
    → DateValue front date → length clock ≡ 6 → (get_or clock 0 0 ≡ 84) ⊎ (get_or clock 0 0 ≡ 116) → get_or clock 3 0 ≡ 58
    → AreClockDigits (get_or clock 1 0) (get_or clock 2 0) (get_or clock 4 0) (get_or clock 5 0) hour minute
    → MinutesValue text date hour minute
minutes_read text front clock date hour minute is_front is_clock value len letter colon digits = (
  value.0,
  get_or clock 0 0,
  letter,
  sym (take-append-drop 10 text) ∙ ap (λ (xs : List ℕ). xs ++ drop 10 text) (sym is_front ∙ value.1)
      ∙ ap (λ (xs : List ℕ). date_spelling date ++ xs) (sym is_clock ∙ signed_clock clock (get_or clock 0 0) hour minute len refl colon digits),
)

-- the numbers of two results that are one
pub same_three : (a b : Date) (m n p q : ℕ) → ◌≡◌ {A = Option (Date × ℕ × ℕ)} (Some (a, m, p)) (Some (b, n, q)) → (a ≡ b) × (m ≡ n) × (p ≡ q)
same_three a b m n p q same =
    let e = same_Some (a, m, p) (b, n, q) same in
    (ap (λ (t : Date × ℕ × ℕ). t.0) e, ap (λ (t : Date × ℕ × ℕ). t.1) e, ap (λ (t : Date × ℕ × ℕ). t.2) e)

pub same_two : (m n p q : ℕ) → ◌≡◌ {A = Option (ℕ × ℕ)} (Some (m, p)) (Some (n, q)) → (m ≡ n) × (p ≡ q)
same_two m n p q same =
    let e = same_Some (m, p) (n, q) same in
    (ap (λ (t : ℕ × ℕ). t.0) e, ap (λ (t : ℕ × ℕ). t.1) e)
