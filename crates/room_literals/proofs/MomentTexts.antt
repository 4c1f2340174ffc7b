-- Texts of moments, by their pieces.
use Rattle.std.proofs.Common.{◌≡◌, ◌⊎◌, inl, inr, ℕ, zero, suc, ◌+◌, ◌-◌, ◌*◌, ◌/◌, ◌%◌, ◌^◌, ◌<◌, ◌≤◌, ℤ, pos, neg_ℤ, List, [], ◌∷◌, ◌++◌, length, take, drop, get_or, true, refl, sym, ap, ap₂, ◌∙◌, subst, arith, append_assoc}
use Rattle.std.proofs.Math.Seq.{take-add}
use Rattle.std.proofs.lemmas.Bool.Decides.{nat_tests}
use Rattle.std.proofs.lemmas.Int.Digits.{digits_value-lt}
use Rattle.std.proofs.lemmas.List.{drop-drop, get_or-drop, get_or-take, length-drop, length-take-le}
use Rattle.std.proofs.lemmas.Slice.Eq.{text_from_reads}
use Rattle.std.specs.Char.{digit_value}
use Rattle.std.specs.Str.Parse.{AllDigits, digits_value}
use Rattle.json.specs.Run.{is_plain}
use Rattle.edm_values.specs.Civil.{Date, Time}
use Rattle.edm_values.specs.DateLiteral.{DateValue, date_spelling, two_digits}
use Rattle.edm_values.specs.MomentLiteral.{FractionValue, MinutesValue, MomentValue, OffsetValue, SecondsValue, clock_text}
use Rattle.edm_values.specs.MomentParts.{MomentParts}
use Rattle.edm_values.proofs.moments.FractionDigits.{fraction_below, small_power}
use Rattle.json_room.specs.private.Lexemes.{DigitsBetween}
use Rattle.json_room.proofs.LexemeLemmas.{cut_digits, cut_long}
use Rattle.json_room.proofs.ShortNumberLemmas.{all_digits}
use Rattle.room_literals.proofs.LiteralTexts.{ArePlain, date_plain, plain_high, plain_joined, plain_low, two_plain}
use Rattle.room_literals.specs.private.SureTexts.{AreWithin, IsDayAt, IsFractionAt, IsMinutesAt, IsOffsetAt}

-- ---- pieces of bytes

abbrev pub piece : List ℕ → ℕ → ℕ → List ℕ
piece b i n = take n (drop i b)

pub piece_long : (b : List ℕ) (i n : ℕ) → i + n ≤ length b → length (piece b i n) ≡ n
piece_long b i n room = length-take-le n (drop i b) (omega (arith, length-drop i b, room))

pub piece_at : (b : List ℕ) (i n k : ℕ) → k < n → get_or (piece b i n) k 0 ≡ get_or b (i + k) 0
piece_at b i n k few = get_or-take n (drop i b) k 0 few ∙ get_or-drop i b k 0

pub piece_first : (b : List ℕ) (i n : ℕ) → 0 < n → get_or (piece b i n) 0 0 ≡ get_or b i 0
piece_first b i n some = piece_at b i n 0 some ∙ ap (λ (j : ℕ). get_or b j 0) (let same : i + 0 ≡ i = omega arith in same)

pub pieces_joined : (b : List ℕ) (i m n : ℕ) → piece b i (m + n) ≡ piece b i m ++ piece b (i + m) n
pieces_joined b i m n = take-add m n (drop i b) ∙ ap (λ (l : List ℕ). take m (drop i b) ++ take n l) (drop-drop m i b)

pub one_byte : (b : List ℕ) (i x : ℕ) → i + 1 ≤ length b → get_or b i 0 ≡ x → piece b i 1 ≡ x ∷ []
one_byte b i x room is = text_from_reads (piece b i 1) (x ∷ []) (piece_long b i 1 room) (piece_first b i 1 (omega arith) ∙ is, tt)

pub clock_there : (b : List ℕ) (i hour minute : ℕ) → i + 5 ≤ length b → get_or b i 0 ≡ 48 + hour / 10 → get_or b (i + 1) 0 ≡ 48 + hour % 10 → get_or b (i + 2) 0 ≡ 58
    → get_or b (i + 3) 0 ≡ 48 + minute / 10 → get_or b (i + 4) 0 ≡ 48 + minute % 10 → piece b i 5 ≡ clock_text hour minute
clock_there b i hour minute room h0 h1 colon m0 m1 =
    text_from_reads (piece b i 5) (clock_text hour minute) (piece_long b i 5 room)
    (piece_first b i 5 (omega arith) ∙ h0, (piece_at b i 5 1 (omega arith) ∙ h1, (piece_at b i 5 2 (omega arith) ∙ colon, (piece_at b i 5 3 (omega arith) ∙ m0, (piece_at b i 5 4 (omega arith) ∙ m1, tt)))))

-- what two digits write
abbrev pub written : ℕ → ℕ → ℕ
written tens units = (tens - 48) * 10 + (units - 48)

pub written_tens : (x y : ℕ) → 48 ≤ x → x ≤ 57 → 48 ≤ y → y ≤ 57 → x ≡ 48 + written x y / 10
written_tens x y a b c d = omega arith

pub written_units : (x y : ℕ) → 48 ≤ x → x ≤ 57 → 48 ≤ y → y ≤ 57 → y ≡ 48 + written x y % 10
written_units x y a b c d = omega arith

-- ---- a day and the minutes

pub minutes_there : (b : List ℕ) (i hour minute : ℕ) → i + 16 ≤ length b → (day : IsDayAt b i) → get_or b (i + 10) 0 ≡ 84 → piece b (i + 11) 5 ≡ clock_text hour minute → MinutesValue (piece b i 16) day.0 hour minute
minutes_there b i hour minute room day letter clock =
    let next : i + 10 + 1 ≡ i + 11 = omega arith in
    let behind : piece b (i + 10) 6 ≡ 84 ∷ clock_text hour minute =
    pieces_joined b (i + 10) 1 5 ∙ ap₂ (λ (s t : List ℕ). s ++ t) (one_byte b (i + 10) 84 (omega (arith, room)) letter) (ap (λ (j : ℕ). piece b j 5) next ∙ clock) in
    (day.1.0, 84, inl refl, pieces_joined b i 10 6 ∙ ap₂ (λ (s t : List ℕ). s ++ t) day.1.1 behind)

-- ---- the seconds and their fraction

-- digits of a second, and the digits after its point
digits_stand : (b : List ℕ) (i j : ℕ) → i < j → j ≤ length b → DigitsBetween b i j → (0 < length (piece b i (j - i))) × AllDigits 10 (piece b i (j - i))
digits_stand b i j some room digits = (omega (arith, cut_long b i j (omega arith) room, some), all_digits (piece b i (j - i)) (cut_digits b i j (omega arith) room digits))

-- a fraction has a value, below one second
pub fraction_value : (s : List ℕ) → 0 < length s → AllDigits 10 s → length s ≤ 9 → (n : ℕ) × (n < 10 ^ 9) × FractionValue s n
fraction_value s some all few =
    (digits_value 10 s * 10 ^ (9 - length s), fraction_below (digits_value 10 s) (length s) few (digits_value-lt 10 s all), ((some, all), few, refl))

pub record SecondsAt (b : List ℕ) (from to : ℕ) : Type 0 where
  pub second : ℕ
  pub nanosecond : ℕ
  pub second_in : second < 60
  pub nanosecond_in : nanosecond < 10 ^ 9
  pub value : SecondsValue (piece b from (to - from)) second nanosecond

second_spelled : (b : List ℕ) (i : ℕ) (lows spans : List ℕ) → i + 3 ≤ length b → AreWithin b i (58 ∷ 48 ∷ 48 ∷ lows) (0 ∷ 5 ∷ 9 ∷ spans) → (second : ℕ) × (second < 60) × (piece b i 3 ≡ 58 ∷ two_digits second)
second_spelled b i lows spans room within =
    let here : i + 0 ≡ i = omega arith in
    let w0 : (58 ≤ get_or b i 0) × (get_or b i 0 ≤ 58) = subst (λ (j : ℕ). (58 ≤ get_or b j 0) × (get_or b j 0 ≤ 58)) here (within 0 (omega arith) (omega arith)) in
    let w1 : (48 ≤ get_or b (i + 1) 0) × (get_or b (i + 1) 0 ≤ 53) = within 1 (omega arith) (omega arith) in
    let w2 : (48 ≤ get_or b (i + 2) 0) × (get_or b (i + 2) 0 ≤ 57) = within 2 (omega arith) (omega arith) in
    let n = written (get_or b (i + 1) 0) (get_or b (i + 2) 0) in
    let colon : get_or b i 0 ≡ 58 = omega (arith, w0) in (
      n,
      omega (arith, w1, w2),
      text_from_reads (piece b i 3) (58 ∷ two_digits n) (piece_long b i 3 room)
          (piece_first b i 3 (omega arith) ∙ colon, (piece_at b i 3 1 (omega arith) ∙ written_tens _ _ w1.0 (omega (arith, w1)) w2.0 w2.1, (piece_at b i 3 2 (omega arith) ∙ written_units _ _ w1.0 (omega (arith, w1)) w2.0 w2.1, tt))),
    )

pub seconds_there : (b : List ℕ) (i to : ℕ) (lows spans : List ℕ) → i + 13 ≤ length b → AreWithin b i (58 ∷ 48 ∷ 48 ∷ lows) (0 ∷ 5 ∷ 9 ∷ spans) → IsFractionAt b (i + 3) to → (i + 3 ≤ to) × (to ≤ i + 13) × SecondsAt b i to
seconds_there b i to lows spans room within (inl none) =
    let s = second_spelled b i lows spans (omega (arith, room)) within in
    let long : 3 ≡ to - i = omega (arith, none) in (
      omega (arith, none),
      omega (arith, none),
      record {
        second = s.0;
        nanosecond = 0;
        second_in = s.1;
        nanosecond_in = omega arith;
        value = inr (inl (ap (piece b i) (sym long) ∙ s.2, refl));
      },
    )
seconds_there b i to lows spans room within (inr some) =
    let s = second_spelled b i lows spans (omega (arith, room)) within in
    let n = to - (i + 3 + 1) in
    let digits = piece b (i + 3 + 1) n in
    let stand = digits_stand b (i + 3 + 1) to (omega (arith, some.1)) (omega (arith, some.2, room)) some.3 in
    let few : length digits ≤ 9 = omega (arith, cut_long b (i + 3 + 1) to (omega (arith, some.1)) (omega (arith, some.2, room)), some.2) in
    let value = fraction_value digits stand.0 stand.1 few in
    let long : to - i ≡ 3 + (1 + n) = omega (arith, some.1) in
    let spelled : piece b i (to - i) ≡ 58 ∷ two_digits s.0 ++ 46 ∷ digits =
    ap (piece b i) long ∙ pieces_joined b i 3 (1 + n)
    ∙ ap₂ (λ (x y : List ℕ). x ++ y) s.2 (pieces_joined b (i + 3) 1 n ∙ ap (λ (x : List ℕ). x ++ digits) (one_byte b (i + 3) 46 (omega (arith, room)) some.0)) in (
      omega (arith, some.1),
      omega (arith, some.2),
      record {
        second = s.0;
        nanosecond = value.0;
        second_in = s.1;
        nanosecond_in = value.1;
        value = inr (inr (digits, spelled, value.2));
      },
    )

-- ---- the offset

pub offset_z : (b : List ℕ) (i : ℕ) → i + 1 ≤ length b → get_or b i 0 ≡ 90 → IsOffsetAt b i (i + 1)
offset_z b i room is =
    let long : i + 1 - i ≡ 1 = omega arith in
    (omega arith, omega arith, (pos 0, inl (inl (ap (piece b i) long ∙ one_byte b i 90 room is), refl)))

pub offset_clock : (b : List ℕ) (i hours minutes : ℕ) → i + 6 ≤ length b → (get_or b i 0 ≡ 43) ⊎ (get_or b i 0 ≡ 45) → hours < 24 → minutes < 60 → piece b (i + 1) 5 ≡ clock_text hours minutes → IsOffsetAt b i (i + 6)
offset_clock b i hours minutes room sign few less clock =
    let long : i + 6 - i ≡ 1 + 5 = omega arith in
    let spelled : (x : ℕ) → get_or b i 0 ≡ x → piece b i (i + 6 - i) ≡ x ∷ clock_text hours minutes =
    λ x is. ap (piece b i) long ∙ pieces_joined b i 1 5 ∙ ap₂ (λ (s t : List ℕ). s ++ t) (one_byte b i x (omega (arith, room)) is) clock in
    elim sign [
      | inl plus ↦ (omega arith, omega arith, (pos (60 * hours + minutes), inr (hours, minutes, few, less, inl (spelled 43 plus, refl))))
      | inr minus ↦ (omega arith, omega arith, (neg_ℤ (pos (60 * hours + minutes)), inr (hours, minutes, few, less, inr (spelled 45 minus, refl))))
    ]

-- ---- the whole

pub moment_there : (b : List ℕ) (i offset to : ℕ) → i + 16 ≤ offset → offset < to → to ≤ length b → IsMinutesAt b i → SecondsAt b (i + 16) offset → IsOffsetAt b offset to → (m : MomentParts) × MomentValue (piece b i (to - i)) m
moment_there b i offset to order more room minutes seconds ends =
    let time : Time = record {
      hour = minutes.1;
      minute = minutes.2;
      second = seconds.second;
      subsec_nanosecond = seconds.nanosecond;
      hour_in = minutes.3;
      minute_in = minutes.4;
      second_in = seconds.second_in;
      subsec_in = seconds.nanosecond_in;
    } in
    let m : MomentParts = record { civil = record { date = minutes.0; time = time }; offset_minutes = ends.2.0 } in
    let long : to - i ≡ 16 + (offset - (i + 16) + (to - offset)) = omega (arith, order, more) in
    let there : i + 16 + (offset - (i + 16)) ≡ offset = omega (arith, order) in
    let spelled : piece b i (to - i) ≡ piece b i 16 ++ (piece b (i + 16) (offset - (i + 16)) ++ piece b offset (to - offset)) =
    ap (piece b i) long ∙ pieces_joined b i 16 (offset - (i + 16) + (to - offset))
    ∙ ap (λ (s : List ℕ). piece b i 16 ++ s) (pieces_joined b (i + 16) (offset - (i + 16)) (to - offset)
    ∙ ap (λ (j : ℕ). piece b (i + 16) (offset - (i + 16)) ++ piece b j (to - offset)) there) in (
      m,
      record {
        minutes = piece b i 16;
        seconds = piece b (i + 16) (offset - (i + 16));
        offset = piece b offset (to - offset);
        spelled = spelled;
        is_minutes = minutes.5;
        is_seconds = seconds.value;
        is_offset = ends.2.1;
      },
    )

-- ---- its bytes are plain

digits_plain : (s : List ℕ) → AllDigits 10 s → ArePlain s
digits_plain [] all = tt
digits_plain (x ∷ s) all = (let digit = all.0 in grind (arith, nat_tests), digits_plain s all.1)

clock_plain : (hour minute : ℕ) → hour < 100 → minute < 100 → ArePlain (clock_text hour minute)
clock_plain hour minute h m = plain_joined (two_digits hour) (58 ∷ two_digits minute) (two_plain hour h) (plain_low 58 (omega arith) (omega arith), two_plain minute m)

letter_plain : (x : ℕ) → (x ≡ 84) ⊎ (x ≡ 116) → is_plain x ≡ true
letter_plain x (inl is) = plain_low x (omega (arith, is)) (omega (arith, is))
letter_plain x (inr is) = plain_high x (omega (arith, is))

minutes_plain : (text : List ℕ) (d : Date) (hour minute : ℕ) → hour < 100 → minute < 100 → MinutesValue text d hour minute → ArePlain text
minutes_plain text d hour minute h m is =
    subst ArePlain (sym is.3) (plain_joined (date_spelling d) (is.1 ∷ clock_text hour minute) (date_plain d is.0) (letter_plain is.1 is.2, clock_plain hour minute h m))

seconds_plain : (text : List ℕ) (second nanosecond : ℕ) → second < 100 → SecondsValue text second nanosecond → ArePlain text
seconds_plain text second nanosecond few (inl is) = subst ArePlain (sym is.0) tt
seconds_plain text second nanosecond few (inr (inl is)) = subst ArePlain (sym is.0) (plain_low 58 (omega arith) (omega arith), two_plain second few)
seconds_plain text second nanosecond few (inr (inr is)) =
    subst ArePlain (sym is.1) (plain_low 58 (omega arith) (omega arith), plain_joined (two_digits second) (46 ∷ is.0) (two_plain second few) (plain_low 46 (omega arith) (omega arith), digits_plain is.0 is.2.0.1))

offset_plain : (text : List ℕ) (offset : ℤ) → OffsetValue text offset → ArePlain text
offset_plain text offset (inl (inl is, _)) = subst ArePlain (sym is) (plain_low 90 (omega arith) (omega arith), tt)
offset_plain text offset (inl (inr is, _)) = subst ArePlain (sym is) (plain_high 122 (omega arith), tt)
offset_plain text offset (inr (hours, minutes, few, less, inl is)) = subst ArePlain (sym is.0) (plain_low 43 (omega arith) (omega arith), clock_plain hours minutes (omega (arith, few)) (omega (arith, less)))
offset_plain text offset (inr (hours, minutes, few, less, inr is)) = subst ArePlain (sym is.0) (plain_low 45 (omega arith) (omega arith), clock_plain hours minutes (omega (arith, few)) (omega (arith, less)))

pub moment_plain : (text : List ℕ) (m : MomentParts) → MomentValue text m → ArePlain text
moment_plain text m is =
    let t = m.civil.time in
    subst ArePlain (sym is.spelled)
    (plain_joined is.minutes (is.seconds ++ is.offset) (minutes_plain is.minutes m.civil.date t.hour t.minute (omega (arith, t.hour_in)) (omega (arith, t.minute_in)) is.is_minutes)
    (plain_joined is.seconds is.offset (seconds_plain is.seconds t.second t.subsec_nanosecond (omega (arith, t.second_in)) is.is_seconds) (offset_plain is.offset m.offset_minutes is.is_offset)))

-- sixteen bytes whose lanes are those of a day and the minutes of a clock
pub minutes_at : (b : List ℕ) (i hour : ℕ) → i + 16 ≤ length b → IsDayAt b i → AreWithin b i (49 ∷ 48 ∷ 48 ∷ 48 ∷ 45 ∷ 48 ∷ 48 ∷ 45 ∷ 48 ∷ 48 ∷ 84 ∷ 48 ∷ 48 ∷ 58 ∷ 48 ∷ 48 ∷ []) (8 ∷ 9 ∷ 9 ∷ 9 ∷ 0 ∷ 1 ∷ 9 ∷ 0 ∷ 2 ∷ 9 ∷ 0 ∷ 2 ∷ 9 ∷ 0 ∷ 5 ∷ 9 ∷ [])
    → get_or b (i + 11) 0 ≡ 48 + hour / 10 → get_or b (i + 12) 0 ≡ 48 + hour % 10 → hour < 24 → IsMinutesAt b i
minutes_at b i hour room day within h0 h1 few =
    let w10 : (84 ≤ get_or b (i + 10) 0) × (get_or b (i + 10) 0 ≤ 84) = within 10 (omega arith) (omega arith) in
    let w13 : (58 ≤ get_or b (i + 13) 0) × (get_or b (i + 13) 0 ≤ 58) = within 13 (omega arith) (omega arith) in
    let w14 : (48 ≤ get_or b (i + 14) 0) × (get_or b (i + 14) 0 ≤ 53) = within 14 (omega arith) (omega arith) in
    let w15 : (48 ≤ get_or b (i + 15) 0) × (get_or b (i + 15) 0 ≤ 57) = within 15 (omega arith) (omega arith) in
    let minute = written (get_or b (i + 14) 0) (get_or b (i + 15) 0) in
    let at : (k j : ℕ) → i + 11 + k ≡ i + j → get_or b (i + 11 + k) 0 ≡ get_or b (i + j) 0 = λ k j same. ap (λ (n : ℕ). get_or b n 0) same in
    let clock = clock_there b (i + 11) hour minute (omega (arith, room)) h0 (at 1 12 (omega arith) ∙ h1) (at 2 13 (omega arith) ∙ omega (arith, w13))
    (at 3 14 (omega arith) ∙ written_tens _ _ w14.0 (omega (arith, w14)) w15.0 w15.1) (at 4 15 (omega arith) ∙ written_units _ _ w14.0 (omega (arith, w14)) w15.0 w15.1) in
    (day.0, hour, minute, few, omega (arith, w14, w15), minutes_there b i hour minute room day (omega (arith, w10)) clock)
