-- Texts of days, moments and Guids, by the bytes that stand in a line.
use Rattle.std.proofs.Common.{◌≡◌, ℕ, zero, suc, ◌+◌, ◌-◌, ◌*◌, ◌/◌, ◌%◌, ◌<◌, ◌≤◌, ℤ, pos, List, [], ◌∷◌, ◌++◌, length, take, drop, get_or, true, refl, sym, ap, ◌∙◌, subst, arith, lit<}
use Rattle.std.proofs.lemmas.Bool.Decides.{nat_tests}
use Rattle.std.proofs.lemmas.Grind.{common_steps}
use Rattle.std.proofs.lemmas.List.{drop-append-le, get_or-drop, get_or-take, get_or_default, length-drop, length-take-le, take-append-drop, take-append-le}
use Rattle.std.specs.List.{AllByRecursion}
use Rattle.json.specs.Run.{is_plain}
use Rattle.json.specs.Token.{string}
use Rattle.json.specs.Lex.{token, between, lex}
use Rattle.json.specs.Written.{PlainBetween}
use Rattle.jiff.proofs.SpanFacts.{signed_arith}
use Rattle.jiff.specs.Words.{days_in_month}
use Rattle.edm_values.specs.Civil.{Date}
use Rattle.edm_values.specs.DateLiteral.{DateValue, date_spelling, date_text, four_digits, two_digits}
use Rattle.edm_values.specs.MomentParts.{IsFourDigitYear}
use Rattle.edm_values.proofs.literals.Dates.{date_from_bytes, IsDateSpelling-date}
use Rattle.json_room.specs.private.Lexemes.{IsTextAt}
use Rattle.json_room.proofs.LexemeLemmas.{text_lexed}
use Rattle.json_room.proofs.RoomLemmas.{byte_reported, other_default, plain_here, plain_within, within_byte}
use Rattle.room_literals.specs.private.SureTexts.{AreWithin, IsDayAt, IsDaySpelled, IsDigitAt}

-- ---- texts of plain bytes

pub plain_low : (x : ℕ) → 43 ≤ x → x ≤ 90 → is_plain x ≡ true
plain_low x least most = grind (arith, nat_tests)

pub plain_high : (x : ℕ) → 93 ≤ x → is_plain x ≡ true
plain_high x least = grind (arith, nat_tests)

abbrev pub ArePlain : List ℕ → Type 0
ArePlain s = AllByRecursion (λ x. is_plain x ≡ true) s

pub plain_joined : (s t : List ℕ) → ArePlain s → ArePlain t → ArePlain (s ++ t)
plain_joined [] t first more = more
plain_joined (x ∷ s) t first more = (first.0, plain_joined s t first.1 more)

plain_each : (s : List ℕ) → ArePlain s → (k : ℕ) → k < length s → is_plain (get_or s k 0) ≡ true
plain_each [] each k inside = absurd (omega (arith, inside))
plain_each (x ∷ s) each zero inside = each.0
plain_each (x ∷ s) each (suc k) inside = plain_each s each.1 k (omega (arith, inside))

pub two_plain : (n : ℕ) → n < 100 → ArePlain (two_digits n)
two_plain n few = (plain_low (48 + n / 10) (omega arith) (omega arith), (plain_low (48 + n % 10) (omega arith) (omega arith), tt))

four_plain : (n : ℕ) → n < 10000 → ArePlain (four_digits n)
four_plain n few = plain_joined (two_digits (n / 100)) (two_digits (n % 100)) (two_plain (n / 100) (omega arith)) (two_plain (n % 100) (omega arith))

date_text_plain : (year month day : ℕ) → year < 10000 → month < 100 → day < 100 → ArePlain (date_text year month day)
date_text_plain year month day y m d =
    plain_joined (four_digits year) (45 ∷ two_digits month ++ 45 ∷ two_digits day) (four_plain year y)
    (refl, plain_joined (two_digits month) (45 ∷ two_digits day) (two_plain month m) (refl, two_plain day d))

pub date_plain : (d : Date) → IsFourDigitYear d.year → ArePlain (date_spelling d)
date_plain d within =
    let is = IsDateSpelling-date d within in
    subst ArePlain (sym is.6) (date_text_plain is.0 is.1 is.2 is.3 is.4 is.5)

-- ---- a text in its quotes

module _ (line bytes : List ℕ) (front : take (length line) bytes ≡ line) (feed : get_or bytes (length line) 0 ≡ 10) (room : length line + 64 ≤ length bytes) where
  same_piece : (i n : ℕ) → i + n ≤ length line → take n (drop i line) ≡ take n (drop i bytes)
  same_piece i n within =
      let whole : bytes ≡ line ++ drop (length line) bytes = sym (take-append-drop (length line) bytes) ∙ ap (λ l. l ++ drop (length line) bytes) front in
      sym (ap (λ l. take n (drop i l)) whole ∙ ap (take n) (drop-append-le i line (drop (length line) bytes) (omega (arith, within)))
      ∙ take-append-le n (drop i line) (drop (length line) bytes) (omega (arith, length-drop i line, within)))

  plain_stands : (s : List ℕ) (i : ℕ) → ArePlain s → s ≡ take (length s) (drop i bytes) → PlainBetween bytes i (i + length s)
  plain_stands s i plain is k from to =
      let j = k - i in
      let there : i + j ≡ k = omega (arith, from) in
      let inside : j < length s = omega (arith, from, to) in
      let same : get_or s j 0 ≡ get_or bytes k 0 =
      ap (λ (l : List ℕ). get_or l j 0) is ∙ get_or-take (length s) (drop i bytes) j 0 inside ∙ get_or-drop i bytes j 0 ∙ ap (λ (m : ℕ). get_or bytes m 0) there in
      ap is_plain (sym same) ∙ plain_each s plain j inside

  pub text_quoted : (place : ℕ) (s : List ℕ) → place ≤ length line → get_or bytes place 0 ≡ 34 → ArePlain s → s ≡ take (length s) (drop (place + 1) bytes) → get_or bytes (place + 1 + length s) 0 ≡ 34
      → IsTextAt line place s (place + 1 + length s + 1)
  text_quoted place s begins opens plain is closes =
      let n = length s in
      let opened : get_or line place 10 ≡ 34 = sym (byte_reported line bytes front feed room place begins) ∙ opens in
      let within : place < length line = within_byte line place 34 opened (λ e. omega arith) in
      let between_them : PlainBetween bytes (place + 1) (place + 1 + n) = plain_stands s (place + 1) plain is in
      let ends : place + 1 + n ≤ length line = plain_within line bytes front feed room (place + 1) (place + 1 + n) (omega (arith, within)) between_them in
      let closed : get_or line (place + 1 + n) 10 ≡ 34 = sym (byte_reported line bytes front feed room (place + 1 + n) ends) ∙ closes in
      let last : place + 1 + n < length line = within_byte line (place + 1 + n) 34 closed (λ e. omega arith) in
      let count : place + 1 + n - (place + 1) ≡ n = omega arith in
      let content : take (place + 1 + n - (place + 1)) (drop (place + 1) line) ≡ s =
      ap (λ k. take k (drop (place + 1) line)) count ∙ same_piece (place + 1) n ends ∙ sym is in
      record {
        within = omega (arith, last);
        lexed = text_lexed line place (place + 1 + n) within (other_default line place 34 opened (λ e. omega arith)) (omega arith) last
            (other_default line (place + 1 + n) 34 closed (λ e. omega arith)) (plain_here line bytes front feed room (place + 1) (place + 1 + n) ends between_them)
            ∙ ap (λ t. token (string t) ∷ lex between (drop (place + 1 + n + 1) line)) content;
      }

-- ---- days

month_28 : (year : ℤ) (month : ℕ) → 28 ≤ days_in_month year month
month_28 year month = grind (arith, common_steps)

pub day_there : (b : List ℕ) (i month day : ℕ) → i + 10 ≤ length b → IsDaySpelled b i → get_or b (i + 5) 0 ≡ 48 + month / 10 → get_or b (i + 6) 0 ≡ 48 + month % 10
    → get_or b (i + 8) 0 ≡ 48 + day / 10 → get_or b (i + 9) 0 ≡ 48 + day % 10 → 1 ≤ month → month ≤ 12 → 1 ≤ day → day ≤ 28 → IsDayAt b i
day_there b i month day room is m0 m1 d0 d1 month_least month_most day_least day_most =
    let text = take 10 (drop i b) in
    let there : (k : ℕ) → k < 10 → get_or text k 0 ≡ get_or b (i + k) 0 = λ k few. get_or-take 10 (drop i b) k 0 few ∙ get_or-drop i b k 0 in
    let first : get_or text 0 0 ≡ get_or b i 0 = there 0 (omega arith) ∙ ap (λ (j : ℕ). get_or b j 0) (let same : i + 0 ≡ i = omega arith in same) in
    let century = (get_or b i 0 - 48) * 10 + (get_or b (i + 1) 0 - 48) in
    let rest = (get_or b (i + 2) 0 - 48) * 10 + (get_or b (i + 3) 0 - 48) in
    let y = is.year in
    let year = 100 * century + rest in
    let spelled : text ≡ date_text year month day =
    date_from_bytes text century rest month day (omega (arith, y.0, y.1, y.2)) (omega (arith, y.3, y.4)) (length-take-le 10 (drop i b) (omega (arith, length-drop i b, room)))
    (first ∙ omega (arith, y.0, y.1, y.2)) (there 1 (omega arith) ∙ omega (arith, y.0, y.1, y.2)) (there 2 (omega arith) ∙ omega (arith, y.3, y.4)) (there 3 (omega arith) ∙ omega (arith, y.3, y.4))
    (there 4 (omega arith) ∙ is.hyphen) (there 5 (omega arith) ∙ m0) (there 6 (omega arith) ∙ m1) (there 7 (omega arith) ∙ is.second_hyphen) (there 8 (omega arith) ∙ d0) (there 9 (omega arith) ∙ d1) in
    let least : 1 ≤ year = omega (arith, y.0) in
    let most : year ≤ 9999 = omega (arith, y.1, y.2, y.3, y.4) in
    let d : Date = record {
      year = pos year;
      month = month;
      day = day;
      year_in = (omega (arith, signed_arith, least), omega (arith, signed_arith, most));
      month_in = (month_least, month_most);
      day_in = (day_least, omega (arith, day_most, month_28 (pos year) month));
    } in
    (d, ((omega (arith, signed_arith, least), omega (arith, signed_arith, most)), spelled))

-- what the lanes say of a day's bytes, whatever the later ones are
pub day_spelled : (b : List ℕ) (i : ℕ) (lows spans : List ℕ) → AreWithin b i (49 ∷ 48 ∷ 48 ∷ 48 ∷ 45 ∷ 48 ∷ 48 ∷ 45 ∷ 48 ∷ 48 ∷ lows) (8 ∷ 9 ∷ 9 ∷ 9 ∷ 0 ∷ 1 ∷ 9 ∷ 0 ∷ 2 ∷ 9 ∷ spans) → IsDaySpelled b i
day_spelled b i lows spans within =
    let here : i + 0 ≡ i = omega arith in
    let w0 : (49 ≤ get_or b i 0) × (get_or b i 0 ≤ 57) = subst (λ (j : ℕ). (49 ≤ get_or b j 0) × (get_or b j 0 ≤ 57)) here (within 0 (omega arith) (omega arith)) in
    let w4 : (45 ≤ get_or b (i + 4) 0) × (get_or b (i + 4) 0 ≤ 45) = within 4 (omega arith) (omega arith) in
    let w5 : (48 ≤ get_or b (i + 5) 0) × (get_or b (i + 5) 0 ≤ 49) = within 5 (omega arith) (omega arith) in
    let w7 : (45 ≤ get_or b (i + 7) 0) × (get_or b (i + 7) 0 ≤ 45) = within 7 (omega arith) (omega arith) in
    let w8 : (48 ≤ get_or b (i + 8) 0) × (get_or b (i + 8) 0 ≤ 50) = within 8 (omega arith) (omega arith) in
    record {
      year = (w0.0, w0.1, within 1 (omega arith) (omega arith), within 2 (omega arith) (omega arith), within 3 (omega arith) (omega arith));
      hyphen = omega (arith, w4);
      month = ((w5.0, omega (arith, w5)), within 6 (omega arith) (omega arith));
      second_hyphen = omega (arith, w7);
      day = ((w8.0, omega (arith, w8)), within 9 (omega arith) (omega arith));
    }
