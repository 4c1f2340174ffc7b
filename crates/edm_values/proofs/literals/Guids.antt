-- Guid literals, by digits and as `uuid` reads and writes them.
use Rattle.std.proofs.Common.{◌≡◌, ℕ, zero, suc, ◌+◌, ◌*◌, ◌/◌, ◌%◌, ◌<◌, ◌==◌, ◌&&◌, Bool, true, false, cond, List, [], ◌∷◌, length, get_or, All, IfOk, IfSome, Option, Some, None, Result, Ok, Err, arith, refl, sym, ap, ◌∙◌, subst}
use Rattle.std.specs.Char.{digit_value, digit_char}
use Rattle.std.specs.List.{list_all}
use Rattle.std.specs.Result.{result_ok}
use Rattle.std.specs.Str.Parse.{AllDigits}
use Rattle.std.proofs.lemmas.Bool.{and_parts, eqb-true}
use Rattle.std.proofs.lemmas.List.{get_or_default}
use Rattle.std.proofs.lemmas.Option.{same_Some}
use Rattle.uuid.specs.Text.{by_index, byte_of_digits, digits_of, has_hyphens, hex_digit, hyphenated_text, is_hex_digit, lower, nibble, parsed, parsed_hyphenated, parsed_simple, simple_text}
use Rattle.uuid.proofs.TextLemmas.{by_index_length, by_index_same, hyphens_pass, simple_some}
use Rattle.edm_values.specs.GuidLiteral.{GuidValue, guid_spelling, guid_text, hex_bytes, hex_digits}
use Rattle.edm_values.proofs.literals.HexDigits.{digit-lower, all-digits, digit-at, byte-at, length-hex_bytes, length-hex_digits, All-head, All-tail, All-cons, all-hex_digits, hex_bytes-hex_digits}

-- What `uuid` reads.

both-some : (b : Bool) (x : Option (List ℕ)) (y : List ℕ) → cond b x None ≡ Some y → (b ≡ true) × (x ≡ Some y)
both-some true x y e = (refl, e)
both-some false x y e = cc

four : (s : List ℕ) → has_hyphens s ≡ true → (get_or s 8 0 ≡ 45) × (get_or s 13 0 ≡ 45) × (get_or s 18 0 ≡ 45) × (get_or s 23 0 ≡ 45)
four s e =
    let three = and_parts ((get_or s 8 0 == 45) && (get_or s 13 0 == 45) && (get_or s 18 0 == 45)) (get_or s 23 0 == 45) e in
    let two = and_parts ((get_or s 8 0 == 45) && (get_or s 13 0 == 45)) (get_or s 18 0 == 45) three.0 in
    let one = and_parts (get_or s 8 0 == 45) (get_or s 13 0 == 45) two.0 in
    (eqb-true _ _ one.0, eqb-true _ _ one.1, eqb-true _ _ two.1, eqb-true _ _ three.1)

-- a list of n numbers, one by one
by_index-get_or : (n : ℕ) (xs : List ℕ) → length xs ≡ n → xs ≡ by_index n (λ k. get_or xs k 0)
by_index-get_or n xs len = by_index_same xs n (λ k. get_or xs k 0) len (λ k d within. get_or_default xs k d 0 (omega arith))

text_digits : (text : List ℕ) → length text ≡ 36 → has_hyphens text ≡ true → text ≡ guid_text (digits_of text)
unfolding by_index
text_digits text len hyphens =
    let at = four text hyphens in
    let same : by_index 36 (λ k. get_or text k 0) ≡ guid_text (digits_of text) = rw (at.0, at.1, at.2, at.3) refl in
    by_index-get_or 36 text len ∙ same

digits_text : (ds : List ℕ) → length ds ≡ 32 → (length (guid_text ds) ≡ 36) × (has_hyphens (guid_text ds) ≡ true) × (digits_of (guid_text ds) ≡ ds)
unfolding by_index
digits_text ds len =
    subst (λ (xs : List ℕ). (length (guid_text xs) ≡ 36) × (has_hyphens (guid_text xs) ≡ true) × (digits_of (guid_text xs) ≡ xs)) (sym (by_index-get_or 32 ds len))
    (refl, refl, refl)

pub GuidValue-parsed : (text bytes : List ℕ) → parsed_hyphenated text ≡ Some bytes → GuidValue text bytes
unfolding by_index
GuidValue-parsed text bytes read =
    let outer = both-some ((length text == 36) && has_hyphens text) (parsed_simple (digits_of text)) bytes read in
    let shape = and_parts (length text == 36) (has_hyphens text) outer.0 in
    let inner = both-some ((length (digits_of text) == 32) && list_all is_hex_digit (digits_of text)) _ bytes outer.1 in
    let all = all-digits (digits_of text) (and_parts (length (digits_of text) == 32) (list_all is_hex_digit (digits_of text)) inner.0).1 in
    let long : length (digits_of text) ≡ 32 = refl in
    let made = by_index_same (hex_bytes (digits_of text)) 16 (byte_of_digits (digits_of text)) (length-hex_bytes 16 (digits_of text) long)
    (λ k d within. byte-at (digits_of text) all k d (omega arith)) in
    record {
      digits = digits_of text;
      all_digits = all;
      count = long;
      spelled = text_digits text (eqb-true (length text) 36 shape.0) shape.1;
      value = same_Some _ _ (sym inner.1) ∙ sym made;
    }

pub parsed-GuidValue : (text bytes : List ℕ) → GuidValue text bytes → parsed_hyphenated text ≡ Some bytes
parsed-GuidValue text bytes v =
    let ds = v.digits in
    let shape = digits_text ds v.count in
    let read : Some (hex_bytes ds) ≡ parsed_simple ds =
    simple_some ds (hex_bytes ds) v.count (length-hex_bytes 16 ds v.count) (λ k within. digit-at ds v.all_digits k (omega (arith, v.count)))
    (λ k d within. byte-at ds v.all_digits k d (omega (arith, v.count))) in
    ap parsed_hyphenated v.spelled ∙ sym (hyphens_pass (guid_text ds) shape.0 shape.1) ∙ ap parsed_simple shape.2 ∙ sym read ∙ ap Some (sym v.value)

-- at 36 bytes the only form that `uuid` reads is that with hyphens
pub parsed-36 : (text : List ℕ) → length text ≡ 36 → parsed text ≡ parsed_hyphenated text
parsed-36 text len = rw len refl

pub GuidValue-read : {E : Type 0} (r : Result (List ℕ) E) (text : List ℕ) → length text ≡ 36 → IfOk r (λ bytes. Some bytes ≡ parsed text)
    → IfSome (result_ok r) (GuidValue text)
GuidValue-read (Ok bytes) text long read = GuidValue-parsed text bytes (sym (read ∙ parsed-36 text long))
GuidValue-read (Err e) text long read = tt

-- other texts have no value
pub GuidValue-len : (text bytes : List ℕ) → GuidValue text bytes → length text ≡ 36
GuidValue-len text bytes v = ap length v.spelled ∙ (digits_text v.digits v.count).0

-- What is written.

pub GuidValue-spelling : (guid : List ℕ) → length guid ≡ 16 → All (λ b. b < 256) guid → GuidValue (guid_spelling guid) guid
GuidValue-spelling guid len small = record {
  digits = hex_digits guid;
  all_digits = all-hex_digits guid small;
  count = omega (arith, length-hex_digits guid);
  spelled = refl;
  value = sym (hex_bytes-hex_digits guid small);
}

-- the digits one by one, as `uuid` picks them
lower-at : (xs : List ℕ) → All (λ b. b < 256) xs → (k d : ℕ) → k < 2 * length xs → get_or (hex_digits xs) k d ≡ hex_digit lower (nibble xs k)
lower-at [] all k d within = absurd (omega arith)
lower-at (x ∷ xs) all zero d within =
    let small = All-head x xs all in
    let high : x / 16 % 16 ≡ x / 16 = omega arith in
    let digit : digit_char (x / 16) ≡ hex_digit lower (x / 16) = digit-lower (x / 16) (omega arith) in
    rw high digit
lower-at (x ∷ xs) all (suc zero) d within = digit-lower (x % 16) (omega arith)
lower-at (x ∷ xs) all (suc (suc k)) d within =
    let half : suc (suc k) / 2 ≡ suc (k / 2) = omega arith in
    let odd : suc (suc k) % 2 ≡ k % 2 = omega arith in
    rw (half, odd) (lower-at xs (All-tail x xs all) k d (omega arith))

hex_digits-simple : (xs : List ℕ) → length xs ≡ 16 → All (λ b. b < 256) xs → hex_digits xs ≡ simple_text lower xs
hex_digits-simple xs len small =
    by_index_same (hex_digits xs) 32 (λ k. hex_digit lower (nibble xs k)) (omega (arith, length-hex_digits xs)) (λ k d within. lower-at xs small k d (omega (arith, len)))

grouped-hyphenated : (xs : List ℕ) → guid_text (simple_text lower xs) ≡ hyphenated_text lower xs
unfolding by_index
grouped-hyphenated xs = refl

-- the bytes of a value are sixteen, and each is one
pub GuidValue-bytes : (text bytes : List ℕ) → GuidValue text bytes → (length bytes ≡ 16) × All (λ b. b < 256) bytes
GuidValue-bytes text bytes v =
    (ap length v.value ∙ length-hex_bytes 16 v.digits v.count, subst (All (λ b. b < 256)) (sym v.value) (small-bytes v.digits v.all_digits))
  where
    small-bytes : (ds : List ℕ) → AllDigits 16 ds → All (λ b. b < 256) (hex_bytes ds)
    small-bytes [] all = λ k d within. absurd (omega arith)
    small-bytes (h ∷ []) all = λ k d within. absurd (omega arith)
    small-bytes (h ∷ l ∷ ds) all = All-cons (16 * digit_value h + digit_value l) (hex_bytes ds) (omega (arith, all.0, all.1.0)) (small-bytes ds all.1.1)

-- the text that `uuid` writes and reads again
pub hyphenated-spelling : (text xs guid : List ℕ) → text ≡ hyphenated_text lower xs → Some xs ≡ parsed text → xs ≡ guid → text ≡ guid_spelling guid
hyphenated-spelling text xs guid written read same =
    let long : length text ≡ 36 = ap length written ∙ by_index_length 36 _ in
    let bytes = GuidValue-bytes text xs (GuidValue-parsed text xs (sym (read ∙ parsed-36 text long))) in
    written ∙ sym (ap guid_text (hex_digits-simple xs bytes.0 bytes.1) ∙ grouped-hyphenated xs) ∙ ap guid_spelling same
