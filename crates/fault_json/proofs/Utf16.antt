-- What counts a text's units of UTF-16, character by character.
use Rattle.std.proofs.Common.{◌≡◌, ℕ, ◌+◌, ◌<◌, ◌≤◌, ⊎_elim, List, [], ◌∷◌, ◌++◌, length, IsUtf8, chars, arith, ◌∙◌, ap, length-append}
use Rattle.std.proofs.Math.Utf8.{encode}
use Rattle.std.proofs.lemmas.Bool.{cases_lt, lt-ltb, le-ltb}
use Rattle.std.proofs.lemmas.Str.{IsUtf8-past_char, chars-nil, chars_past_char, length-encode, len_utf8_bounds}
use Rattle.std.specs.Char.{len_utf8}
use Rattle.std.specs.Char.Escape.{encode_utf16}
use Rattle.fault_json.specs.private.Utf16.{utf16_length, utf16_units}

units_of_character : (c size : ℕ) → (c < 0x1_0000 → size ≡ 1) → (0x1_0000 ≤ c → size ≡ 2) → size ≡ length (encode_utf16 c)
units_of_character c size one two =
    ⊎_elim
    (λ (h : c < 0x1_0000). let single : 1 ≡ length (encode_utf16 c) = rw (lt-ltb c 0x1_0000 h) in one h ∙ single)
    (λ (h : 0x1_0000 ≤ c). let pair : 2 ≡ length (encode_utf16 c) = rw (le-ltb c 0x1_0000 h) in two h ∙ pair)
    (cases_lt c 0x1_0000)

-- a character has no more units than bytes
units_fit : (c size : ℕ) → (c < 0x1_0000 → size ≡ 1) → (0x1_0000 ≤ c → size ≡ 2) → size ≤ len_utf8 c
units_fit c size one two =
    ⊎_elim
    (λ (h : c < 0x1_0000). let is = one h in let least = (len_utf8_bounds c).0 in omega (arith, is, least))
    (λ (h : 0x1_0000 ≤ c).
    let is = two h in
    let four : len_utf8 c ≡ 4 = rw (le-ltb c 0x80 (omega arith), le-ltb c 0x800 (omega arith), le-ltb c 0x1_0000 h) in
    omega (arith, is, four))
    (cases_lt c 0x1_0000)

-- so many units have been counted, and left is what is after them
pub record IsCountSoFar (text left : List ℕ) (units : ℕ) : Type 0 where
  pub utf8 : IsUtf8 left
  pub counted : units + utf16_length left ≡ utf16_length text
  pub room : units + length left ≤ length text

pub count-start : (text left : List ℕ) → IsUtf8 text → left ≡ text → IsCountSoFar text left 0
count-start text left utf8 whole = rw whole (record { utf8 = utf8; counted = omega arith; room = omega arith })

pub count-more : (text left rest : List ℕ) (units c size : ℕ) → IsCountSoFar text left units → left ≡ encode c ++ rest
    → (c < 0x1_0000 → size ≡ 1) → (0x1_0000 ≤ c → size ≡ 2) → IsCountSoFar text rest (units + size)
count-more text left rest units c size so_far front one two =
    let utf8 = so_far.utf8 in
    let counted : utf16_length left ≡ length (encode_utf16 c) + utf16_length rest =
    ap (λ (cs : List ℕ). length (utf16_units cs)) (chars_past_char left rest c utf8 front) ∙ length-append (encode_utf16 c) (utf16_units (chars rest)) in
    let bytes : length left ≡ len_utf8 c + length rest =
    ap (λ (bs : List ℕ). length bs) front ∙ length-append (encode c) rest ∙ ap (λ (n : ℕ). n + length rest) (length-encode c) in
    let is = units_of_character c size one two in
    let fits = units_fit c size one two in
    record {
      utf8 = IsUtf8-past_char left rest c utf8 front;
      counted = let so = so_far.counted in omega (arith, counted, is, so);
      room = let so = so_far.room in omega (arith, bytes, fits, so);
    }

pub count-end : (text left : List ℕ) (units : ℕ) → IsCountSoFar text left units → length left ≡ 0 → units ≡ utf16_length text
count-end text [] units so_far end =
    let none : utf16_length [] ≡ 0 = ap (λ (cs : List ℕ). length (utf16_units cs)) chars-nil in
    let so = so_far.counted in
    omega (arith, none, so)
count-end text (b ∷ bs) units so_far end = absurd (omega (arith, end))
