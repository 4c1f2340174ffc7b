-- Hexadecimal digits and the bytes that they stand for.
use Rattle.std.proofs.Common.{◌≡◌, ℕ, zero, suc, ◌+◌, ◌*◌, ◌/◌, ◌%◌, ◌<◌, true, List, [], ◌∷◌, length, get_or, All, arith, refl}
use Rattle.std.specs.Char.{digit_value, digit_char}
use Rattle.std.specs.List.{list_all}
use Rattle.std.specs.Str.Parse.{AllDigits}
use Rattle.std.proofs.lemmas.Bool.{and_parts}
use Rattle.std.proofs.lemmas.Bool.Decides.{nat_tests}
use Rattle.uuid.specs.Text.{byte_of_digits, hex_digit, is_hex_digit, lower, value_of}
use Rattle.edm_values.specs.GuidLiteral.{hex_bytes, hex_digits}

-- Digits.

hex-value : (c : ℕ) → is_hex_digit c ≡ true → (digit_value c < 16) × (value_of c ≡ digit_value c)
hex-value c hex = (grind (arith, nat_tests), grind (arith, nat_tests))

value-hex : (c : ℕ) → digit_value c < 16 → is_hex_digit c ≡ true
value-hex c small = grind (arith, nat_tests)

digit-value : (d : ℕ) → d < 16 → digit_value (digit_char d) ≡ d
digit-value d small = grind (arith, nat_tests)

pub digit-lower : (d : ℕ) → d < 16 → digit_char d ≡ hex_digit lower d
digit-lower d small = grind (arith, nat_tests)

pub all-digits : (ds : List ℕ) → list_all is_hex_digit ds ≡ true → AllDigits 16 ds
all-digits [] all = tt
all-digits (d ∷ ds) all =
    let parts = and_parts (is_hex_digit d) (list_all is_hex_digit ds) all in
    ((hex-value d parts.0).0, all-digits ds parts.1)

pub digit-at : (ds : List ℕ) → AllDigits 16 ds → (k : ℕ) → k < length ds → is_hex_digit (get_or ds k 0) ≡ true
digit-at [] all k within = absurd (omega arith)
digit-at (d ∷ ds) all zero within = value-hex d all.0
digit-at (d ∷ ds) all (suc k) within = digit-at ds all.1 k (omega arith)

-- Bytes of digits, and digits of bytes.

pub byte-at : (ds : List ℕ) → AllDigits 16 ds → (k d : ℕ) → 2 * k + 1 < length ds → get_or (hex_bytes ds) k d ≡ byte_of_digits ds k
byte-at [] all k d within = absurd (omega arith)
byte-at (h ∷ []) all k d within = absurd (omega arith)
byte-at (h ∷ l ∷ ds) all zero d within =
    let high = (hex-value h (value-hex h all.0)).1 in
    let low = (hex-value l (value-hex l all.1.0)).1 in
    rw (high, low) (omega arith)
byte-at (h ∷ l ∷ ds) all (suc k) d within =
    let even : 2 * suc k ≡ suc (suc (2 * k)) = omega arith in
    let odd : suc (suc (2 * k)) + 1 ≡ suc (suc (2 * k + 1)) = omega arith in
    rw (even, odd) (byte-at ds all.1.1 k d (omega arith))

pub length-hex_bytes : (n : ℕ) (ds : List ℕ) → length ds ≡ 2 * n → length (hex_bytes ds) ≡ n
length-hex_bytes zero [] len = refl
length-hex_bytes zero (d ∷ ds) len = absurd (omega arith)
length-hex_bytes (suc n) [] len = absurd (omega arith)
length-hex_bytes (suc n) (h ∷ []) len = absurd (omega arith)
length-hex_bytes (suc n) (h ∷ l ∷ ds) len = omega (arith, length-hex_bytes n ds (omega arith))

pub length-hex_digits : (xs : List ℕ) → length (hex_digits xs) ≡ 2 * length xs
length-hex_digits [] = refl
length-hex_digits (x ∷ xs) = omega (arith, length-hex_digits xs)

-- what holds of all holds of the first and of the others
pub All-head : (x : ℕ) (xs : List ℕ) → All (λ b. b < 256) (x ∷ xs) → x < 256
All-head x xs all = all 0 0 (omega arith)

pub All-tail : (x : ℕ) (xs : List ℕ) → All (λ b. b < 256) (x ∷ xs) → All (λ b. b < 256) xs
All-tail x xs all = λ k d within. all (suc k) d (omega arith)

pub All-cons : (x : ℕ) (xs : List ℕ) → x < 256 → All (λ b. b < 256) xs → All (λ b. b < 256) (x ∷ xs)
All-cons x xs first others zero d within = first
All-cons x xs first others (suc k) d within = others k d (omega arith)

pub all-hex_digits : (xs : List ℕ) → All (λ b. b < 256) xs → AllDigits 16 (hex_digits xs)
all-hex_digits [] all = tt
all-hex_digits (x ∷ xs) all =
    let small = All-head x xs all in
    let high : x / 16 < 16 = omega arith in
    let low : x % 16 < 16 = omega arith in
    (omega (arith, digit-value (x / 16) high), (omega (arith, digit-value (x % 16) low), all-hex_digits xs (All-tail x xs all)))

pub hex_bytes-hex_digits : (xs : List ℕ) → All (λ b. b < 256) xs → hex_bytes (hex_digits xs) ≡ xs
hex_bytes-hex_digits [] all = refl
hex_bytes-hex_digits (x ∷ xs) all =
    let small = All-head x xs all in
    let high : digit_value (digit_char (x / 16)) ≡ x / 16 = digit-value (x / 16) (omega arith) in
    let low : digit_value (digit_char (x % 16)) ≡ x % 16 = digit-value (x % 16) (omega arith) in
    let byte : 16 * digit_value (digit_char (x / 16)) + digit_value (digit_char (x % 16)) ≡ x = rw (high, low) (omega arith) in
    let others = hex_bytes-hex_digits xs (All-tail x xs all) in
    rw (byte, others) refl
