-- Numbers by their texts, with a sign and without, and of digits alone.
use Rattle.std.proofs.Common.{◌≡◌, ℕ, ◌<◌, ◌^◌, List, [], ◌∷◌, length, true, false, Option, Some, drop, nat_lt, slice_index, ◌==◌, refl, sym, ap, ◌∙◌, arith}
use Rattle.std.proofs.lemmas.Bool.Decides.{nat_tests}
use Rattle.std.proofs.lemmas.Float.Parse.{scan_numeral-text_of}
use Rattle.std.proofs.lemmas.List.{append-nil}
use Rattle.std.proofs.lemmas.Str.Parse.{digit_from_value}
use Rattle.std.specs.Str.Parse.{digits_value, IsNumeral}
use Rattle.fast_float.specs.Text.{scan, digits_of, Parts}
use Rattle.serde_json.specs.Data.{Num, unsigned}
use Rattle.serde_json.specs.Read.{number_of, number_from, is_integer}

pub number_with_minus : (s : List ℕ) (o : Option Num) → (slice_index s 0 == 45) ≡ true → o ≡ number_from true (scan (drop 1 s)) → o ≡ number_of s
unfolding number_of
number_with_minus s o minus is = rw minus is

pub number_without_minus : (s : List ℕ) (o : Option Num) → (slice_index s 0 == 45) ≡ false → o ≡ number_from false (scan s) → o ≡ number_of s
unfolding number_of
number_without_minus s o none is = rw none is

-- ---- digits alone

abbrev digits_alone : List ℕ → Parts
digits_alone s = record { whole = s; point = false; fraction = []; exponent_negative = false; exponent = []; len = length s }

scan_digits : (s : List ℕ) → IsNumeral 10 s → scan s ≡ digits_alone s
scan_digits s is =
    ap scan (sym (append-nil s)) ∙ scan_numeral-text_of (digits_alone s)
    (record { whole_digits = is.1; fraction_digits = tt; exponent_digits = tt; no_point = λ _. refl; no_exponent = λ _. refl; len_is = ap length (sym (append-nil s)) })

no_minus : (s : List ℕ) → IsNumeral 10 s → (slice_index s 0 == 45) ≡ false
no_minus [] is = absurd (omega (arith, is.0))
no_minus (d ∷ s) is = let digit = digit_from_value d is.1.0 in grind (arith, nat_tests)

from_integer : (p : Parts) → is_integer p ≡ true → nat_lt (digits_of p) (2 ^ 64) ≡ true → number_from false p ≡ Some (unsigned (digits_of p))
from_integer p whole fits = rw whole (rw fits refl)

pub number_of_numeral : (s : List ℕ) (n : ℕ) → IsNumeral 10 s → n ≡ digits_value 10 s → n < 1000000000000000000 → Some (unsigned n) ≡ number_of s
number_of_numeral s n is value bound =
    let same : digits_of (digits_alone s) ≡ n = ap (digits_value 10) (append-nil s) ∙ sym value in
    let some : 0 < length s = is.0 in
    let whole : is_integer (digits_alone s) ≡ true = grind (arith, nat_tests) in
    let fits : nat_lt (digits_of (digits_alone s)) (2 ^ 64) ≡ true = rw same (grind (arith, nat_tests)) in
    number_without_minus s (Some (unsigned n)) (no_minus s is)
    (sym (ap (number_from false) (scan_digits s is) ∙ from_integer (digits_alone s) whole fits ∙ ap (λ (k : ℕ). Some (unsigned k)) same))
