-- Numbers of digits alone.
use Rattle.std.proofs.Common.{◌≡◌, ℕ, ◌+◌, ◌-◌, ◌^◌, ◌<◌, ◌≤◌, List, length, take, drop, get_or, refl, sym, ap, ◌∙◌, subst, arith, lit<, lt_of_lt_of_le}
use native.Mathlib.Nat.{pow-le-pow_right}
use Rattle.std.proofs.lemmas.Int.Digits.{digits_value-lt}
use Rattle.std.proofs.lemmas.List.{get_or-drop}
use Rattle.std.specs.Char.{is_ascii_digit}
use Rattle.std.specs.Str.Parse.{AllDigits, digits_value}
use Rattle.json.specs.Token.{number}
use Rattle.json_room.specs.WholeNumbers.{IsWhole}
use Rattle.json_room.specs.private.Lexemes.{DigitsBetween, WritesWhole}
use Rattle.json_room.proofs.LexemeLemmas.{cut_digits, cut_long, cut_number}
use Rattle.json_room.proofs.ShortNumberLemmas.{all_digits}
use Rattle.json_room.proofs.WholeLemmas.{digits_whole}
use Rattle.json_room.specs.Lexemes.{StandsTo}
use Rattle.json_room.proofs.Standing.{number_stands}

-- at most 18 digits, of which the first is 0 only where it is the only one, are a whole number
pub whole_stands : (d : List ℕ) (i to : ℕ) → i < to → to ≤ length d → to ≤ i + 18 → DigitsBetween d i to → (get_or d i 0 ≡ 48 → to ≡ i + 1)
    → (s : List ℕ) × StandsTo d i (number s) to × ((n : ℕ) × IsWhole s n × (n < 10 ^ (to - i)))
whole_stands d i to further within few digits starts =
    let s = take (to - i) (drop i d) in
    let long : length s ≡ to - i = cut_long d i to (omega arith) within in
    let all : AllDigits 10 s = all_digits s (cut_digits d i to (omega arith) within digits) in
    let below : digits_value 10 s < 10 ^ (to - i) = subst (λ k. digits_value 10 s < 10 ^ k) long (digits_value-lt 10 s all) in
    let short : to - i ≤ 18 = omega (arith, few) in
    let bound : digits_value 10 s < 1000000000000000000 = lt_of_lt_of_le below (pow-le-pow_right (lit< tt) short) in
    (s, number_stands d i to further within (cut_number d i to further within digits starts), (digits_value 10 s, digits_whole s (digits_value 10 s) (omega (arith, long, further), all) refl bound, below))

-- the number that digits at an offset write
pub written_stands : (d : List ℕ) (i to n : ℕ) → i < to → to ≤ length d → (get_or d i 0 ≡ 48 → to ≡ i + 1) → WritesWhole (drop i d) (to - i) n → (s : List ℕ) × StandsTo d i (number s) to × IsWhole s n
written_stands d i to n further within starts writes =
    let s = take (to - i) (drop i d) in
    let long : length s ≡ to - i = cut_long d i to (omega arith) within in
    let digits : DigitsBetween d i to = λ k from below.
    let there : i + (k - i) ≡ k = omega (arith, from) in
    ap is_ascii_digit (ap (λ j. get_or d j 0) (sym there) ∙ sym (get_or-drop i d (k - i) 0)) ∙ writes.digits (k - i) (omega arith) (omega (arith, from, below)) in
    (s, number_stands d i to further within (cut_number d i to further within digits starts), digits_whole s n (omega (arith, long, further), writes.all) writes.value writes.bound)
