-- Lemmas on numbers of digits alone.
use Rattle.std.proofs.Common.{◌≡◌, ℕ, ◌+◌, ◌-◌, ◌*◌, ◌^◌, ◌<◌, ◌≤◌, List, length, take, get_or, true, refl, sym, subst, ⊎_elim, arith, lit<, lt_of_lt_of_le, length-take-le}
use native.Mathlib.Nat.{pow-le-pow_right}
use Rattle.std.proofs.lemmas.Bool.{cases_lt, and_parts, leb-true}
use Rattle.std.proofs.lemmas.Int.Digits.{digits_more, digits_value-lt, digits_value_more}
use Rattle.std.proofs.lemmas.Str.{digit_value_digit}
use Rattle.std.specs.Char.{digit_value, is_ascii_digit}
use Rattle.std.specs.Str.Parse.{digits_value, IsNumeral}
use Rattle.json_room.specs.WholeNumbers.{IsWhole}
use Rattle.json_room.specs.private.Lexemes.{WritesWhole}
use Rattle.json_room.proofs.NumberLemmas.{number_of_numeral}

no_digits : (d : List ℕ) → WritesWhole d 0 0
no_digits d = record { within = omega arith; digits = λ k from to. absurd (omega (arith, to)); all = tt; value = refl; bound = omega arith }

pub in_range : (x : ℕ) → is_ascii_digit x ≡ true → (48 ≤ x) × (x ≤ 57)
in_range x is = let parts = and_parts _ _ is in (leb-true 48 x parts.0, leb-true x 57 parts.1)

pub digit_as_reported : (x : ℕ) → is_ascii_digit x ≡ true → digit_value x + 48 ≡ x
digit_as_reported x is = digit_value_digit x (in_range x is)

pub one_digit_more : (d : List ℕ) (i n m : ℕ) → WritesWhole d i n → i < length d → is_ascii_digit (get_or d i 0) ≡ true → n < 100000000000000000 → m ≡ n * 10 + (get_or d i 0 - 48)
    → WritesWhole d (i + 1) m
one_digit_more d i n m so_far within is small next =
    let x = get_or d i 0 in
    let reported : digit_value x + 48 ≡ x = digit_as_reported x is in
    let high : x ≤ 57 = (in_range x is).1 in
    record {
      within = omega (arith, within);
      digits = λ k from to. ⊎_elim (λ before. so_far.digits k from before) (λ behind. let same : k ≡ i = omega (arith, to, behind) in subst (λ j. is_ascii_digit (get_or d j 0) ≡ true) (sym same) is) (cases_lt k i);
      all = digits_more 10 d i within so_far.all (omega (arith, reported, high));
      value = omega (arith, next, reported, so_far.value, digits_value_more 10 d i within);
      bound = omega (arith, next, high, small);
    }

pub first_digit : (d : List ℕ) (m : ℕ) → 0 < length d → is_ascii_digit (get_or d 0 0) ≡ true → m ≡ get_or d 0 0 - 48 → WritesWhole d 1 m
first_digit d m some is same = one_digit_more d 0 0 m (no_digits d) some is (omega arith) (omega (arith, same))

-- digits and their number, as `serde_json` reads them
pub digits_whole : (s : List ℕ) (n : ℕ) → IsNumeral 10 s → n ≡ digits_value 10 s → n < 1000000000000000000 → IsWhole s n
digits_whole s n written value bound =
    record { written = written; value = value; bound = bound; read = sym (number_of_numeral s n written value bound) }

-- what few digits write leaves room for one more
pub few_digits : (d : List ℕ) (i n : ℕ) → WritesWhole d i n → i < 18 → n < 100000000000000000
few_digits d i n so_far few =
    let s = take i d in
    let long : length s ≤ 17 = omega (arith, few, length-take-le i d so_far.within) in
    let low : n < 10 ^ length s = subst (λ k. k < 10 ^ length s) (sym so_far.value) (digits_value-lt 10 s so_far.all) in
    lt_of_lt_of_le low (pow-le-pow_right (lit< tt) long)
