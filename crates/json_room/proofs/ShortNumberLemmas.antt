-- Numbers without a sign and without an exponent: they are numbers of JSON, and those of at most 300 digits have
-- values.
use Rattle.std.proofs.Common.{◌≡◌, ℕ, zero, suc, ◌+◌, ◌-◌, ◌*◌, ◌^◌, ◌<◌, ◌≤◌, List, [], ◌∷◌, ◌++◌, length, take, drop, get_or, Bool, true, false, cond, ◌==◌, ◌&&◌, Some, nat_lt, slice_index, inl, inr, refl, sym, ap, ◌∙◌, subst, arith, lit<, append-nil, length-append, le_trans, le_of_eq, le_of_lt, lt_of_lt_of_le, le-mul_of_pos_right, mul-one}
use native.Mathlib.Nat.{pow-le-pow_right}
use lib.Dec.{T}
use lib.Ieee.{Float, nan, inf, fin, Format, prec, low, odd, units, round, le}
use lib.Ieee.Fits.{round_is}
use lib.Ieee.Order.{round_mono}
use lib.Seq.{take-add}
use Rattle.std.proofs.lemmas.Bool.{false≢true, true≢false, ne_eqb}
use Rattle.std.proofs.lemmas.Float.Parse.{scan_numeral-text_of}
use Rattle.std.proofs.lemmas.Int.Digits.{digits_value-lt}
use Rattle.std.proofs.lemmas.List.{drop-drop}
use Rattle.std.proofs.lemmas.Str.Parse.{digit_from_value}
use Rattle.std.specs.Prelude.{IsSome, is_some}
use Rattle.std.specs.Char.{is_ascii_digit}
use Rattle.std.specs.Float.{binary64, float_is_finite}
use Rattle.std.specs.Str.Parse.{AllDigits, digits_value}
use Rattle.fast_float.specs.Text.{Parts, digits_of, nearest, IsWellFormed}
use Rattle.fast_float.proofs.ExactLemmas.{ten_to_pos}
use Rattle.fast_float.proofs.Rows.{AllDigits-append}
use Rattle.json.specs.Print.{IsNumber}
use Rattle.json.proofs.Printed.Floats.{IsNumber-plain}
use Rattle.serde_json.specs.Data.{unsigned}
use Rattle.serde_json.specs.Read.{number_of, number_from, float_of, is_integer}
use Rattle.json_room.specs.private.Lexemes.{DigitsBetween}
use Rattle.json_room.specs.private.ShortNumbers.{EndsFraction, IsNumberAt}
use Rattle.json_room.proofs.LexemeLemmas.{EachDigit, cut, cut_long, cut_digits, first_cut, cut_number, from_byte}
use Rattle.json_room.proofs.NumberLemmas.{number_without_minus}
use Rattle.json_room.proofs.WholeLemmas.{digit_as_reported, in_range}

-- ---- floats that are not too large

infinite : (y : Float) → T (le (inf false) y) → float_is_finite y ≡ true → ⊥
unfolding le float_is_finite
infinite nan t e = false≢true e
infinite (inf s) t e = false≢true e
infinite (fin s m e) t f = t

odd_finite : (d : ℕ) (s : Bool) (q k l : ℕ) → float_is_finite (odd d s q k l) ≡ true
unfolding odd float_is_finite
odd_finite d s zero k l = refl
odd_finite d s (suc q) k l = refl

units_finite : (f : Format) (q k : ℕ) (y : Float) → T (le (units f false q k) y) → float_is_finite y ≡ true → float_is_finite (units f false q k) ≡ true
unfolding units
units_finite f q k y below finite = go _ below
  where
    go : (b : Bool) → T (le (cond b (odd (suc (prec f)) false q k (low f)) (inf false)) y) → float_is_finite (cond b (odd (suc (prec f)) false q k (low f)) (inf false)) ≡ true
    go true t = odd_finite (suc (prec f)) false q k (low f)
    go false t = absurd (infinite y t finite)

finite_there : float_is_finite (round binary64 false (10 ^ 300) 1) ≡ true
unfolding round float_is_finite
finite_there = refl

-- what is at most 10 ^ 300 is not too large
finite_below : (n t : ℕ) → 0 < t → n * 1 ≤ 10 ^ 300 * t → float_is_finite (round binary64 false n t) ≡ true
finite_below n t some bound =
    let is = round_is binary64 false n t in
    let order = round_mono binary64 n t (10 ^ 300) 1 some (lit< tt) bound in
    ap float_is_finite is ∙ units_finite binary64 _ _ (round binary64 false (10 ^ 300) 1) (subst (λ x. T (le x (round binary64 false (10 ^ 300) 1))) is order) finite_there

below_by : (v u c t : ℕ) → u ≡ v → v < c → 0 < t → u * 1 ≤ c * t
below_by v u c t same low some = le_trans (le_of_eq (mul-one u ∙ same)) (le_trans (le_of_lt low) (le-mul_of_pos_right c some))

-- ---- digits, and perhaps a point and digits

abbrev parts : List ℕ → Bool → List ℕ → Parts
parts whole point fraction =
    record { whole = whole; point = point; fraction = fraction; exponent_negative = false; exponent = []; len = length (whole ++ (cond point (46 ∷ fraction) [] ++ [])) }

abbrev written : List ℕ → Bool → List ℕ → List ℕ
written whole point fraction = whole ++ (cond point (46 ∷ fraction) [] ++ [])

parts_finite : (whole fraction : List ℕ) (point : Bool) → AllDigits 10 whole → AllDigits 10 fraction → length whole + length fraction ≤ 300
    → float_is_finite (nearest binary64 false (parts whole point fraction)) ≡ true
parts_finite whole fraction point w f short =
    let ds = whole ++ fraction in
    let v = digits_value 10 ds in
    let low : v < 10 ^ length ds = digits_value-lt 10 ds (AllDigits-append whole fraction w f) in
    let few : length ds ≤ 300 = omega (arith, short, length-append whole fraction) in
    let lower : v < 10 ^ 300 = lt_of_lt_of_le low (pow-le-pow_right (lit< tt) few) in
    let some = ten_to_pos (length fraction + 0) in
    finite_below (v * 10 ^ 0) (10 ^ (length fraction + 0)) some (below_by v (v * 10 ^ 0) (10 ^ 300) (10 ^ (length fraction + 0)) (mul-one v) lower some)

from_finite : (p : Parts) → float_is_finite (nearest binary64 false p) ≡ true → IsSome (number_from false p)
from_finite p finite = go (is_integer p && nat_lt (digits_of p) (2 ^ 64))
  where
    go : (b : Bool) → IsSome (cond b (Some (unsigned (digits_of p))) (float_of false p))
    go true = refl
    go false = rw finite refl

no_minus : (whole rest : List ℕ) → AllDigits 10 whole → 0 < length whole → (slice_index (whole ++ rest) 0 == 45) ≡ false
no_minus [] rest w some = absurd (omega (arith, some))
no_minus (d ∷ ds) rest w some = let digit = digit_from_value d w.0 in ne_eqb d 45 (λ e. omega arith)

-- so much has a value
written_value : (whole fraction : List ℕ) (point : Bool) → AllDigits 10 whole → 0 < length whole → AllDigits 10 fraction → (point ≡ false → fraction ≡ []) → length whole + length fraction ≤ 300
    → IsSome (number_of (written whole point fraction))
written_value whole fraction point w some f none short =
    let p = parts whole point fraction in
    let formed : IsWellFormed p = record { whole_digits = w; fraction_digits = f; exponent_digits = tt; no_point = none; no_exponent = λ _. refl; len_is = refl } in
    let read : number_of (written whole point fraction) ≡ number_from false p =
    sym (number_without_minus (written whole point fraction) (number_from false p) (no_minus whole _ w some) (sym (ap (number_from false) (scan_numeral-text_of p formed)))) in
    ap is_some read ∙ from_finite p (parts_finite whole fraction point w f short)

pub all_digits : (s : List ℕ) → EachDigit s → AllDigits 10 s
all_digits [] each = tt
all_digits (x ∷ xs) each =
    let first : is_ascii_digit x ≡ true = each 0 (omega arith) in
    let reported = digit_as_reported x first in
    let high = (in_range x first).1 in
    (omega (arith, reported, high), all_digits xs (λ k l. each (suc k) (omega (arith, l))))

-- digits, a point and digits
fraction_number : (whole fraction : List ℕ) → AllDigits 10 whole → 0 < length whole → (get_or whole 0 0 ≡ 48 → length whole ≡ 1) → AllDigits 10 fraction → 0 < length fraction
    → IsNumber (written whole true fraction)
fraction_number whole fraction w some starts f more =
    IsNumber-plain (written whole true fraction) (
      false,
      parts whole true fraction,
      refl,
      record {
        well_formed = record { whole_digits = w; fraction_digits = f; exponent_digits = tt; no_point = λ e. absurd (true≢false e); no_exponent = λ _. refl; len_is = refl };
        whole = some;
        no_leading_zero = starts;
        fraction = λ _. more;
        marked = λ e. absurd (true≢false e);
      },
    )

-- ---- from one offset to the other

cut_fraction : (d : List ℕ) (i p e : ℕ) → i ≤ p → p + 1 ≤ e → e ≤ length d → get_or d p 32 ≡ 46 → cut d i e ≡ cut d i p ++ 46 ∷ cut d (p + 1) e
cut_fraction d i p e order more room point =
    let both : e - i ≡ p - i + (e - p) = omega arith in
    let there : i + (p - i) ≡ p = omega arith in
    let one : e - p ≡ suc (e - (p + 1)) = omega arith in
    ap (λ n. take n (drop i d)) both ∙ take-add (p - i) (e - p) (drop i d)
    ∙ ap (λ r. cut d i p ++ take (e - p) r) (drop-drop (p - i) i d ∙ ap (λ k. drop k d) there ∙ from_byte d p 46 (omega arith) point)
    ∙ ap (λ n. cut d i p ++ take n (46 ∷ drop (p + 1) d)) one

pub number_there : (d : List ℕ) (i p e : ℕ) → i < p → p ≤ length d → DigitsBetween d i p → (get_or d i 0 ≡ 48 → p ≡ i + 1) → EndsFraction d p e → e - i ≤ 300 → IsNumberAt d i e
number_there d i p e order room digits starts ends short = go ends
  where
    w : List ℕ
    w = cut d i p

    long : length w ≡ p - i
    long = cut_long d i p (omega arith) room

    each : EachDigit w
    each = cut_digits d i p (omega arith) room digits

    alone : get_or w 0 0 ≡ 48 → length w ≡ 1
    alone is = omega (arith, long, starts (sym (first_cut d i p order room) ∙ is))

    go : EndsFraction d p e → IsNumberAt d i e
    go (inl same) =
        let some : 0 < length w = omega (arith, long) in
        let is : w ≡ written w false [] = sym (append-nil w) in
        let value : IsSome (number_of w) = ap (λ s. is_some (number_of s)) is ∙ written_value w [] false (all_digits w each) some tt (λ _. refl) (omega (arith, long, short, same)) in
        subst (λ k. IsNumberAt d i k) (sym same) (record { bounds = (order, room); is_number = cut_number d i p order room digits starts; has_value = value })
    go (inr fraction) =
        let f = cut d (p + 1) e in
        let some : 0 < length w = omega (arith, long) in
        let behind : length f ≡ e - (p + 1) = cut_long d (p + 1) e (omega (arith, fraction.bounds.0)) fraction.bounds.1 in
        let more : 0 < length f = omega (arith, behind, fraction.bounds.0) in
        let w_all = all_digits w each in
        let f_all = all_digits f (cut_digits d (p + 1) e (omega (arith, fraction.bounds.0)) fraction.bounds.1 fraction.digits) in
        let is : cut d i e ≡ written w true f =
        cut_fraction d i p e (omega arith) (omega (arith, fraction.bounds.0)) fraction.bounds.1 fraction.point ∙ ap (λ r. w ++ r) (sym (append-nil (46 ∷ f))) in
        record {
          bounds = (omega (arith, fraction.bounds.0), fraction.bounds.1);
          is_number = subst IsNumber (sym is) (fraction_number w f w_all some alone f_all more);
          has_value = ap (λ s. is_some (number_of s)) is ∙ written_value w f true w_all some f_all (λ e. absurd (true≢false e)) (omega (arith, long, behind, short, fraction.bounds.0));
        }
