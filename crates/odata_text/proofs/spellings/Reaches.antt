-- The lengths of digits and whole numbers at the front of a text.
use Rattle.std.proofs.Common.{neg_ℤ}
use Rattle.std.specs.Int.{IsInRange}
use Rattle.std.specs.Str.Parse.{digits_value}
use Rattle.std.proofs.lemmas.List.Sums.{prefix_len_stops}
use Rattle.std.proofs.lemmas.Str.Parse.{numerals_by_value, tells_by_index, digit_at}
use Rattle.odata_text.proofs.Common.{All-from_get_or, AllPass-from_list_all, list_all-from_AllPass, ◌≡◌, ◌⊎◌, inl, inr, ⊎_elim, ℕ, ◌<◌, true, pos, List, [], ◌∷◌, length, get_or, take, arith, refl, sym, ◌∙◌, ap, subst, is_ascii_digit, list_all, prefix_len, IsNumeral, both_ways, cases_lt, nat_tests, get_or-take, length-take-le, prefix_len-le-length, prefix_len_passes, IsIntSpelling, FollowedBy, IsReach, PassesTests, passes, Sign}
use Rattle.odata_text.proofs.spellings.Patterns.{either-byte, marked-pair, pair-marked}

-- Digits.

pub digit_range : (c : ℕ) → is_ascii_digit c ≡ true → IsInRange 48 57 c
digit_range c digit = grind (arith, nat_tests)

pub digit_test : (c : ℕ) → IsInRange 48 57 c → is_ascii_digit c ≡ true
digit_test c range = grind (arith, nat_tests)

pub numeral-digits : (xs : List ℕ) → IsNumeral 10 xs → list_all is_ascii_digit xs ≡ true
numeral-digits xs numeral = list_all-from_AllPass is_ascii_digit xs (All-from_get_or (λ b. is_ascii_digit b ≡ true) xs 0 (λ i inside. digit_test (get_or xs i 0) (digit_at xs i numeral.1 inside)))

pub numeral-none : IsNumeral 10 [] → ⊥
numeral-none numeral = let some = numeral.0 in absurd (omega arith)

pub digits-numeral : (xs : List ℕ) → 0 < length xs → list_all is_ascii_digit xs ≡ true → IsNumeral 10 xs
digits-numeral xs some all = (some, (numerals_by_value _ tells_by_index).to xs (λ i below. digit_range (get_or xs i 0) (AllPass-from_list_all is_ascii_digit xs all i 0 below)))

-- a run of digits is the longest numeral at the front
pub numeral-run : (rest : List ℕ) (n : ℕ) → n ≡ prefix_len is_ascii_digit rest → IsReach (IsNumeral 10) n rest
numeral-run rest n run =
    let within = prefix_len-le-length is_ascii_digit rest in
    record {
      within = omega arith;
      found = λ positive.
          let size : length (take n rest) ≡ n = length-take-le n rest (omega arith) in (
            omega arith,
            (numerals_by_value _ tells_by_index).to (take n rest) (λ i below.
                let inside : i < n = omega arith in
                subst (IsInRange 48 57) (sym (get_or-take n rest i 0 inside)) (digit_range _ (prefix_len_passes is_ascii_digit rest i 0 (omega arith)))),
          );
      reaches = λ m inside numeral. ⊎_elim
          (λ past.
          let taken : length (take m rest) ≡ m = length-take-le m rest inside in
          let digit = digit_test _ (digit_at (take m rest) (prefix_len is_ascii_digit rest) numeral.1 (omega arith)) in
          absurd (both_ways _ (prefix_len_stops is_ascii_digit rest 0 (omega arith)) (sym (ap is_ascii_digit (get_or-take m rest (prefix_len is_ascii_digit rest) 0 past)) ∙ digit)))
          (λ reached. omega arith)
          (cases_lt (prefix_len is_ascii_digit rest) m);
    }

-- Whole numbers: digits, or a sign and digits after it.

abbrev pub SignedPair : List ℕ → Type 0
SignedPair xs = FollowedBy (PassesTests (Sign ∷ [])) (IsNumeral 10) xs

abbrev pub IntParts : List ℕ → Type 0
IntParts xs = IsNumeral 10 xs ⊎ SignedPair xs

-- what holds of digits, and of a sign before them, holds of every whole number
pub int-by_form : (P : List ℕ → Type 0) → ((ds : List ℕ) → IsNumeral 10 ds → P ds) → ((ds : List ℕ) → IsNumeral 10 ds → P (43 ∷ ds)) → ((ds : List ℕ) → IsNumeral 10 ds → P (45 ∷ ds))
    → (xs : List ℕ) → IsIntSpelling xs → P xs
int-by_form P plain plus minus [] int = absurd int.1
int-by_form P plain plus minus (c ∷ ds) int =
    elim int.1 [
      | inl is ↦ subst (λ (b : ℕ). P (b ∷ ds)) (sym is.0) (plus ds is.1)
      | inr other ↦ elim other [ inl is ↦ subst (λ (b : ℕ). P (b ∷ ds)) (sym is.0) (minus ds is.1) | inr is ↦ plain (c ∷ ds) is.0 ]
    ]

pub parts-from_int : (xs : List ℕ) → IsIntSpelling xs → IntParts xs
parts-from_int =
    int-by_form IntParts (λ ds numeral. inl numeral) (λ ds numeral. inr (marked-pair Sign (IsNumeral 10) 43 ds refl numeral))
    (λ ds numeral. inr (marked-pair Sign (IsNumeral 10) 45 ds refl numeral))

pub int-from_parts : (xs : List ℕ) → IntParts xs → IsIntSpelling xs
int-from_parts [] (inl numeral) = absurd (numeral-none numeral)
int-from_parts (c ∷ ds) (inl numeral) = (pos (digits_value 10 (c ∷ ds)), inr (inr (numeral, refl)))
int-from_parts xs (inr pair) = pair-marked Sign (IsNumeral 10) IsIntSpelling signed-int xs pair
  where
    signed-int : (c : ℕ) (ds : List ℕ) → passes Sign c ≡ true → IsNumeral 10 ds → IsIntSpelling (c ∷ ds)
    signed-int c ds sign numeral =
        ⊎_elim
        (λ plus. (pos (digits_value 10 ds), inl (plus, numeral, refl)))
        (λ minus. (neg_ℤ (pos (digits_value 10 ds)), inr (inl (minus, numeral, refl))))
        (either-byte c 43 45 sign)
