-- Fractions, exponents and numbers with either at the front of a text.
use Rattle.odata_text.proofs.Common.{◌≡◌, ◌⊎◌, inl, inr, ⊎_elim, ℕ, ◌==◌, ◌||◌, not, Bool, true, List, [], ◌∷◌, ◌++◌, refl, sym, ◌∙◌, ap, is_ascii_digit, list_all, and_from, or_left, IsNumeral, IsIntSpelling, IsDecimals, IsExponent, IsFraction, PassesTests, passes, FollowedBy, Dot, ExponentMark, append-nil}
use Rattle.odata_text.proofs.characters.Identifiers.{list_all-weaker}
use Rattle.odata_text.proofs.spellings.Patterns.{either-passes, marked-pair}
use Rattle.odata_text.proofs.spellings.Reaches.{int-by_form, numeral-digits}
use Rattle.odata_text.proofs.spellings.Sequences.{ArePieces, pieces-by_byte, stops}

-- A mark, and digits or a whole number.

pub fraction-pair : (xs : List ℕ) → IsFraction xs → FollowedBy (PassesTests (Dot ∷ [])) (IsNumeral 10) xs
fraction-pair [] fraction = absurd fraction
fraction-pair (dot ∷ digits) fraction = marked-pair Dot (IsNumeral 10) dot digits (ap (passes Dot) fraction.0) fraction.1

pub exponent-pair : (xs : List ℕ) → IsExponent xs → FollowedBy (PassesTests (ExponentMark ∷ [])) IsIntSpelling xs
exponent-pair [] exponent = absurd exponent
exponent-pair (mark ∷ power) exponent = marked-pair ExponentMark IsIntSpelling mark power (either-passes mark 101 69 exponent.0) exponent.1

-- Which bytes each part has, and which it begins with.

-- a digit or a dot
abbrev is_fraction_byte : ℕ → Bool
is_fraction_byte b = is_ascii_digit b || (b == 46)

fraction-bytes : (xs : List ℕ) → IsFraction xs → list_all is_fraction_byte xs ≡ true
fraction-bytes [] fraction = absurd fraction
fraction-bytes (dot ∷ digits) fraction =
    and_from (is_fraction_byte dot) _ (ap is_fraction_byte fraction.0) (list_all-weaker is_ascii_digit is_fraction_byte digits (λ b digit. or_left _ (b == 46) digit) (numeral-digits digits fraction.1))

-- a digit or a sign
abbrev is_int_byte : ℕ → Bool
is_int_byte b = is_ascii_digit b || ((b == 43) || (b == 45))

int-bytes : (xs : List ℕ) → IsIntSpelling xs → list_all is_int_byte xs ≡ true
int-bytes = int-by_form (λ xs. list_all is_int_byte xs ≡ true) digits digits digits
  where
    digits : (ds : List ℕ) → IsNumeral 10 ds → list_all is_int_byte ds ≡ true
    digits ds numeral = list_all-weaker is_ascii_digit is_int_byte ds (λ b digit. or_left _ ((b == 43) || (b == 45)) digit) (numeral-digits ds numeral)

exponent-stops : (p : ℕ → Bool) → not (p 101) ≡ true → not (p 69) ≡ true → (xs : List ℕ) → IsExponent xs → stops p xs ≡ true
exponent-stops p small big [] exponent = absurd exponent
exponent-stops p small big (mark ∷ power) exponent = ⊎_elim (λ is. ap (λ (b : ℕ). not (p b)) is ∙ small) (λ is. ap (λ (b : ℕ). not (p b)) is ∙ big) exponent.0

fraction-stops : (p : ℕ → Bool) → not (p 46) ≡ true → (xs more : List ℕ) → IsFraction xs → stops p (xs ++ more) ≡ true
fraction-stops p dot [] more fraction = absurd fraction
fraction-stops p dot (b ∷ digits) more fraction = ap (λ (c : ℕ). not (p c)) fraction.0 ∙ dot

decimals-stops : (xs : List ℕ) → IsDecimals xs → stops is_int_byte xs ≡ true
decimals-stops xs (inl fraction) = sym (ap (stops is_int_byte) (append-nil xs)) ∙ fraction-stops is_int_byte refl xs [] fraction
decimals-stops xs (inr (inl exponent)) = exponent-stops is_int_byte refl refl xs exponent
decimals-stops xs (inr (inr pair)) = ap (stops is_int_byte) pair.whole ∙ fraction-stops is_int_byte refl pair.front pair.back pair.is_front

pub fraction_exponent : ArePieces IsFraction IsExponent
fraction_exponent = pieces-by_byte IsFraction IsExponent is_fraction_byte (λ fraction. fraction) fraction-bytes (exponent-stops is_fraction_byte refl refl)

-- a whole number, and a fraction, an exponent or both after it
pub int_decimals : ArePieces IsIntSpelling IsDecimals
int_decimals = pieces-by_byte IsIntSpelling IsDecimals is_int_byte (λ int. int.1) int-bytes decimals-stops
