-- Int literals.
use Rattle.std.proofs.Common.{suc, negsuc, ◌^◌, ap, refl, FitsSigned, ◌≡◌, inl, inr, ℕ, ◌<◌, ℤ, pos, neg_ℤ, List, [], ◌∷◌, sym, arith}
use Rattle.std.specs.Int.{w64}
use Rattle.std.specs.Fmt.{decimal}
use Rattle.std.specs.Str.Parse.{IsNumeral, digits_value}
use Rattle.std.proofs.lemmas.Fmt.{decimal_is_IsNumeral}
use Rattle.edm_values.specs.IntLiteral.{IntNumber, IntValue, int_spelling}

-- a text stands for one number at most
pub IntNumber-same : (text : List ℕ) (m n : ℤ) → IntNumber text m → IntNumber text n → m ≡ n
IntNumber-same [] m n first second = absurd first
IntNumber-same (c ∷ digits) m n first second = grind arith

-- digits alone
number-digits : (ds : List ℕ) (n : ℕ) → IsNumeral 10 ds → n ≡ digits_value 10 ds → IntNumber ds (pos n)
number-digits [] n numeral same = absurd (omega (arith, numeral.0))
number-digits (c ∷ cs) n numeral same = inr (inr (numeral, ap pos same))

-- a number's canonical spelling stands for it
pub IntValue-spelling : (n : ℤ) → FitsSigned w64 n → IntValue (int_spelling n) n
IntValue-spelling (pos n) fits =
    let small : n < 2 ^ 64 = omega (arith, fits) in
    let digits = decimal_is_IsNumeral n small in
    (number-digits (decimal n) n digits.0 (sym digits.1), fits)
IntValue-spelling (negsuc n) fits =
    let small : suc n < 2 ^ 64 = omega (arith, fits) in
    let digits = decimal_is_IsNumeral (suc n) small in
    (inr (inl (refl, digits.0, ap (λ (k : ℕ). neg_ℤ (pos k)) (sym digits.1))), fits)
