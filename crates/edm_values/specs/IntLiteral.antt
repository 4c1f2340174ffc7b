-- Int literals (OData ABNF Construction Rules 4.01, section 7, `int64Value`).
use Rattle.std.specs.Prelude.{◌≡◌, ◌⊎◌, ℕ, ℤ, pos, neg_ℤ, List, [], ◌∷◌, FitsSigned}
use Rattle.std.specs.Int.{w64}
use Rattle.std.specs.Fmt.{signed_decimal}
use Rattle.std.specs.Str.Parse.{IsNumeral, digits_value}

-- the whole number that digits after a plus (43), after a minus (45) or alone stand for
abbrev pub IntNumber : List ℕ → ℤ → Type 0
IntNumber [] n = ⊥
IntNumber (c ∷ digits) n =
    ((c ≡ 43) × IsNumeral 10 digits × (n ≡ pos (digits_value 10 digits)))
    ⊎ (((c ≡ 45) × IsNumeral 10 digits × (n ≡ neg_ℤ (pos (digits_value 10 digits))))
    ⊎ (IsNumeral 10 (c ∷ digits) × (n ≡ pos (digits_value 10 (c ∷ digits)))))

-- a sign or none, and then one ASCII digit or more
abbrev pub IsIntSpelling : List ℕ → Type 0
IsIntSpelling text = (n : ℤ) × IntNumber text n

-- the value of an Int spelling: its number, if it lies within Int64
abbrev pub IntValue : List ℕ → ℤ → Type 0
IntValue text n = IntNumber text n × FitsSigned w64 n

-- the canonical spelling: no plus, no leading zeros, and zero as `0`
abbrev pub int_spelling : ℤ → List ℕ
int_spelling n = signed_decimal n
