-- Canonical spellings by a value have the values of what they are spelled for.
use Rattle.std.proofs.Common.{◌≡◌, inl, inr, ℕ, ◌+◌, ◌-◌, ◌*◌, ◌<◌, ℤ, All, List, [], ◌∷◌, length, arith, sym, ◌∙◌, ap, subst, FitsSigned}
use Rattle.std.specs.Char.{digit_value}
use Rattle.std.specs.Int.{w64}
use Rattle.std.specs.Str.Parse.{AllDigits}
use Rattle.std.proofs.lemmas.Int.{ints}
use Rattle.std.proofs.lemmas.List.Elements.{All-cons}
use Rattle.edm_values.specs.GuidLiteral.{GuidValue, guid_spelling, hex_bytes}
use Rattle.edm_values.specs.IntLiteral.{IntValue, int_spelling}
use Rattle.edm_values.specs.MomentLiteral.{MomentValue, OffsetValue, moment_spelling}
use Rattle.edm_values.specs.MomentParts.{IsMoment, IsOffset, MomentParts}
use Rattle.odata_text.specs.LiteralSpelling.{IsSpellingOfValue}

-- two texts have the same values
pub record HaveSameValues {V : Type 0} (IsValue : List ℕ → V → Type 0) (text spelling : List ℕ) : Type 0 where
  pub to : (v : V) → IsValue text v → IsValue spelling v
  pub from : (v : V) → IsValue spelling v → IsValue text v

-- what is known of the values of a kind: a text has one, and its canonical spelling has it too
pub record AreKept {V : Type 0} (IsValue : List ℕ → V → Type 0) (spelling_of : V → List ℕ) : Type 0 where
  pub one : (text : List ℕ) (a b : V) → IsValue text a → IsValue text b → a ≡ b
  pub back : (text : List ℕ) (v : V) → IsValue text v → IsValue (spelling_of v) v

pub kept_values : {V : Type 0} (IsValue : List ℕ → V → Type 0) (spelling_of : V → List ℕ) → AreKept IsValue spelling_of
    → (text spelling : List ℕ) → IsSpellingOfValue IsValue spelling_of text spelling → HaveSameValues IsValue text spelling
kept_values {V = V} IsValue spelling_of are text spelling (inl is) =
    let here : IsValue spelling is.0 = subst (λ (s : List ℕ). IsValue s is.0) (sym is.2) (are.back text is.0 is.1) in
    record {
      to = λ v given. subst (λ (w : V). IsValue spelling w) (are.one text is.0 v is.1 given) here;
      from = λ v given. subst (λ (w : V). IsValue text w) (are.one spelling is.0 v here given) is.1;
    }
kept_values IsValue spelling_of are text spelling (inr none) = record {
  to = λ v given. subst (λ (s : List ℕ). IsValue s v) (sym none.1) given;
  from = λ v given. subst (λ (s : List ℕ). IsValue s v) none.1 given;
}

-- ---- what the laws of values ask for

offset_within : (text : List ℕ) (offset : ℤ) → OffsetValue text offset → IsOffset offset
offset_within text offset (inl zulu) = subst IsOffset (sym zulu.1) (omega (arith, ints), omega (arith, ints))
offset_within text offset (inr (h, m, small_h, small_m, inl ahead)) =
    let minutes : 60 * h + m < 1440 = omega arith in
    subst IsOffset (sym ahead.1) (omega (arith, ints), omega (arith, ints))
offset_within text offset (inr (h, m, small_h, small_m, inr behind)) =
    let minutes : 60 * h + m < 1440 = omega arith in
    subst IsOffset (sym behind.1) (omega (arith, ints), omega (arith, ints))

half_as_many : (n : ℕ) (ds : List ℕ) → length ds ≡ n + n → length (hex_bytes ds) ≡ n
half_as_many n [] size = omega arith
half_as_many n (h ∷ []) size = absurd (omega arith)
half_as_many n (h ∷ l ∷ ds) size = let more = half_as_many (n - 1) ds (omega arith) in omega arith

are_bytes : (ds : List ℕ) → AllDigits 16 ds → All (λ b. b < 256) (hex_bytes ds)
are_bytes [] all = λ k d within. absurd (omega arith)
are_bytes (h ∷ []) all = λ k d within. absurd (omega arith)
are_bytes (h ∷ l ∷ ds) all =
    let high = all.0 in
    let low = all.1.0 in
    All-cons (λ b. b < 256) (16 * digit_value h + digit_value l) (hex_bytes ds) (omega arith) (are_bytes ds all.1.1)

-- ---- the kinds

pub int_values : ((text : List ℕ) (m n : ℤ) → IntValue text m → IntValue text n → m ≡ n) → ((n : ℤ) → FitsSigned w64 n → IntValue (int_spelling n) n) → AreKept IntValue int_spelling
int_values one back = record { one = one; back = λ text n value. back n value.1 }

pub moment_values : ((text : List ℕ) (a b : MomentParts) → MomentValue text a → MomentValue text b → a ≡ b) → ((m : MomentParts) → IsMoment m.civil m.offset_minutes → MomentValue (moment_spelling m) m)
    → AreKept MomentValue moment_spelling
moment_values one back = record {
  one = one;
  back = λ text m value. back m (value.is_minutes.0, offset_within value.offset m.offset_minutes value.is_offset);
}

pub guid_values : ((text a b : List ℕ) → GuidValue text a → GuidValue text b → a ≡ b) → ((guid : List ℕ) → length guid ≡ 16 → All (λ b. b < 256) guid → GuidValue (guid_spelling guid) guid)
    → AreKept GuidValue guid_spelling
guid_values one back = record {
  one = one;
  back = λ text guid value. back guid (ap length value.value ∙ half_as_many 16 value.digits value.count)
      (subst (All (λ b. b < 256)) (sym value.value) (are_bytes value.digits value.all_digits));
}
