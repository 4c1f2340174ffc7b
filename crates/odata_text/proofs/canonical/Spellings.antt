-- A literal has one canonical spelling, which is spelled as it is and is its own.
use Rattle.std.proofs.Common.{ℤ, FitsSigned}
use Rattle.std.specs.Int.{w64}
use Rattle.std.proofs.lemmas.Int.{ints}
use Rattle.std.proofs.lemmas.Str.Ascii.{lowercase-lowercase}
use Rattle.odata_text.proofs.Common.{◌≡◌, inl, inr, ℕ, ◌+◌, ◌-◌, ◌*◌, ◌<◌, All, List, [], ◌∷◌, length, arith, refl, sym, ◌∙◌, ap, subst, digit_value, str_to_ascii_lowercase, AllDigits, All-cons, hex_bytes, IsIntSpelling, IsMomentSpelling, enumeration_spelling, Spells, TokenKind, Word, Int, Moment, Guid, EnumLit}
use Rattle.edm_values.specs.GuidLiteral.{GuidValue, guid_spelling}
use Rattle.edm_values.specs.IntLiteral.{IntValue, int_spelling}
use Rattle.edm_values.specs.MomentLiteral.{MomentValue, OffsetValue, moment_spelling}
use Rattle.edm_values.specs.MomentParts.{MomentParts, IsMoment, IsOffset}
use Rattle.odata_text.specs.LiteralSpelling.{IsLiteralSpelling, IsSpellingOf, IsSpellingOfValue}
use Rattle.odata_text.proofs.canonical.LowerCase.{lowered-word}
use Rattle.odata_text.proofs.canonical.Pieces.{enumeration-again, trimmed-enumeration}

-- Spellings by a value.

-- what is known of the values of a kind
pub record AreValues {V : Type 0} (IsValue : List ℕ → V → Type 0) (spelling_of : V → List ℕ) : Type 0 where
  pub one : (text : List ℕ) (a b : V) → IsValue text a → IsValue text b → a ≡ b
  pub back : (text : List ℕ) (value : V) → IsValue text value → IsValue (spelling_of value) value

value-one : {V : Type 0} (IsValue : List ℕ → V → Type 0) (spelling_of : V → List ℕ) → AreValues IsValue spelling_of
    → (text first second : List ℕ) → IsSpellingOfValue IsValue spelling_of text first → IsSpellingOfValue IsValue spelling_of text second → first ≡ second
value-one IsValue spelling_of are text first second (inl a) (inl b) = a.2 ∙ ap spelling_of (are.one text a.0 b.0 a.1 b.1) ∙ sym b.2
value-one IsValue spelling_of are text first second (inl a) (inr b) = absurd (b.0 (a.0, a.1))
value-one IsValue spelling_of are text first second (inr a) (inl b) = absurd (a.0 (b.0, b.1))
value-one IsValue spelling_of are text first second (inr a) (inr b) = a.1 ∙ sym b.1

value-again : {V : Type 0} (IsValue : List ℕ → V → Type 0) (spelling_of : V → List ℕ) → AreValues IsValue spelling_of
    → (text spelling : List ℕ) → IsSpellingOfValue IsValue spelling_of text spelling → IsSpellingOfValue IsValue spelling_of spelling spelling
value-again IsValue spelling_of are text spelling (inl a) = inl (a.0, subst (λ (s : List ℕ). IsValue s a.0) (sym a.2) (are.back text a.0 a.1), a.2)
value-again IsValue spelling_of are text spelling (inr a) = inr (subst (λ (s : List ℕ). ¬ ((v : _) × IsValue s v)) (sym a.1) a.0, refl)

-- a spelling by a value is spelled so, if each value's text is
value-spelled : {V : Type 0} (IsValue : List ℕ → V → Type 0) (spelling_of : V → List ℕ) (Spelled : List ℕ → Type 0) → AreValues IsValue spelling_of
    → ((text : List ℕ) (value : V) → IsValue text value → Spelled text)
    → (text spelling : List ℕ) → Spelled text → IsSpellingOfValue IsValue spelling_of text spelling → Spelled spelling
value-spelled IsValue spelling_of Spelled are each text spelling spelled (inl a) = subst Spelled (sym a.2) (each (spelling_of a.0) a.0 (are.back text a.0 a.1))
value-spelled IsValue spelling_of Spelled are each text spelling spelled (inr a) = subst Spelled (sym a.1) spelled

-- The values of each kind.

pub record AreLiteralValues : Type 0 where
  pub ints : AreValues IntValue int_spelling
  pub moments : AreValues MomentValue moment_spelling
  pub guids : AreValues GuidValue guid_spelling
  pub moment_spelled : (text : List ℕ) (m : MomentParts) → MomentValue text m → IsMomentSpelling text

pub int_values : ((text : List ℕ) (m n : ℤ) → IntValue text m → IntValue text n → m ≡ n) → ((n : ℤ) → FitsSigned w64 n → IntValue (int_spelling n) n) → AreValues IntValue int_spelling
int_values one back = record { one = one; back = λ text n value. back n value.1 }

offset-within : (text : List ℕ) (offset : ℤ) → OffsetValue text offset → IsOffset offset
offset-within text offset (inl zulu) = subst IsOffset (sym zulu.1) (omega (arith, ints), omega (arith, ints))
offset-within text offset (inr (h, m, small_h, small_m, inl ahead)) =
    let minutes : 60 * h + m < 1440 = omega arith in
    subst IsOffset (sym ahead.1) (omega (arith, ints), omega (arith, ints))
offset-within text offset (inr (h, m, small_h, small_m, inr behind)) =
    let minutes : 60 * h + m < 1440 = omega arith in
    subst IsOffset (sym behind.1) (omega (arith, ints), omega (arith, ints))

pub moment_values : ((text : List ℕ) (a b : MomentParts) → MomentValue text a → MomentValue text b → a ≡ b) → ((m : MomentParts) → IsMoment m.civil m.offset_minutes → MomentValue (moment_spelling m) m) → AreValues MomentValue moment_spelling
moment_values one back = record { one = one; back = λ text m value. back m (value.is_minutes.0, offset-within value.offset m.offset_minutes value.is_offset) }

pub guid_values : ((text a b : List ℕ) → GuidValue text a → GuidValue text b → a ≡ b) → ((guid : List ℕ) → length guid ≡ 16 → All (λ b. b < 256) guid → GuidValue (guid_spelling guid) guid) → AreValues GuidValue guid_spelling
guid_values one back = record {
  one = one;
  back = λ text guid value. back guid (ap length value.value ∙ half 16 value.digits value.count) (subst (All (λ b. b < 256)) (sym value.value) (small value.digits value.all_digits));
}
  where
    half : (n : ℕ) (ds : List ℕ) → length ds ≡ n + n → length (hex_bytes ds) ≡ n
    half n [] size = omega arith
    half n (h ∷ []) size = absurd (omega arith)
    half n (h ∷ l ∷ ds) size = let more = half (n - 1) ds (omega arith) in omega arith

    small : (ds : List ℕ) → AllDigits 16 ds → All (λ b. b < 256) (hex_bytes ds)
    small [] all = λ k d within. absurd (omega arith)
    small (h ∷ []) all = λ k d within. absurd (omega arith)
    small (h ∷ l ∷ ds) all =
        let high = all.0 in
        let low = all.1.0 in
        All-cons (λ b. b < 256) (16 * digit_value h + digit_value l) (hex_bytes ds) (omega arith) (small ds all.1.1)

-- Literals.

lowered-again : (text : List ℕ) → str_to_ascii_lowercase (str_to_ascii_lowercase text) ≡ str_to_ascii_lowercase text
lowered-again [] = refl
lowered-again (b ∷ bs) = λ i. lowercase-lowercase b i ∷ lowered-again bs i

pub one_spelling : AreLiteralValues → (kind : TokenKind) (text first second : List ℕ) → IsLiteralSpelling kind text first → IsLiteralSpelling kind text second → first ≡ second
one_spelling are Int text first second a b = value-one IntValue int_spelling are.ints text first second a.is b.is
one_spelling are Moment text first second a b = value-one MomentValue moment_spelling are.moments text first second a.is b.is
one_spelling are Guid text first second a b = value-one GuidValue guid_spelling are.guids text first second a.is b.is
one_spelling are _ text first second a b = a.is ∙ sym b.is

literal-again : AreLiteralValues → (kind : TokenKind) (text spelling : List ℕ) → IsSpellingOf kind text spelling → IsSpellingOf kind spelling spelling
literal-again are Word text spelling is = is ∙ sym (ap str_to_ascii_lowercase is ∙ lowered-again text)
literal-again are Int text spelling is = value-again IntValue int_spelling are.ints text spelling is
literal-again are Moment text spelling is = value-again MomentValue moment_spelling are.moments text spelling is
literal-again are Guid text spelling is = value-again GuidValue guid_spelling are.guids text spelling is
literal-again are EnumLit text spelling is = is ∙ sym (ap enumeration_spelling is ∙ enumeration-again text)
literal-again are _ text spelling is = refl

pub spelling_again : AreLiteralValues → (kind : TokenKind) (text spelling : List ℕ) → IsLiteralSpelling kind text spelling → IsLiteralSpelling kind spelling spelling
spelling_again are kind text spelling is = record { is = literal-again are kind text spelling is.is }

pub spelling_spelled : AreLiteralValues → (kind : TokenKind) (text spelling : List ℕ) → Spells kind text → IsLiteralSpelling kind text spelling → Spells kind spelling
spelling_spelled are Word text spelling spelled is = subst (Spells Word) (sym is.is) (lowered-word text spelled)
spelling_spelled are Int text spelling spelled is = value-spelled IntValue int_spelling IsIntSpelling are.ints (λ t n value. (n, value.0)) text spelling spelled is.is
spelling_spelled are Moment text spelling spelled is = value-spelled MomentValue moment_spelling IsMomentSpelling are.moments are.moment_spelled text spelling spelled is.is
spelling_spelled are Guid text spelling spelled is = value-spelled GuidValue guid_spelling (Spells Guid) are.guids (λ t guid value. (guid, value)) text spelling spelled is.is
spelling_spelled are EnumLit text spelling spelled is = subst (Spells EnumLit) (sym is.is) (trimmed-enumeration text spelled)
spelling_spelled are kind text spelling spelled is = subst (Spells kind) (sym is.is) spelled
