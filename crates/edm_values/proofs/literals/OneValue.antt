-- A text has at most one value of each kind.
use Rattle.std.proofs.Common.{◌≡◌, inl, inr, ℕ, ◌+◌, ◌-◌, ◌*◌, ◌/◌, ◌%◌, ◌^◌, ℤ, pos, negsuc, neg_ℤ, unsigned_abs, List, ◌∷◌, ◌++◌, length, take, drop, arith, refl, sym, ap, ◌∙◌, subst, length-append}
use Rattle.std.specs.Str.Parse.{digits_value}
use Rattle.std.proofs.lemmas.Option.{same_Some}
use Rattle.std.proofs.lemmas.List.{take_at, drop_at}
use Rattle.jiff.specs.Types.{Date}
use Rattle.jiff.proofs.SpanFacts.{signed_arith}
use Rattle.edm_values.specs.DateLiteral.{date_text, DateValue}
use Rattle.edm_values.specs.GuidLiteral.{GuidValue}
use Rattle.edm_values.specs.IntLiteral.{IntValue}
use Rattle.edm_values.specs.MomentLiteral.{clock_text, SecondsValue, OffsetValue, MomentValue}
use Rattle.edm_values.specs.MomentParts.{MomentParts, IsFourDigitYear}
use Rattle.edm_values.proofs.literals.Dates.{date_text-same, same_parts}
use Rattle.edm_values.proofs.literals.Guids.{parsed-GuidValue}
use Rattle.edm_values.proofs.literals.Ints.{IntNumber-same}
use Rattle.edm_values.proofs.moments.Moments.{front_is, same_clock}
use Rattle.edm_values.proofs.moments.Offsets.{offset_end}

pub IntValue-same : (text : List ℕ) (m n : ℤ) → IntValue text m → IntValue text n → m ≡ n
IntValue-same text m n first second = IntNumber-same text m n first.0 second.0

same_year : (y z : ℤ) → IsFourDigitYear y → IsFourDigitYear z → unsigned_abs y ≡ unsigned_abs z → y ≡ z
same_year (pos m) (pos n) first second same = ap (λ (k : ℕ). pos k) same
same_year (pos m) (negsuc n) first second same = absurd (omega (arith, signed_arith, second))
same_year (negsuc m) z first second same = absurd (omega (arith, signed_arith, first))

same_date_text : (a b : Date) → IsFourDigitYear a.year → IsFourDigitYear b.year
    → date_text (unsigned_abs a.year) a.month a.day ≡ date_text (unsigned_abs b.year) b.month b.day → a ≡ b
same_date_text a b first second same =
    let numbers = date_text-same (unsigned_abs a.year) a.month a.day (unsigned_abs b.year) b.month b.day same in
    same_parts a b (same_year a.year b.year first second numbers.0) numbers.1 numbers.2

pub DateValue-same : (text : List ℕ) (a b : Date) → DateValue text a → DateValue text b → a ≡ b
DateValue-same text a b first second = same_date_text a b first.0 second.0 (sym first.1 ∙ second.1)

pub GuidValue-same : (text a b : List ℕ) → GuidValue text a → GuidValue text b → a ≡ b
GuidValue-same text a b first second = same_Some a b (sym (parsed-GuidValue text a first) ∙ parsed-GuidValue text b second)

two_same : (m n : ℕ) → 48 + m / 10 ≡ 48 + n / 10 → 48 + m % 10 ≡ 48 + n % 10 → m ≡ n
two_same m n tens units = omega (arith, tens, units)

SecondsValue-same : (text : List ℕ) (s n t k : ℕ) → SecondsValue text s n → SecondsValue text t k → (s ≡ t) × (n ≡ k)
SecondsValue-same text s n t k (inl a) (inl b) = (a.1 ∙ sym b.1, a.2 ∙ sym b.2)
SecondsValue-same text s n t k (inl a) (inr (inl b)) = let e = sym a.0 ∙ b.0 in cc
SecondsValue-same text s n t k (inl a) (inr (inr b)) = let e = sym a.0 ∙ b.1 in cc
SecondsValue-same text s n t k (inr (inl a)) (inl b) = let e = sym a.0 ∙ b.0 in cc
SecondsValue-same text s n t k (inr (inl a)) (inr (inl b)) =
    let e = sym a.0 ∙ b.0 in
    let tens : 48 + s / 10 ≡ 48 + t / 10 = cc in
    let units : 48 + s % 10 ≡ 48 + t % 10 = cc in
    (two_same s t tens units, a.1 ∙ sym b.1)
SecondsValue-same text s n t k (inr (inl a)) (inr (inr b)) = let e = sym a.0 ∙ b.1 in cc
SecondsValue-same text s n t k (inr (inr a)) (inl b) = let e = sym a.1 ∙ b.0 in cc
SecondsValue-same text s n t k (inr (inr a)) (inr (inl b)) = let e = sym a.1 ∙ b.0 in cc
SecondsValue-same text s n t k (inr (inr a)) (inr (inr b)) =
    let e = sym a.1 ∙ b.1 in
    let tens : 48 + s / 10 ≡ 48 + t / 10 = cc in
    let units : 48 + s % 10 ≡ 48 + t % 10 = cc in
    let digits : a.0 ≡ b.0 = cc in
    (two_same s t tens units, a.2.2 ∙ ap (λ (xs : List ℕ). digits_value 10 xs * 10 ^ (9 - length xs)) digits ∙ sym b.2.2)

clock_same : (h m g n : ℕ) → clock_text h m ≡ clock_text g n → (h ≡ g) × (m ≡ n)
clock_same h m g n same =
    let a : 48 + h / 10 ≡ 48 + g / 10 = cc in
    let b : 48 + h % 10 ≡ 48 + g % 10 = cc in
    let c : 48 + m / 10 ≡ 48 + n / 10 = cc in
    let d : 48 + m % 10 ≡ 48 + n % 10 = cc in
    (two_same h g a b, two_same m n c d)

OffsetValue-same : (text : List ℕ) (a b : ℤ) → OffsetValue text a → OffsetValue text b → a ≡ b
OffsetValue-same text a b (inl first) (inl second) = first.1 ∙ sym second.1
OffsetValue-same text a b (inl (inl z, none)) (inr (h, m, sh, sm, inl plus)) = let e = sym z ∙ plus.0 in cc
OffsetValue-same text a b (inl (inl z, none)) (inr (h, m, sh, sm, inr minus)) = let e = sym z ∙ minus.0 in cc
OffsetValue-same text a b (inl (inr z, none)) (inr (h, m, sh, sm, inl plus)) = let e = sym z ∙ plus.0 in cc
OffsetValue-same text a b (inl (inr z, none)) (inr (h, m, sh, sm, inr minus)) = let e = sym z ∙ minus.0 in cc
OffsetValue-same text a b (inr (h, m, sh, sm, inl plus)) (inl (inl z, none)) = let e = sym z ∙ plus.0 in cc
OffsetValue-same text a b (inr (h, m, sh, sm, inr minus)) (inl (inl z, none)) = let e = sym z ∙ minus.0 in cc
OffsetValue-same text a b (inr (h, m, sh, sm, inl plus)) (inl (inr z, none)) = let e = sym z ∙ plus.0 in cc
OffsetValue-same text a b (inr (h, m, sh, sm, inr minus)) (inl (inr z, none)) = let e = sym z ∙ minus.0 in cc
OffsetValue-same text a b (inr (h, m, sh, sm, inl first)) (inr (g, n, sg, sn, inl second)) =
    let e = sym first.0 ∙ second.0 in
    let tail : clock_text h m ≡ clock_text g n = cc in
    let same = clock_same h m g n tail in
    first.1 ∙ (λ i. pos (60 * same.0 i + same.1 i)) ∙ sym second.1
OffsetValue-same text a b (inr (h, m, sh, sm, inr first)) (inr (g, n, sg, sn, inr second)) =
    let e = sym first.0 ∙ second.0 in
    let tail : clock_text h m ≡ clock_text g n = cc in
    let same = clock_same h m g n tail in
    first.1 ∙ (λ i. neg_ℤ (pos (60 * same.0 i + same.1 i))) ∙ sym second.1
OffsetValue-same text a b (inr (h, m, sh, sm, inl first)) (inr (g, n, sg, sn, inr second)) =
    let e = sym first.0 ∙ second.0 in let heads : ◌≡◌ {A = ℕ} 43 45 = cc in absurd (omega (arith, heads))
OffsetValue-same text a b (inr (h, m, sh, sm, inr first)) (inr (g, n, sg, sn, inl second)) =
    let e = sym first.0 ∙ second.0 in let heads : ◌≡◌ {A = ℕ} 45 43 = cc in absurd (omega (arith, heads))

-- a text that ends with an offset is cut there in one way
cut_same : (rest s o t p : List ℕ) (a b : ℤ) → OffsetValue o a → OffsetValue p b → rest ≡ s ++ o → rest ≡ t ++ p → (s ≡ t) × (o ≡ p)
cut_same rest s o t p a b first second cut other =
    let e = offset_end rest s o a first cut in
    let f = offset_end rest t p b second other in
    let len : length o ≡ length p =
    elim e [
      | inl zulu ↦
          elim f [
            | inl also ↦ zulu.0 ∙ sym also.0
            | inr signed ↦ elim zulu.2 [ inl z ↦ absurd (omega (arith, z, signed.1)) | inr z ↦ absurd (omega (arith, z, signed.1)) ]
          ]
      | inr signed ↦
          elim f [
            | inl zulu ↦ elim zulu.2 [ inl z ↦ absurd (omega (arith, z, signed.1)) | inr z ↦ absurd (omega (arith, z, signed.1)) ]
            | inr also ↦ signed.0 ∙ sym also.0
          ]
    ] in
    let same_length : length s ≡ length t = omega (arith, len, ap length cut, ap length other, length-append s o, length-append t p) in (
      sym (take_at s o (length t) same_length) ∙ ap (λ (xs : List ℕ). take (length t) xs) (sym cut ∙ other) ∙ take_at t p (length t) refl,
      sym (drop_at s o (length t) same_length) ∙ ap (λ (xs : List ℕ). drop (length t) xs) (sym cut ∙ other) ∙ drop_at t p (length t) refl,
    )

minutes_same : (y m d h n l z k e g j i : ℕ) → date_text y m d ++ l ∷ clock_text h n ≡ date_text z k e ++ i ∷ clock_text g j
    → (date_text y m d ≡ date_text z k e) × (clock_text h n ≡ clock_text g j)
minutes_same y m d h n l z k e g j i same =
    (ap (λ (xs : List ℕ). take 10 xs) same, ap (λ (xs : List ℕ). drop 11 xs) same)

pub MomentValue-same : (text : List ℕ) (a b : MomentParts) → MomentValue text a → MomentValue text b → a ≡ b
MomentValue-same text a b v w =
    let front = front_is text (take 16 text) (drop 16 text) a v refl refl in
    let other = front_is text (take 16 text) (drop 16 text) b w refl refl in
    let minutes = minutes_same (unsigned_abs a.civil.date.year) a.civil.date.month a.civil.date.day a.civil.time.hour a.civil.time.minute v.is_minutes.1
    (unsigned_abs b.civil.date.year) b.civil.date.month b.civil.date.day b.civil.time.hour b.civil.time.minute w.is_minutes.1
    (sym v.is_minutes.3 ∙ sym front.0 ∙ other.0 ∙ w.is_minutes.3) in
    let date = same_date_text a.civil.date b.civil.date v.is_minutes.0 w.is_minutes.0 minutes.0 in
    let clock = clock_same a.civil.time.hour a.civil.time.minute b.civil.time.hour b.civil.time.minute minutes.1 in
    let cut = cut_same (drop 16 text) v.seconds v.offset w.seconds w.offset a.offset_minutes b.offset_minutes v.is_offset w.is_offset front.1 other.1 in
    let seconds = SecondsValue-same w.seconds a.civil.time.second a.civil.time.subsec_nanosecond b.civil.time.second b.civil.time.subsec_nanosecond (subst (λ (xs : List ℕ). SecondsValue xs a.civil.time.second a.civil.time.subsec_nanosecond) cut.0 v.is_seconds) w.is_seconds in
    let offset = OffsetValue-same w.offset a.offset_minutes b.offset_minutes (subst (λ (xs : List ℕ). OffsetValue xs a.offset_minutes) cut.1 v.is_offset) w.is_offset in
    let time = same_clock a.civil.time b.civil.time clock.0 clock.1 seconds.0 seconds.1 in
    λ i. record { civil = record { date = date i; time = time i }; offset_minutes = offset i }
