-- Offsets of Moment literals.
use Rattle.std.proofs.Common.{◌≡◌, ◌⊎◌, inl, inr, ℕ, suc, ◌+◌, ◌-◌, ◌%◌, ◌<◌, ◌≤◌, ℤ, pos, neg_ℤ, ◌-ℤ◌, List, ◌∷◌, ◌++◌, length, get_or, arith, ap, ◌∙◌, length-append, FitsSigned}
use mir.Val.{to_z, of_z}
use Rattle.std.specs.Int.{w16}
use Rattle.std.proofs.lemmas.Int.{ints, to_z-of_z}
use Rattle.jiff.proofs.SpanFacts.{signed_arith}
use Rattle.std.proofs.lemmas.List.{get_or-append-add}
use Rattle.std.proofs.lemmas.Slice.Eq.{text_from_reads}
use Rattle.edm_values.specs.MomentLiteral.{clock_text, OffsetValue}
use Rattle.edm_values.specs.private.MomentLiteral.{AreClockDigits}
use Rattle.edm_values.specs.MomentParts.{IsOffset}

-- the bytes of `+hh:mm` or `-hh:mm`
pub signed_clock : (text : List ℕ) (sign hours minutes : ℕ) → length text ≡ 6 → get_or text 0 0 ≡ sign → get_or text 3 0 ≡ 58
    → AreClockDigits (get_or text 1 0) (get_or text 2 0) (get_or text 4 0) (get_or text 5 0) hours minutes
    → text ≡ sign ∷ clock_text hours minutes
signed_clock text sign hours minutes len first colon digits =
    text_from_reads text (sign ∷ clock_text hours minutes) len (first, (digits.0, (digits.1, (colon, (digits.2, (digits.3, tt))))))

-- the code's negation of fewer minutes than a day has
pub minutes_negated : (n : ℤ) (minutes : ℕ) → minutes < 1440 → n ≡ pos minutes
    → to_z w16 (of_z w16 (pos 0 -ℤ to_z w16 (of_z w16 n))) ≡ neg_ℤ (pos minutes)
minutes_negated n minutes small same = omega (arith, ints)

-- an offset is less than a day
pub OffsetValue-within : (text : List ℕ) (minutes : ℤ) → OffsetValue text minutes → IsOffset minutes
OffsetValue-within text minutes (inl zulu) = (omega (arith, signed_arith, zulu.1), omega (arith, signed_arith, zulu.1))
OffsetValue-within text minutes (inr (h, m, small_h, small_m, inl plus)) =
    (omega (arith, signed_arith, plus.1, small_h, small_m), omega (arith, signed_arith, plus.1, small_h, small_m))
OffsetValue-within text minutes (inr (h, m, small_h, small_m, inr minus)) =
    (omega (arith, signed_arith, minus.1, small_h, small_m), omega (arith, signed_arith, minus.1, small_h, small_m))

-- the code's casts keep it
pub offset_kept : (text : List ℕ) (minutes : ℤ) → OffsetValue text minutes → to_z w16 (of_z w16 minutes) ≡ minutes
offset_kept text minutes value =
    let within = OffsetValue-within text minutes value in
    let fits : FitsSigned w16 minutes = omega (arith, signed_arith, within) in
    to_z-of_z w16 minutes fits

-- and keep the minutes after a plus
pub ahead_kept : (n : ℤ) (minutes : ℕ) → minutes < 1440 → n ≡ pos minutes → to_z w16 (of_z w16 n) ≡ pos minutes
ahead_kept n minutes small same = omega (arith, ints)

-- the last byte of a text is that of its end
last_byte : (text before end : List ℕ) (k : ℕ) → text ≡ before ++ end → length end ≡ suc k → get_or text (length text - 1) 0 ≡ get_or end k 0
last_byte text before end k same len =
    let place : length text - 1 ≡ length before + k = omega (arith, ap length same, length-append before end, len) in
    rw place (ap (λ (xs : List ℕ). get_or xs (length before + k) 0) same ∙ get_or-append-add before end k 0)

-- its length, by the last byte of a text that ends with it
pub offset_end : (text before offset : List ℕ) (minutes : ℤ) → OffsetValue offset minutes → text ≡ before ++ offset
    → ((length offset ≡ 1) × (1 ≤ length text) × ((get_or text (length text - 1) 0 ≡ 90) ⊎ (get_or text (length text - 1) 0 ≡ 122)))
    ⊎ ((length offset ≡ 6) × (get_or text (length text - 1) 0 < 58))
offset_end text before offset minutes (inl (inl big, none)) same =
    let len : length offset ≡ 1 = ap length big in
    inl (len, omega (arith, ap length same, length-append before offset, len), inl (last_byte text before offset 0 same len ∙ ap (λ (xs : List ℕ). get_or xs 0 0) big))
offset_end text before offset minutes (inl (inr small, none)) same =
    let len : length offset ≡ 1 = ap length small in
    inl (len, omega (arith, ap length same, length-append before offset, len), inr (last_byte text before offset 0 same len ∙ ap (λ (xs : List ℕ). get_or xs 0 0) small))
offset_end text before offset minutes (inr (h, m, small_h, small_m, inl plus)) same =
    let len : length offset ≡ 6 = ap length plus.0 in
    let last : get_or text (length text - 1) 0 ≡ 48 + m % 10 = last_byte text before offset 5 same len ∙ ap (λ (xs : List ℕ). get_or xs 5 0) plus.0 in
    inr (len, omega (arith, last))
offset_end text before offset minutes (inr (h, m, small_h, small_m, inr minus)) same =
    let len : length offset ≡ 6 = ap length minus.0 in
    let last : get_or text (length text - 1) 0 ≡ 48 + m % 10 = last_byte text before offset 5 same len ∙ ap (λ (xs : List ℕ). get_or xs 5 0) minus.0 in
    inr (len, omega (arith, last))
