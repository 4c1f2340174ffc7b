-- What is written of a moment is read again.
use Rattle.std.proofs.Common.{◌≡◌, inl, inr, ℕ, zero, suc, ◌+◌, ◌*◌, ◌/◌, ◌%◌, ◌^◌, ◌<◌, ℤ, pos, negsuc, neg_ℤ, List, ◌∷◌, ◌++◌, arith, refl, sym, ap, ◌∙◌}
use Rattle.std.proofs.lemmas.Bool.Decides.{eqb_tells}
use Rattle.jiff.proofs.SpanFacts.{signed_arith}
use Rattle.edm_values.specs.DateLiteral.{two_digits, date_spelling}
use Rattle.edm_values.specs.MomentParts.{MomentParts, IsMoment, IsOffset}
use Rattle.edm_values.specs.MomentLiteral.{clock_text, SecondsValue, OffsetValue, MomentValue, significant_digits, fraction_text, offset_text, moment_spelling, IsSecondsSpelling, IsOffsetSpelling, IsMomentSpelling}
use Rattle.edm_values.proofs.literals.Dates.{IsDateSpelling-date}
use Rattle.edm_values.proofs.moments.FractionDigits.{are-significant_digits, some-significant_digits}

-- the canonical fraction has its value
seconds_back : (second nanosecond : ℕ) → nanosecond < 10 ^ 9 → SecondsValue (58 ∷ two_digits second ++ fraction_text nanosecond) second nanosecond
seconds_back second nanosecond below =
    elim (eqb_tells nanosecond 0) [
      | inl none ↦ rw none.0 (inr (inl (refl, none.1)))
      | inr some ↦
          let digits = are-significant_digits 9 nanosecond below in
          rw some.0 (inr (inr (
            significant_digits 9 nanosecond,
            refl,
            ((some-significant_digits 8 nanosecond some.1, digits.all_digits), digits.few, sym digits.value),
          )))
    ]

-- the canonical offset has its value
offset_back : (minutes : ℤ) → IsOffset minutes → OffsetValue (offset_text minutes) minutes
offset_back (pos zero) within = inl (inl refl, refl)
offset_back (pos (suc n)) within =
    let small : suc n < 1440 = omega (arith, signed_arith, within) in
    let whole : 60 * (suc n / 60) + suc n % 60 ≡ suc n = omega arith in
    inr (suc n / 60, suc n % 60, omega (arith, small), omega arith, inl (refl, ap (λ (k : ℕ). pos k) (sym whole)))
offset_back (negsuc n) within =
    let small : suc n < 1440 = omega (arith, signed_arith, within) in
    let whole : 60 * (suc n / 60) + suc n % 60 ≡ suc n = omega arith in
    inr (suc n / 60, suc n % 60, omega (arith, small), omega arith, inr (refl, ap (λ (k : ℕ). neg_ℤ (pos k)) (sym whole)))

pub MomentValue-spelling : (m : MomentParts) → IsMoment m.civil m.offset_minutes → MomentValue (moment_spelling m) m
MomentValue-spelling m within = record {
  minutes = date_spelling m.civil.date ++ 84 ∷ clock_text m.civil.time.hour m.civil.time.minute;
  seconds = 58 ∷ two_digits m.civil.time.second ++ fraction_text m.civil.time.subsec_nanosecond;
  offset = offset_text m.offset_minutes;
  spelled = refl;
  is_minutes = (within.0, 84, inl refl, refl);
  is_seconds = seconds_back m.civil.time.second m.civil.time.subsec_nanosecond (omega (arith, m.civil.time.subsec_in));
  is_offset = offset_back m.offset_minutes within.1;
}

seconds_spelled : (text : List ℕ) (second nanosecond : ℕ) → second < 100 → SecondsValue text second nanosecond → IsSecondsSpelling text
seconds_spelled text second nanosecond small (inl none) = inl none.0
seconds_spelled text second nanosecond small (inr (inl whole)) = inr (second, small, inl whole.0)
seconds_spelled text second nanosecond small (inr (inr (digits, spelled, value))) = inr (second, small, inr (digits, value.0, spelled))

offset_spelled : (text : List ℕ) (minutes : ℤ) → OffsetValue text minutes → IsOffsetSpelling text
offset_spelled text minutes (inl (inl big, none)) = inl big
offset_spelled text minutes (inl (inr small, none)) = inr (inl small)
offset_spelled text minutes (inr (h, m, small_h, small_m, inl plus)) =
    inr (inr (43, clock_text h m, inl refl, (h, m, omega (arith, small_h), omega (arith, small_m), refl), plus.0))
offset_spelled text minutes (inr (h, m, small_h, small_m, inr minus)) =
    inr (inr (45, clock_text h m, inr refl, (h, m, omega (arith, small_h), omega (arith, small_m), refl), minus.0))

pub IsMomentSpelling-value : (text : List ℕ) (m : MomentParts) → MomentValue text m → IsMomentSpelling text
IsMomentSpelling-value text m v = record {
  date = date_spelling m.civil.date;
  letter = v.is_minutes.1;
  clock = clock_text m.civil.time.hour m.civil.time.minute;
  seconds = v.seconds;
  offset = v.offset;
  spelled = v.spelled ∙ ap (λ (xs : List ℕ). xs ++ (v.seconds ++ v.offset)) v.is_minutes.3;
  is_date = IsDateSpelling-date m.civil.date v.is_minutes.0;
  is_letter = v.is_minutes.2;
  is_clock = (m.civil.time.hour, m.civil.time.minute, omega (arith, m.civil.time.hour_in), omega (arith, m.civil.time.minute_in), refl);
  is_seconds = seconds_spelled v.seconds m.civil.time.second m.civil.time.subsec_nanosecond (omega (arith, m.civil.time.second_in)) v.is_seconds;
  is_offset = offset_spelled v.offset m.offset_minutes v.is_offset;
}
