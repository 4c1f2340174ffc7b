-- The instant of a moment, by the nanoseconds on its clock.
use Rattle.std.proofs.Common.{◌≡◌, refl, ℤ, pos, neg_ℤ, ◌+ℤ◌, ◌-ℤ◌, ◌*ℤ◌, ◌∙◌, arith, FitsSigned}
use Rattle.std.specs.Int.{w64, w128}
use Rattle.std.specs.declared.cmp.Ordering.{Ordering}
use Rattle.std.specs.declared.cmp.Ordering.TheVariants.{Less, Equal, Greater}
use Rattle.std.specs.Ordering.{ordering_then, int_cmp}
use Rattle.std.proofs.lemmas.Cmp.{int_ranked}
use Rattle.jiff.proofs.Family.{same_datetime}
use mir.Val.{to_z, of_z}
use Rattle.std.proofs.lemmas.Int.{ints, to_z-of_z}
use Rattle.jiff.proofs.SpanFacts.{signed_arith}
use Rattle.jiff.specs.Words.{civil_nanos, IsCivilNanos, civil_seconds}
use Rattle.edm_values.specs.Instant.{instant, moment_cmp}
use Rattle.edm_values.specs.MomentParts.{MomentParts, IsMoment}
use Rattle.edm_values.specs.Civil.{DateTime, IsBetween}
use Rattle.edm_values.specs.private.Moment.{CountsSeconds, instant_seconds}

pub instant-civil_nanos : (m : MomentParts) → instant m ≡ civil_nanos m.civil -ℤ (m.offset_minutes *ℤ pos 60_000_000_000)
unfolding instant civil_nanos
instant-civil_nanos m = omega (arith, ints)

-- the seconds that the code counts with 64 bits
pub seconds_computed : (civil : DateTime) (offset_minutes on_clock minutes : ℤ) → IsMoment civil offset_minutes
    → on_clock ≡ civil_seconds civil → IsCivilNanos (on_clock *ℤ pos 1_000_000_000) → minutes ≡ offset_minutes
    → CountsSeconds civil offset_minutes (to_z w64 (of_z w64 (to_z w64 (of_z w64 on_clock) -ℤ to_z w64 (of_z w64 (to_z w64 (of_z w64 minutes) *ℤ pos 60)))))
unfolding instant_seconds civil_seconds
seconds_computed civil offset_minutes on_clock minutes within is_clock bound is_offset =
    let clock_fits : FitsSigned w64 on_clock = omega (arith, signed_arith) in
    let minutes_fit : FitsSigned w64 minutes = omega (arith, signed_arith) in
    let product_fits : FitsSigned w64 (minutes *ℤ pos 60) = omega (arith, signed_arith) in
    let difference_fits : FitsSigned w64 (on_clock -ℤ (minutes *ℤ pos 60)) = omega (arith, signed_arith) in
    let counted : on_clock -ℤ (minutes *ℤ pos 60) ≡ instant_seconds civil offset_minutes = omega (arith, ints, is_clock, is_offset) in
    let few : IsBetween (neg_ℤ (pos 600_000_000_000)) (pos 600_000_000_000) (on_clock -ℤ (minutes *ℤ pos 60)) =
    (omega (arith, signed_arith), omega (arith, signed_arith)) in
    rw (to_z-of_z w64 on_clock clock_fits, to_z-of_z w64 minutes minutes_fit, to_z-of_z w64 _ product_fits, to_z-of_z w64 _ difference_fits)
    (record { within = within; counted = counted; few = few })

-- the instant that it computes with 128 bits
pub nanos_computed : (m : MomentParts) (seconds whole fraction : ℤ) → CountsSeconds m.civil m.offset_minutes seconds
    → whole ≡ to_z w64 (of_z w64 seconds) → fraction ≡ pos m.civil.time.subsec_nanosecond
    → to_z w128 (of_z w128 (to_z w128 (of_z w128 (to_z w128 (of_z w128 whole) *ℤ pos 1_000_000_000)) +ℤ to_z w128 (of_z w128 fraction))) ≡ instant m
unfolding instant instant_seconds
nanos_computed m seconds whole fraction timed is_whole is_fraction =
    let seconds_fit : FitsSigned w64 seconds = omega (arith, signed_arith, timed.few) in
    let kept : whole ≡ seconds = is_whole ∙ to_z-of_z w64 seconds seconds_fit in
    let whole_fits : FitsSigned w128 whole = omega (arith, signed_arith, timed.few, kept) in
    let fraction_fits : FitsSigned w128 fraction = omega (arith, signed_arith, m.civil.time.subsec_in) in
    let product_fits : FitsSigned w128 (whole *ℤ pos 1_000_000_000) = omega (arith, signed_arith, timed.few, kept) in
    let sum_fits : FitsSigned w128 (whole *ℤ pos 1_000_000_000 +ℤ fraction) = omega (arith, signed_arith, timed.few, kept, m.civil.time.subsec_in) in
    rw (to_z-of_z w128 whole whole_fits, to_z-of_z w128 fraction fraction_fits, to_z-of_z w128 _ product_fits, to_z-of_z w128 _ sum_fits)
    (rw (kept ∙ timed.counted, is_fraction) refl)

int_cmp-equal : (x y : ℤ) → int_cmp x y ≡ Equal → x ≡ y
int_cmp-equal x y equal = rw equal at (int_ranked x y (int_cmp x y) refl)

both_equal : (first second : Ordering) → ordering_then first second ≡ Equal → (first ≡ Equal) × (second ≡ Equal)
both_equal Less second h = cc
both_equal Equal second h = (refl, h)
both_equal Greater second h = cc

-- moments of one rank have the same parts
pub moment_cmp-equal : (a b : MomentParts) → moment_cmp a b ≡ Equal → a ≡ b
moment_cmp-equal a b equal =
    let both = both_equal (int_cmp (instant a) (instant b)) (int_cmp a.offset_minutes b.offset_minutes) equal in
    let same_instant = int_cmp-equal (instant a) (instant b) both.0 in
    let offset = int_cmp-equal a.offset_minutes b.offset_minutes both.1 in
    let clock : civil_nanos a.civil ≡ civil_nanos b.civil = omega (arith, ints, instant-civil_nanos a, instant-civil_nanos b, same_instant, offset) in
    let civil = same_datetime a.civil b.civil clock in
    λ i. record { civil = civil i; offset_minutes = offset i }
