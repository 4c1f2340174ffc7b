-- The whole seconds of a moment's instant.
use Rattle.std.specs.Prelude.{◌≡◌, ℤ, pos, neg_ℤ, ◌+ℤ◌, ◌-ℤ◌, ◌*ℤ◌}
use Rattle.edm_values.specs.Civil.{DateTime, IsBetween, epoch_day}
use Rattle.edm_values.specs.Instant.{second_of_day}
use Rattle.edm_values.specs.MomentParts.{IsMoment}

-- seconds since 1970-01-01T00:00:00Z, the fraction left out
unfoldable pub instant_seconds : DateTime → ℤ → ℤ
instant_seconds civil offset_minutes =
    pos 86_400 *ℤ epoch_day civil.date +ℤ pos (second_of_day civil.time) -ℤ pos 60 *ℤ offset_minutes

-- the parts of a moment, with the seconds of its instant, which are fewer than those of 20,000 years
pub record CountsSeconds (civil : DateTime) (offset_minutes seconds : ℤ) : Type 0 where
  pub within : IsMoment civil offset_minutes
  pub counted : seconds ≡ instant_seconds civil offset_minutes
  pub few : IsBetween (neg_ℤ (pos 600_000_000_000)) (pos 600_000_000_000) seconds
