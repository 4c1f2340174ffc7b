-- The point in time of a moment, and the order of moments (OData URL Conventions 4.01, 5.1.1.1).
use Rattle.std.specs.Prelude.{ℕ, ◌+◌, ◌*◌, ℤ, pos, ◌+ℤ◌, ◌-ℤ◌, ◌*ℤ◌}
use Rattle.std.specs.declared.cmp.Ordering.{Ordering}
use Rattle.std.specs.Ordering.{on, then_cmp, int_cmp}
use Rattle.edm_values.specs.Civil.{Time, epoch_day}
use Rattle.edm_values.specs.MomentParts.{MomentParts}

-- seconds since midnight
abbrev pub second_of_day : Time → ℕ
second_of_day t = 3_600 * t.hour + 60 * t.minute + t.second

-- nanoseconds since 1970-01-01T00:00:00Z
unfoldable pub instant : MomentParts → ℤ
instant m =
    (pos 86_400 *ℤ epoch_day m.civil.date +ℤ pos (second_of_day m.civil.time) -ℤ pos 60 *ℤ m.offset_minutes)
    *ℤ pos 1_000_000_000 +ℤ pos m.civil.time.subsec_nanosecond

-- how far ahead of UTC the clock is
abbrev pub offset_of : MomentParts → ℤ
offset_of m = m.offset_minutes

-- the earlier instant is the lesser; of equal instants the lesser offset
abbrev pub moment_cmp : MomentParts → MomentParts → Ordering
moment_cmp = then_cmp (on instant int_cmp) (on offset_of int_cmp)
