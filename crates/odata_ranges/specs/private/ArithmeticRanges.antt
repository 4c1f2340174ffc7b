-- For private clauses: where remainders lie.
use Rattle.std.specs.Prelude.{◌⊎◌, ℤ, pos, neg_ℤ, ◌<ℤ◌, ◌≤ℤ◌}

-- a remainder is of the dividend's sign, and no farther from 0 than that and than a bound
abbrev pub IsNear : ℤ → ℤ → ℤ → Type 0
IsNear a r most =
    (neg_ℤ most ≤ℤ r) × (r ≤ℤ most)
    × (((pos 0 ≤ℤ r) × (r ≤ℤ a)) ⊎ ((a <ℤ pos 0) × (a ≤ℤ r) × (r ≤ℤ pos 0)))
