-- Values of single literals that are known.
use Rattle.std.specs.Prelude.{◌≡◌, ℕ, pos, neg_ℤ, List, [], ◌∷◌}
use Rattle.edm_values.specs.Civil.{IsYmd, IsHms}
use Rattle.edm_values.specs.MomentParts.{MomentParts}

-- midnight at the start of 2020, in UTC
abbrev pub IsNewYear : MomentParts → Type 0
IsNewYear m =
    IsYmd (pos 2020) (pos 1) (pos 1) m.civil.date × IsHms (pos 0) (pos 0) (pos 0) (pos 0) m.civil.time
    × (m.offset_minutes ≡ pos 0)

-- 120 milliseconds into the last minute of a leap day, by a clock five and a half hours west of UTC
abbrev pub IsLeapDay : MomentParts → Type 0
IsLeapDay m =
    IsYmd (pos 2020) (pos 2) (pos 29) m.civil.date × IsHms (pos 23) (pos 59) (pos 0) (pos 120_000_000) m.civil.time
    × (m.offset_minutes ≡ neg_ℤ (pos 330))

-- the digits 0 to F, twice
abbrev pub counting_bytes : List ℕ
counting_bytes =
    0x01 ∷ 0x23 ∷ 0x45 ∷ 0x67 ∷ 0x89 ∷ 0xAB ∷ 0xCD ∷ 0xEF ∷ 0x01 ∷ 0x23 ∷ 0x45 ∷ 0x67 ∷ 0x89 ∷ 0xAB ∷ 0xCD ∷ 0xEF ∷ []
