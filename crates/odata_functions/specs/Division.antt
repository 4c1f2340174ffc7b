-- Quotient and remainder of whole numbers (OData URL Conventions 4.01, sections 5.1.1.2.5 and 5.1.1.2.6).
use Rattle.std.specs.Prelude.{◌≡◌, ◌⊎◌, ◌<◌, ℤ, pos, ◌+ℤ◌, ◌*ℤ◌, ◌<ℤ◌, unsigned_abs}

-- both are above zero, or both below
abbrev pub HaveOneSign : ℤ → ℤ → Type 0
HaveOneSign a b = ((pos 0 <ℤ a) × (pos 0 <ℤ b)) ⊎ ((a <ℤ pos 0) × (b <ℤ pos 0))

-- `a` divided by `b` is `quotient`, and `remainder` is left: apart from the signs less than `b`, and zero or of `a`'s
-- sign; so the quotient is cut toward zero
pub record IsDivision (a b quotient remainder : ℤ) : Type 0 where
  pub whole : a ≡ quotient *ℤ b +ℤ remainder
  pub small : unsigned_abs remainder < unsigned_abs b
  pub sign : (remainder ≡ pos 0) ⊎ HaveOneSign a remainder
