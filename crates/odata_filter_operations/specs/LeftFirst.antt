-- Operands are evaluated from the left, and the first fault is the outcome (OData URL Conventions 4.01, section 5.1.1).
use Rattle.std.specs.Prelude.{◌≡◌}
use Rattle.edm_values.specs.Val.{Val}
use Rattle.odata_filter_operations.specs.Outcome.{Outcome, gives, overflow, divides_by_zero}

-- what follows a first outcome: a value goes on, a fault stays
abbrev pub Then : Outcome → (Val → Outcome → Type 0) → Outcome → Type 0
Then (gives v) Goes o = Goes v o
Then overflow Goes o = o ≡ overflow
Then divides_by_zero Goes o = o ≡ divides_by_zero

-- some outcome of the operand, and what follows it
abbrev pub After : (Outcome → Type 0) → (Val → Outcome → Type 0) → Outcome → Type 0
After Operand Goes o = (first : Outcome) × (Operand first × Then first Goes o)
