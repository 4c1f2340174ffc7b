-- What an expression evaluates to on one entity (OData URL Conventions 4.01, section 5.1.1).
use Rattle.edm_values.specs.Val.{Val}

-- a value, or the fault of an arithmetic operator
pub data Outcome : Type 0 where
  gives : Val → Outcome
  overflow : Outcome
  divides_by_zero : Outcome

-- the outcome is a value, and the fact holds of it
abbrev pub GivesSome : (Val → Type 0) → Outcome → Type 0
GivesSome P (gives v) = P v
GivesSome P overflow = ⊥
GivesSome P divides_by_zero = ⊥

-- no outcome at all
abbrev pub NoOutcome : Outcome → Type 0
NoOutcome o = ⊥
