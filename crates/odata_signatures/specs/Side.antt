-- What stands on a side of an operator (OData URL Conventions 4.01, section 5.1.1.1).
use Rattle.std.specs.Prelude.{ℕ, List, Option}
use Rattle.csdl_schema.specs.ExprType.{ExprType}

-- an operand as an operator takes it: its type and, where it is a String literal, how that is spelled
pub record Side : Type 0 where
  pub type_of : ExprType
  pub quoted : Option (List ℕ)

-- a side of the type, with what it quotes
abbrev pub quoting : Option (List ℕ) → ExprType → Side
quoting quoted type = record { type_of = type; quoted = quoted }
