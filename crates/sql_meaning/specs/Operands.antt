-- What an operator of SQL takes of its operands. Each is evaluated, also one that the result does not depend on: what
-- has a value has it in whatever order an engine works.
use Rattle.std.specs.Prelude.{◌≡◌, ℤ, Bool, Option, Some, None}
use Rattle.edm_values.specs.Val.{Val, null, boolean, whole, member}
use Rattle.odata_filter_operations.specs.Outcome.{Outcome, gives}

-- a truth value, None for null; nothing else is one
abbrev pub OfTruth : (Option Bool → Outcome → Type 0) → Outcome → Outcome → Type 0
OfTruth Goes (gives null) o = Goes None o
OfTruth Goes (gives (boolean b)) o = Goes (Some b) o
OfTruth Goes _ o = ⊥

-- a number, None for null
abbrev pub OfNumber : (Option ℤ → Outcome → Type 0) → Outcome → Outcome → Type 0
OfNumber Goes (gives null) o = Goes None o
OfNumber Goes (gives (whole n)) o = Goes (Some n) o
OfNumber Goes _ o = ⊥

-- a number of an enumeration, None for null
abbrev pub OfMember : (Option ℤ → Outcome → Type 0) → Outcome → Outcome → Type 0
OfMember Goes (gives null) o = Goes None o
OfMember Goes (gives (member n)) o = Goes (Some n) o
OfMember Goes _ o = ⊥

-- a value that is no fault
abbrev pub OfValue : (Val → Outcome → Type 0) → Outcome → Outcome → Type 0
OfValue Goes (gives v) o = Goes v o
OfValue Goes _ o = ⊥

-- some value of an operand, and what comes of it
abbrev pub Over : (Outcome → Type 0) → (Outcome → Outcome → Type 0) → Outcome → Type 0
Over Operand Goes o = (x : Outcome) × Operand x × Goes x o

-- null where a number is null
abbrev pub BothNumbers : Option ℤ → Option ℤ → (ℤ → ℤ → Outcome → Type 0) → Outcome → Type 0
BothNumbers (Some a) (Some b) Goes o = Goes a b o
BothNumbers (Some a) None Goes o = o ≡ gives null
BothNumbers None right Goes o = o ≡ gives null
