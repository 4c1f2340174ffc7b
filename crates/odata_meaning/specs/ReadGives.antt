-- What a String literal evaluates to that is read as a literal of an enumeration (OData URL Conventions 4.01, section
-- 5.1.1.1).
use Rattle.std.specs.Prelude.{◌≡◌, ◌⊎◌, ℤ}
use Rattle.edm_values.specs.Val.{member}
use Rattle.odata_filter_operations.specs.Outcome.{Outcome, gives}

-- that number of the enumeration
abbrev pub GivesMember : ℤ → Outcome → Type 0
GivesMember n o = o ≡ gives (member n)

-- what is given of the number that is read; where none is, what is given else
abbrev pub UnlessRead : (ℤ → Type 0) → (ℤ → Outcome → Type 0) → (Outcome → Type 0) → Outcome → Type 0
UnlessRead Reads Given Else o = ((n : ℤ) × Reads n × Given n o) ⊎ (((n : ℤ) → ¬ Reads n) × Else o)

-- an operand: the number that is read there, where one is; else what its tree evaluates to by itself
abbrev pub OperandGives : (ℤ → Type 0) → (Outcome → Type 0) → Outcome → Type 0
OperandGives Reads Alone = UnlessRead Reads GivesMember Alone
