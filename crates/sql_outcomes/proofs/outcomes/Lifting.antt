-- Faults of operands: the first one is what comes of the whole.
use Rattle.sql_outcomes.proofs.Common.{inl, inr, refl, null, Outcome, gives, overflow, divides_by_zero, FaultOfCode, fault_code, FirstGiven, fault_else}
use Rattle.sql_outcomes.proofs.outcomes.CodeTables.{coded}

-- a fault, and null for a value
abbrev pub fault_or_null : Outcome → Outcome
fault_or_null (gives v) = gives null
fault_or_null overflow = overflow
fault_or_null divides_by_zero = divides_by_zero

pub fault_again : (x : Outcome) → FaultOfCode (fault_code x) (fault_or_null x)
fault_again (gives v) = refl
fault_again overflow = inl (refl, refl)
fault_again divides_by_zero = inr (refl, refl)

-- the fault of a carrier, or the rest
pub fault_first : (x rest : Outcome) → FirstGiven (fault_or_null x) rest (fault_else x rest)
fault_first (gives v) rest = refl
fault_first _ rest = refl

-- the code of a fault, or the rest
pub fault_code_first : (x rest : Outcome) → FirstGiven (fault_code x) (coded rest) (coded (fault_else x rest))
fault_code_first (gives v) rest = refl
fault_code_first _ rest = refl
