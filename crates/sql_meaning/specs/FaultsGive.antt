-- Faults as values that an engine carries, and their codes.
use Rattle.std.specs.Prelude.{◌≡◌, ◌⊎◌, pos}
use Rattle.edm_values.specs.Val.{null, whole}
use Rattle.odata_functions.specs.declared.arithmetic.ArithFault.{ArithFault}
use Rattle.odata_functions.specs.declared.arithmetic.ArithFault.TheVariants.{Overflow, DivideByZero}
use Rattle.odata_filter_operations.specs.Outcome.{Outcome, gives, overflow, divides_by_zero}

abbrev pub outcome_of_fault : ArithFault → Outcome
outcome_of_fault Overflow = overflow
outcome_of_fault DivideByZero = divides_by_zero

-- 3 or 4, and null for what is no fault
abbrev pub fault_code : Outcome → Outcome
fault_code overflow = gives (whole (pos 3))
fault_code divides_by_zero = gives (whole (pos 4))
fault_code (gives v) = gives null

-- the fault of a code, null for null
abbrev pub FaultOfCode : Outcome → Outcome → Type 0
FaultOfCode (gives null) o = o ≡ gives null
FaultOfCode (gives (whole n)) o = ((n ≡ pos 3) × (o ≡ overflow)) ⊎ ((n ≡ pos 4) × (o ≡ divides_by_zero))
FaultOfCode _ o = ⊥

-- the value, and null for a fault
abbrev pub without_fault : Outcome → Outcome
without_fault (gives v) = gives v
without_fault overflow = gives null
without_fault divides_by_zero = gives null
