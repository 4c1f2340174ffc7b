-- Faults of the code as outcomes.
use Rattle.std.specs.Prelude.{Option, Some, None}
use Rattle.odata_filter_operations.specs.declared.eval_fault.EvalFault.{EvalFault}
use Rattle.odata_filter_operations.specs.Outcome.{Outcome, overflow, divides_by_zero}

-- the outcome that a fault reports; none when out of memory
abbrev pub fault_outcome : EvalFault → Option Outcome
fault_outcome EvalFault.Overflow = Some overflow
fault_outcome EvalFault.DivideByZero = Some divides_by_zero
fault_outcome EvalFault.Memory = None
