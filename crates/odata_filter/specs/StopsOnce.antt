-- What can be said of a run once only.
use Rattle.std.specs.Prelude.{◌≡◌}
use Rattle.filter_runs.specs.declared.run_fault.RunFault.{RunFault}
use Rattle.fault_numbers.specs.FaultNumbers.{flaw_reported}

-- a fault of a row or of its line, and of no device
abbrev pub IsOfRow : RunFault → Type 0
IsOfRow (RunFault.Json line) = Unit {0}
IsOfRow (RunFault.Row line fault) = Unit {0}
IsOfRow (RunFault.Arithmetic line fault) = Unit {0}
IsOfRow (RunFault.LineTooLong line) = Unit {0}
IsOfRow _ = ⊥

-- a fault of a document or of one of its items, and of no device
abbrev pub IsOfDocument : RunFault → Type 0
IsOfDocument RunFault.NotACollection = Unit {0}
IsOfDocument (RunFault.Row line fault) = Unit {0}
IsOfDocument (RunFault.Arithmetic line fault) = Unit {0}
IsOfDocument _ = ⊥

-- the same fault, in the same line or of the same item
abbrev pub AreSameFault : RunFault → RunFault → Type 0
AreSameFault (RunFault.Json m) (RunFault.Json n) = m ≡ n
AreSameFault (RunFault.Row m f) (RunFault.Row n g) = (m ≡ n) × (flaw_reported f ≡ flaw_reported g)
AreSameFault (RunFault.Arithmetic m f) (RunFault.Arithmetic n g) = (m ≡ n) × (f ≡ g)
AreSameFault (RunFault.LineTooLong m) (RunFault.LineTooLong n) = m ≡ n
AreSameFault RunFault.NotACollection RunFault.NotACollection = Unit {0}
AreSameFault _ _ = ⊥
