-- A refusal of the code, as a fault.
use Rattle.std.specs.Prelude.{◌≡◌, IfSome}
use Rattle.csdl_declarations.specs.declared.schema_fault.SchemaFault.{SchemaFault}
use Rattle.csdl_declarations.specs.Fault.{Fault}
use Rattle.csdl_declarations.specs.FaultView.{fault_of}

-- the refusal reports this fault, or running out of memory
abbrev pub ReportsFault : SchemaFault → Fault → Type 0
ReportsFault e fault = IfSome (fault_of e) (λ reported. reported ≡ fault)
