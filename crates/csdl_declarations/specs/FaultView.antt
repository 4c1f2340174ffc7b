-- A refusal of the code, as a fault.
use Rattle.std.specs.Prelude.{◌≡◌, List, [], ◌∷◌, Option, Some, None, Result, Ok, Err, string_bytes}
use Rattle.csdl_declarations.specs.declared.schema_fault.SchemaFault.{SchemaFault}
use Rattle.csdl_declarations.specs.declared.schema_fault.SchemaFault.TheVariants as code
use Rattle.csdl_declarations.specs.Fault.{Fault, not_json, not_object, version, bad_type, bad_property, unknown_base, base_cycle, property_twice, bad_enum_member, too_large}

-- none when out of memory
abbrev pub fault_of : SchemaFault → Option Fault
fault_of code.NotJson = Some not_json
fault_of code.NotObject = Some not_object
fault_of code.Version = Some version
fault_of (code.BadType name) = Some (bad_type (string_bytes name))
fault_of (code.BadProperty owner name) = Some (bad_property (string_bytes owner) (string_bytes name))
fault_of (code.UnknownBase owner) = Some (unknown_base (string_bytes owner))
fault_of (code.BaseCycle owner) = Some (base_cycle (string_bytes owner))
fault_of (code.PropertyTwice owner name) = Some (property_twice (string_bytes owner) (string_bytes name))
fault_of (code.BadEnumMember owner name) = Some (bad_enum_member (string_bytes owner) (string_bytes name))
fault_of code.TooLarge = Some too_large
fault_of code.Memory = None

-- the refusal is the first of the faults
abbrev pub IsFirstOf : List Fault → Option Fault → Type 0
IsFirstOf faults None = Unit {0}
IsFirstOf faults (Some fault) = (later : List Fault) × (faults ≡ fault ∷ later)

-- a part of the reading: no faults and the right answer, or the first fault
abbrev pub Reads : {X : Type 0} → Result X SchemaFault → List Fault → (X → Type 0) → Type 0
Reads (Ok x) faults IsRight = (faults ≡ []) × IsRight x
Reads (Err e) faults IsRight = IsFirstOf faults (fault_of e)
