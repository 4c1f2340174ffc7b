-- The results of reading a schema and of finding a type.
use Rattle.std.specs.Prelude.{◌≡◌, ◌≢◌, ℕ, IsUtf8, List, [], Some, string_bytes}
use Rattle.csdl_declarations.specs.declared.schema_fault.SchemaFault.{SchemaFault}
use Rattle.csdl_schema.specs.Document.{IsSchemaFault, StandsFor}
use Rattle.csdl_schema.specs.SchemaModel.{IsEntityAt, index_named}
use Rattle.call_handles.specs.Kinds.{IsSchema}
use Rattle.call_handles.specs.declared.call_fault.Fault.{Fault}
use Rattle.call_handles.specs.declared.handle.Handle.{Handle}

-- the schema that the document stands for
abbrev pub IsSchemaOf : List ℕ → Handle → Type 0
IsSchemaOf document (Handle.Schema held) = StandsFor document held.schema.value
IsSchemaOf document handle = ⊥

-- why there is none: the document's fault, or no memory for the handle
abbrev pub IsNoSchema : List ℕ → Fault → Type 0
IsNoSchema document (Fault.Schema fault) = (fault ≢ SchemaFault.Memory) × IsSchemaFault document fault
IsNoSchema document Fault.Memory = Unit {0}
IsNoSchema document fault = ⊥

-- the entity type of that name in that schema
abbrev pub IsTypeOf : Handle → List ℕ → Handle → Type 0
IsTypeOf (Handle.Schema held) name (Handle.Type made) =
    (made.schema ≡ held.schema.value) × (index_named held.schema.value name ≡ Some made.id)
IsTypeOf given name handle = ⊥

-- why there is none
abbrev pub IsNoType : Handle → List ℕ → Fault → Type 0
IsNoType given name Fault.OtherKind = ¬ IsSchema given
IsNoType (Handle.Schema held) name Fault.NotUtf8 = ¬ IsUtf8 name
IsNoType (Handle.Schema held) name Fault.UnknownType =
    (id : ℕ) → index_named held.schema.value name ≡ Some id → ¬ IsEntityAt held.schema.value id
IsNoType (Handle.Schema held) name Fault.Memory = Unit {0}
IsNoType given name fault = ⊥

-- the names that a schema's fault carries, of the two that there may be
abbrev pub first_name : SchemaFault → List ℕ
first_name (SchemaFault.BadType name) = string_bytes name
first_name (SchemaFault.BadProperty owner name) = string_bytes owner
first_name (SchemaFault.UnknownBase owner) = string_bytes owner
first_name (SchemaFault.BaseCycle owner) = string_bytes owner
first_name (SchemaFault.PropertyTwice owner name) = string_bytes owner
first_name (SchemaFault.BadEnumMember owner name) = string_bytes owner
first_name fault = []

abbrev pub second_name : SchemaFault → List ℕ
second_name (SchemaFault.BadProperty owner name) = string_bytes name
second_name (SchemaFault.PropertyTwice owner name) = string_bytes name
second_name (SchemaFault.BadEnumMember owner name) = string_bytes name
second_name fault = []
