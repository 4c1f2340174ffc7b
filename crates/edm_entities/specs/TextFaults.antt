-- Why bytes are not the text of an entity (OData JSON Format 4.01, sections 4.5 and 7).
use Rattle.std.specs.Prelude.{List, ℕ}
use Rattle.serde_json.specs.Data.{Data}
use Rattle.csdl_schema.specs.JsonText.{IsJsonOf, IsNoJson}
use Rattle.csdl_schema.specs.SchemaModel.{Slots}
use Rattle.edm_entities.specs.RowFaults.{IsMemory, IsRowFault}
use Rattle.edm_entities.specs.declared.text_fault.TextFault.{TextFault}
use Rattle.edm_entities.specs.declared.text_fault.TextFault.TheVariants.{NoEntity, NotJson}

-- they are the text of no value, or of one with that first fault; running out of memory says nothing
abbrev pub IsTextFault : Slots → List ℕ → List ℕ → TextFault → Type 0
IsTextFault slots type bytes NotJson = IsNoJson bytes
IsTextFault slots type bytes (NoEntity fault) =
    ¬ (IsMemory fault) → (json : Data) × IsJsonOf bytes json × IsRowFault slots type json fault
