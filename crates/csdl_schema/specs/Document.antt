-- Which schema a document stands for, and which fault is its first (CSDL JSON 4.01).
use Rattle.std.specs.Prelude.{◌≡◌, ℕ, ◌<◌, ◌≤◌, ◌⊎◌, ◌∷◌, ◌++◌, [], List, length, IfSome}
use Rattle.serde_json.specs.Data.{Data}
use Rattle.csdl_declarations.specs.declared.schema_fault.SchemaFault.{SchemaFault}
use Rattle.csdl_declarations.specs.DeclaredType.{declared_types}
use Rattle.csdl_declarations.specs.Fault.{Fault, not_json, too_large}
use Rattle.csdl_declarations.specs.FaultView.{fault_of}
use Rattle.csdl_declarations.specs.Faults.{declaration_faults}
use Rattle.csdl_schema.specs.SchemaModel.{SchemaModel}
use Rattle.csdl_schema.specs.Resolution.{schema_of}
use Rattle.csdl_schema.specs.BaseFaults.{all_base_faults}
use Rattle.csdl_schema.specs.JsonText.{IsJsonOf, IsNoJson}

-- the most bytes of a document
abbrev pub byte_limit : ℕ
byte_limit = 1048576

-- the faults of the declarations, each by itself, and then those of their bases
abbrev pub document_faults : Data → List Fault
document_faults json = declaration_faults json ++ all_base_faults (declared_types json)

abbrev pub declared_schema : Data → SchemaModel
declared_schema json = schema_of (declared_types json)

-- a document of at most so many bytes, JSON, without faults, and the schema that it declares
pub record StandsFor (document : List ℕ) (schema : SchemaModel) : Type 0 where
  pub size : length document ≤ byte_limit
  pub json : Data
  pub is_json : IsJsonOf document json
  pub faultless : document_faults json ≡ []
  pub is_declared : schema ≡ declared_schema json

-- the size goes first, then whether the document is JSON, then the faults of the value
abbrev pub IsFirstDocumentFault : List ℕ → Fault → Type 0
IsFirstDocumentFault document fault =
    ((byte_limit < length document) × (fault ≡ too_large))
    ⊎ ((length document ≤ byte_limit) × IsNoJson document × (fault ≡ not_json))
    ⊎ ((length document ≤ byte_limit) × (json : Data) × IsJsonOf document json × (later : List Fault)
    × (document_faults json ≡ fault ∷ later))

-- what a refusal says: the document's first fault; running out of memory says nothing
abbrev pub IsSchemaFault : List ℕ → SchemaFault → Type 0
IsSchemaFault document refusal = IfSome (fault_of refusal) (IsFirstDocumentFault document)
