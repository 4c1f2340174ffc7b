-- A table that keeps the entities of a type, and the texts of its columns.
use Rattle.std.specs.Prelude.{◌<◌, ℕ, List, [], ◌++◌, codes, length, map, slice_get, unwrap_or}
use Rattle.csdl_schema.specs.SchemaModel.{SchemaModel}
use Rattle.sql_tree.specs.QuotedName.{quoted_name}
use Rattle.sql_tree.specs.declared.storage.Storage.{Storage}
use Rattle.sql_tree.specs.declared.storage.Table.{Table}

-- a column for each slot of the type, by its name, or one for the whole entity
pub data StorageModel : Type 0 where
  in_columns : List (List ℕ) → StorageModel
  in_document : List ℕ → StorageModel

pub record TableModel : Type 0 where
  pub schema : SchemaModel
  pub row_type : ℕ
  pub storage : StorageModel

abbrev pub storage_in : Storage → StorageModel
storage_in (Storage.Columns names) = in_columns (map (λ name. name.now) names.now)
storage_in (Storage.Document name) = in_document name.now

-- a table of the code
abbrev pub table_in : Table → TableModel
table_in table = record {
  schema = table.schema.now;
  row_type = table.row_type;
  storage = storage_in table.storage;
}

-- a column has that slot
abbrev pub HasColumn : StorageModel → ℕ → Type 0
HasColumn (in_columns names) slot = slot < length names
HasColumn (in_document name) slot = ⊥

abbrev pub HasDocument : StorageModel → Type 0
HasDocument (in_columns names) = ⊥
HasDocument (in_document name) = Unit {0}

-- the column of a slot
abbrev pub column_name : StorageModel → ℕ → List ℕ
column_name (in_columns names) slot = unwrap_or (slice_get names slot) []
column_name (in_document name) slot = []

-- the column of the whole entity
abbrev pub document_name : StorageModel → List ℕ
document_name (in_columns names) = []
document_name (in_document name) = name

-- the table goes by `t`
abbrev pub column_text : TableModel → ℕ → List ℕ
column_text table slot = codes "t." ++ quoted_name (column_name table.storage slot)

abbrev pub document_text : TableModel → List ℕ
document_text table = codes "t." ++ quoted_name (document_name table.storage)
