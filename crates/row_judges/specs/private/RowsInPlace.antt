-- For private clauses: the reader by which a filter's rows are read where they stand.
use Rattle.std.specs.Prelude.{◌≡◌, ℕ, List, slice_get, true, IfSome}
use Rattle.edm_rows.specs.RowReading.{IsLineBut}
use Rattle.edm_rows.specs.RowsOfType.{IsLeftOut, RowsOfType, names_unkept, row_held}
use Rattle.edm_rows.specs.declared.type_rows.Reading.{Reading}
use Rattle.edm_values.specs.declared.sieve.Sieve.{Sieve}
use Rattle.csdl_schema.specs.SchemaModel.{HasDistinctNames, properties_at}
use Rattle.odata_checked_filter.specs.Filter.{Filter}
use Rattle.odata_eval.specs.FalseWhere.{IsSieveOf}
use Rattle.row_judges.specs.FilterRows.{KeepsNames}

-- where the sieve rejects the slot's value, the filter is false
abbrev pub IsTestAt : Filter → ℕ → Sieve → Type 0
IsTestAt filter slot sieve = IsSieveOf filter (record { slot = slot; sieve = sieve })

-- the reader is of the filter's schema and type, and a whole one has that expanded which the filter needs
pub record IsReaderFor (filter : Filter) (rows : RowsOfType) : Type 0 where
  pub schema : rows.schema ≡ filter.schema
  pub type_id : rows.type_id ≡ filter.filtered
  pub whole : rows.is_whole ≡ true → rows.expansion ≡ filter.expansion

-- the reader keeps what the filter names, and leaves rows out only where the filter is false
pub record AreRowsOf (filter : Filter) (rows : RowsOfType) : Type 0 where
  pub names : KeepsNames filter rows
  pub tests : (slot : ℕ) → IfSome (slice_get rows.sieves slot) (IsTestAt filter slot)
  pub distinct : HasDistinctNames (properties_at filter.schema filter.filtered)

-- what is said of a line by what became of it
abbrev pub IsRead : Reading → List ℕ → RowsOfType → Type 0
IsRead Reading.Unread line rows = Unit {0}
IsRead Reading.Row line rows =
    (rows.is_whole ≡ true) × (rows.is_ready ≡ true) × IsLineBut line (names_unkept rows) (row_held rows)
IsRead Reading.LeftOut line rows = (rows.is_whole ≡ true) × IsLeftOut line rows

-- only the sieves have changed
pub record IsSameButSieves (old new : RowsOfType) : Type 0 where
  pub schema : new.schema ≡ old.schema
  pub type_id : new.type_id ≡ old.type_id
  pub expansion : new.expansion ≡ old.expansion
  pub is_whole : new.is_whole ≡ old.is_whole
  pub kept : new.kept ≡ old.kept
