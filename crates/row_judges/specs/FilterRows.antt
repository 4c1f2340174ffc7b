-- What is kept from row to row of a filter.
use Rattle.std.specs.Prelude.{◌≡◌, true}
use Rattle.edm_rows.specs.RowsOfType.{RowsOfType, names_unkept}
use Rattle.odata_checked_filter.specs.Filter.{Filter}
use Rattle.row_judges.specs.RowAnswer.{PassesNone}
use Rattle.row_judges.specs.declared.filter_rows.FilterRows.{FilterRows}

-- the reader is of the filter's schema and type, and a whole one has that expanded which the filter needs; it keeps
-- what the filter names
pub record KeepsNames (filter : Filter) (rows : RowsOfType) : Type 0 where
  pub schema : rows.schema ≡ filter.schema
  pub type_id : rows.type_id ≡ filter.filtered
  pub whole : rows.is_whole ≡ true → rows.expansion ≡ filter.expansion
  pub keeps : PassesNone filter (names_unkept rows)

-- the reader of rows where they stand is the filter's
abbrev pub AreRowsOfFilter : Filter → FilterRows → Type 0
AreRowsOfFilter filter rows = KeepsNames filter rows.type_rows
