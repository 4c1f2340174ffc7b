-- The rows of a table of which a filter is asked.
use Rattle.std.specs.Prelude.{◌≡◌}
use Rattle.odata_expansion.specs.ExpansionView.{paths_in}
use Rattle.odata_expansion.specs.PathSet.{Covers}
use Rattle.edm_entities.specs.Row.{Row, IsEntity, value_of}
use Rattle.odata_checked_filter.specs.Filter.{Filter}
use Rattle.odata_filter_operations.specs.Outcome.{Outcome, gives, overflow, divides_by_zero}
use Rattle.odata_ranges.specs.Storable.{IsStorable}

-- the rows of which a filter is asked: entities of its type with what it needs of navigation, which a table can keep
pub record IsRowOf (filter : Filter) (row : Row) : Type 0 where
  pub schema_is : row.schema ≡ filter.schema
  pub type_is : row.type_id ≡ filter.filtered
  pub entity : IsEntity row
  pub covers : Covers (paths_in row.expansion) (paths_in filter.expansion)
  pub storable : IsStorable (value_of row)

-- a fault is no value
abbrev pub IsFault : Outcome → Type 0
IsFault (gives v) = ⊥
IsFault overflow = Unit {0}
IsFault divides_by_zero = Unit {0}
