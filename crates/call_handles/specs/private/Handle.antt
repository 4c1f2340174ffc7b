-- What the handle of a filter owns.
use Rattle.edm_rows.specs.RowLayout.{LayoutOfRows}
use Rattle.odata_checked_filter.specs.Filter.{Filter, IsFilter}
use Rattle.row_judges.specs.RowAnswer.{IsLayoutOfFilter}

-- a filter of its schema, and what rows are read by, of that schema and of the filter's type
pub record IsHeldFilter (filter : Filter) (layout : LayoutOfRows) : Type 0 where
  pub is_filter : IsFilter filter
  pub laid_out : IsLayoutOfFilter filter layout
