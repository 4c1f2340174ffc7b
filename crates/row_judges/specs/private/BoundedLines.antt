-- What lines are judged by within a bound. Private clauses alone cite it.
use Rattle.std.specs.Prelude.{ℕ}
use Rattle.edm_values.specs.MomentParts.{MomentParts}
use Rattle.odata_checked_filter.specs.Filter.{Filter}

-- a filter, the moment that stands for now, and the bound on each line's cost
pub record FilterWithin : Type 0 where
  pub filter : Filter
  pub moment : MomentParts
  pub most : ℕ
