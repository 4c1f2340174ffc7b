-- What lines are judged by: a filter, and the moment that stands for now.
use Rattle.edm_values.specs.MomentParts.{MomentParts}
use Rattle.odata_checked_filter.specs.Filter.{Filter}

pub record FilterNow : Type 0 where
  pub filter : Filter
  pub moment : MomentParts
