-- The moment that stands for now.
use Rattle.std.specs.Prelude.{◌≡◌, Option, None, Some}
use Rattle.edm_values.specs.MomentParts.{MomentParts}
use Rattle.odata_checked_filter.specs.Calls.{UsesNow}
use Rattle.odata_checked_filter.specs.Filter.{Filter, tree_of_filter}

-- a filter is evaluated at the moment that is given, or at any where none is and the filter does not ask for it
abbrev pub IsMomentFor : Filter → Option MomentParts → MomentParts → Type 0
IsMomentFor filter (Some given) now = now ≡ given
IsMomentFor filter None now = ¬ UsesNow (tree_of_filter filter)
