-- What an answer reports about an outcome.
use Rattle.std.specs.Prelude.{Option, Some, None}
use Rattle.odata_filter_operations.specs.Outcome.{Outcome}

-- what was reported is such an outcome; running out of memory is reported only where memory is taken
abbrev pub Reports : Type 0 → (Outcome → Type 0) → Option Outcome → Type 0
Reports Takes Means (Some o) = Means o
Reports Takes Means None = Takes
