-- When a truth value of SQL, or null, says that something holds.
use Rattle.std.specs.Prelude.{◌≡◌, ◌↔◌, Some, Bool, true, Option}
use Rattle.odata_filter_operations.specs.Outcome.{Outcome}
use Rattle.sql_meaning.specs.OperatorsGive.{truth}

-- a truth value or null, true exactly where the fact holds
abbrev pub IsTrueWhere : Type 0 → Outcome → Type 0
IsTrueWhere Fact x = (t : Option Bool) × (x ≡ truth t) × ((t ≡ Some true) ↔ Fact)
