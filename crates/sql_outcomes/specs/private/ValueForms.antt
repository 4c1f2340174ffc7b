-- The forms in which a value is put.
use Rattle.std.specs.Prelude.{◌≡◌, Bool, Option}
use Rattle.odata_filter_operations.specs.Outcome.{Outcome, gives}
use Rattle.sql_meaning.specs.OperatorsGive.{truth}

-- the same outcome
abbrev pub Itself : Outcome → Outcome → Type 0
Itself o x = x ≡ o

-- a value in that form; instead of a fault some truth value
abbrev pub OrTruth : (Outcome → Outcome → Type 0) → Outcome → Outcome → Type 0
OrTruth Form (gives v) x = Form (gives v) x
OrTruth Form o x = (t : Option Bool) × (x ≡ truth t)
