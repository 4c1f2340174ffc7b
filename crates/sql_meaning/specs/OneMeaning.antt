-- That a tree of SQL evaluates to one thing.
use Rattle.std.specs.Prelude.{◌≡◌}
use Rattle.odata_filter_operations.specs.Outcome.{Outcome}
use Rattle.sql_meaning.specs.SqlMeans.{SqlMeans}
use Rattle.sql_meaning.specs.Table.{Asked, Bound}
use Rattle.sql_tree.specs.Term.{Term}

-- no tree evaluates to two things on a row
abbrev pub HaveOneMeaning : Type 0
HaveOneMeaning =
    (asked : Asked) (bound : Bound) (t : Term) (x y : Outcome)
    → SqlMeans asked bound t x → SqlMeans asked bound t y → x ≡ y
