-- Forms of a table.
use Rattle.std.specs.Prelude.{ℕ, Bool, true, false, cond, eqb, Option, None, Some}
use Rattle.sql_tree.specs.declared.dialect.Dialect.{Dialect}

-- the dialect of a form, and whether each property has a column
abbrev pub form_numbered : ℕ → Option (Dialect × Bool)
form_numbered number =
    cond (eqb number 0) (Some (Dialect.PostgreSql, true))
    (cond (eqb number 1) (Some (Dialect.PostgreSql, false))
    (cond (eqb number 2) (Some (Dialect.Sqlite, true))
    (cond (eqb number 3) (Some (Dialect.Sqlite, false)) None)))
