-- For private clauses: functions of dates and moments.
use Rattle.std.specs.Prelude.{codes}
use Rattle.sql_tree.specs.FixedPieces.{PieceTexts, around}
use Rattle.sql_tree.specs.declared.sql_node.SqlFunction.{SqlFunction}

-- functions of dates and moments
abbrev pub IsOfTime : SqlFunction → Type 0
IsOfTime SqlFunction.Contains = ⊥
IsOfTime SqlFunction.StartsWith = ⊥
IsOfTime SqlFunction.EndsWith = ⊥
IsOfTime SqlFunction.Concat = ⊥
IsOfTime SqlFunction.Length = ⊥
IsOfTime SqlFunction.IndexOf = ⊥
IsOfTime SqlFunction.RestFrom = ⊥
IsOfTime SqlFunction.PartFrom = ⊥
IsOfTime SqlFunction.Trim = ⊥
IsOfTime SqlFunction.ToLower = ⊥
IsOfTime SqlFunction.ToUpper = ⊥
IsOfTime function = Unit {0}

-- the number that stands at fixed offsets of a date's or a moment's text
abbrev pub number_function : SqlFunction → PieceTexts
number_function SqlFunction.YearOfDate = around (codes "CAST(substr(") (codes ", 1, 4) AS integer)")
number_function SqlFunction.YearOfMoment = around (codes "CAST(substr(") (codes ", 1, 4) AS integer)")
number_function SqlFunction.MonthOfDate = around (codes "CAST(substr(") (codes ", 6, 2) AS integer)")
number_function SqlFunction.MonthOfMoment = around (codes "CAST(substr(") (codes ", 6, 2) AS integer)")
number_function SqlFunction.DayOfDate = around (codes "CAST(substr(") (codes ", 9, 2) AS integer)")
number_function SqlFunction.DayOfMoment = around (codes "CAST(substr(") (codes ", 9, 2) AS integer)")
number_function SqlFunction.Hour = around (codes "CAST(substr(") (codes ", 12, 2) AS integer)")
number_function function = around (codes "CAST(substr(") (codes ", 15, 2) AS integer)")
