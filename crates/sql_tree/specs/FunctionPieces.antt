-- The pieces of functions, one before each argument and one at the end. In SQLite an argument that is needed twice is
-- bound by a sub-select; what a function of SQLite gives has no collation, and what is bound may have a column's.
use Rattle.std.specs.Prelude.{◌++◌, codes}
use Rattle.sql_tree.specs.FixedPieces.{PieceTexts, among, around, between}
use Rattle.sql_tree.specs.declared.dialect.Dialect.{Dialect}
use Rattle.sql_tree.specs.declared.sql_node.SqlFunction.{SqlFunction}

-- functions of PostgreSQL 15, and those of the schema odf
abbrev pub postgres_function : SqlFunction → PieceTexts
postgres_function SqlFunction.Contains = between (codes "(strpos(") (codes " COLLATE \"C\", ") (codes ") > 0)")
postgres_function SqlFunction.StartsWith = between (codes "starts_with(") (codes " COLLATE \"C\", ") (codes ")")
postgres_function SqlFunction.EndsWith = between (codes "odf.ends_with(") (codes ", ") (codes ")")
postgres_function SqlFunction.Concat = between (codes "(") (codes " || ") (codes ")")
postgres_function SqlFunction.Length = around (codes "length(") (codes ")")
postgres_function SqlFunction.IndexOf = between (codes "(strpos(") (codes " COLLATE \"C\", ") (codes ") - 1)")
postgres_function SqlFunction.RestFrom = between (codes "odf.substring(") (codes ", (") (codes ")::numeric)")
postgres_function SqlFunction.PartFrom =
    among (codes "odf.substring(") (codes ", (") (codes ")::numeric, (") (codes ")::numeric)")
postgres_function SqlFunction.Trim = around (codes "odf.trim(") (codes ")")
postgres_function SqlFunction.ToLower =
    around (codes "translate(") (codes ", 'ABCDEFGHIJKLMNOPQRSTUVWXYZ'::text, 'abcdefghijklmnopqrstuvwxyz'::text)")
postgres_function SqlFunction.ToUpper =
    around (codes "translate(") (codes ", 'abcdefghijklmnopqrstuvwxyz'::text, 'ABCDEFGHIJKLMNOPQRSTUVWXYZ'::text)")
postgres_function SqlFunction.YearOfDate = around (codes "extract(year FROM ") (codes ")::integer")
postgres_function SqlFunction.MonthOfDate = around (codes "extract(month FROM ") (codes ")::integer")
postgres_function SqlFunction.DayOfDate = around (codes "extract(day FROM ") (codes ")::integer")
postgres_function SqlFunction.YearOfMoment = around (codes "CAST(substr(") (codes ", 1, 4) AS integer)")
postgres_function SqlFunction.MonthOfMoment = around (codes "CAST(substr(") (codes ", 6, 2) AS integer)")
postgres_function SqlFunction.DayOfMoment = around (codes "CAST(substr(") (codes ", 9, 2) AS integer)")
postgres_function SqlFunction.Hour = around (codes "CAST(substr(") (codes ", 12, 2) AS integer)")
postgres_function SqlFunction.Minute = around (codes "CAST(substr(") (codes ", 15, 2) AS integer)")
postgres_function SqlFunction.Second = around (codes "odf.second(") (codes ")")
postgres_function SqlFunction.OffsetMinutes = around (codes "odf.offset_minutes(") (codes ")")
postgres_function SqlFunction.DateOfMoment = around (codes "substr(") (codes ", 1, 10)::date")
postgres_function SqlFunction.Instant = around (codes "odf.instant(") (codes ")")

-- functions of SQLite 3.38
abbrev pub sqlite_function : SqlFunction → PieceTexts
sqlite_function SqlFunction.Contains = between (codes "(instr(") (codes ", ") (codes ") > 0)")
sqlite_function SqlFunction.StartsWith =
    between (codes "(SELECT substr(a, 1, length(b)) COLLATE BINARY = b FROM (SELECT ") (codes " AS a, ") (codes " AS b))")
sqlite_function SqlFunction.EndsWith =
    between
    (codes "(SELECT length(a) >= length(b) AND substr(a, length(a) - length(b) + 1) COLLATE BINARY = b "
    ++ codes "FROM (SELECT ")
    (codes " AS a, ")
    (codes " AS b))")
sqlite_function SqlFunction.Concat = between (codes "(") (codes " || ") (codes ")")
sqlite_function SqlFunction.Length = around (codes "length(") (codes ")")
sqlite_function SqlFunction.IndexOf = between (codes "(instr(") (codes ", ") (codes ") - 1)")
sqlite_function SqlFunction.RestFrom = between (codes "substr(") (codes ", min(max(") (codes ", 0), 1000000000) + 1)")
sqlite_function SqlFunction.PartFrom =
    among
    (codes "substr(")
    (codes ", min(max(")
    (codes ", 0), 1000000000) + 1, min(max(")
    (codes ", 0), 1000000000))")
sqlite_function SqlFunction.Trim =
    around
    (codes "trim(")
    (codes ", char(9, 10, 11, 12, 13, 32, 133, 160, 5760, 8192, 8193, 8194, 8195, 8196, 8197, 8198, 8199, "
    ++ (codes "8200, 8201, 8202, 8232, 8233, 8239, 8287, 12288))"))
sqlite_function SqlFunction.ToLower = around (codes "lower(") (codes ")")
sqlite_function SqlFunction.ToUpper = around (codes "upper(") (codes ")")
sqlite_function SqlFunction.YearOfDate = around (codes "CAST(substr(") (codes ", 1, 4) AS integer)")
sqlite_function SqlFunction.MonthOfDate = around (codes "CAST(substr(") (codes ", 6, 2) AS integer)")
sqlite_function SqlFunction.DayOfDate = around (codes "CAST(substr(") (codes ", 9, 2) AS integer)")
sqlite_function SqlFunction.YearOfMoment = around (codes "CAST(substr(") (codes ", 1, 4) AS integer)")
sqlite_function SqlFunction.MonthOfMoment = around (codes "CAST(substr(") (codes ", 6, 2) AS integer)")
sqlite_function SqlFunction.DayOfMoment = around (codes "CAST(substr(") (codes ", 9, 2) AS integer)")
sqlite_function SqlFunction.Hour = around (codes "CAST(substr(") (codes ", 12, 2) AS integer)")
sqlite_function SqlFunction.Minute = around (codes "CAST(substr(") (codes ", 15, 2) AS integer)")
sqlite_function SqlFunction.Second =
    around
    (codes "(SELECT CASE substr(a, 17, 1) WHEN ':' THEN CAST(substr(a, 18, 2) AS integer) ELSE 0 * "
    ++ (codes "length(a) END FROM (SELECT "))
    (codes " AS a))")
sqlite_function SqlFunction.OffsetMinutes =
    around
    (codes "(SELECT CASE WHEN substr(a, -1) IN ('Z', 'z') THEN 0 ELSE (60 * CAST(substr(a, -5, 2) AS "
    ++ (codes "integer) + CAST(substr(a, -2) AS integer)) * CASE substr(a, -6, 1) WHEN '-' THEN -1 ELSE 1 END "
    ++ (codes "END FROM (SELECT ")))
    (codes " AS a))")
sqlite_function SqlFunction.DateOfMoment = around (codes "substr(") (codes ", 1, 10)")
sqlite_function SqlFunction.Instant =
    around
    (codes "(SELECT printf('%012d', CAST(julianday(substr(a, 1, 10)) - 2440587.5 AS integer) * 86400 + "
    ++ (codes "62135769600 + 3600 * CAST(substr(a, 12, 2) AS integer) + 60 * CAST(substr(a, 15, 2) AS integer) "
    ++ (codes "+ CASE substr(a, 17, 1) WHEN ':' THEN CAST(substr(a, 18, 2) AS integer) ELSE 0 END - CASE WHEN "
    ++ (codes "substr(a, -1) IN ('Z', 'z') THEN 0 ELSE (3600 * CAST(substr(a, -5, 2) AS integer) + 60 * "
    ++ (codes "CAST(substr(a, -2) AS integer)) * CASE substr(a, -6, 1) WHEN '-' THEN -1 ELSE 1 END END) || "
    ++ (codes "substr(CASE WHEN substr(a, 17, 1) = ':' AND substr(a, 20, 1) = '.' THEN substr(a, 21, length(a) "
    ++ (codes "- 20 - CASE WHEN substr(a, -1) IN ('Z', 'z') THEN 1 ELSE 6 END) WHEN a IS NOT NULL THEN '' END "
    ++ (codes "|| '000000000', 1, 9) FROM (SELECT "))))))))
    (codes " AS a))")

abbrev pub function_pieces : Dialect → SqlFunction → PieceTexts
function_pieces Dialect.PostgreSql function = postgres_function function
function_pieces Dialect.Sqlite function = sqlite_function function
