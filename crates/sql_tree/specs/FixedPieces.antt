-- The pieces of nodes whose text depends on their kinds alone: one before each child, and one at the end. In PostgreSQL
-- each operator and each function is one of `pg_catalog` or of `odf`, whatever other schemas the path of a session has:
-- it is named with its schema, or `pg_catalog` has it for just the types of its operands. So constants have types.
use Rattle.std.specs.Prelude.{ℕ, List, [], ◌∷◌, ◌++◌, Bool, true, false, codes}
use Rattle.edm_values.specs.declared.primitive.PrimitiveType.{PrimitiveType}
use Rattle.odata_syntax.specs.declared.binary_operator.ArithmeticOperator.{ArithmeticOperator}
use Rattle.odata_syntax.specs.declared.binary_operator.ComparisonOperator.{ComparisonOperator}
use Rattle.sql_tree.specs.declared.dialect.Dialect.{Dialect}
use Rattle.sql_tree.specs.declared.sql_node.Carrier.{Carrier}
use Rattle.sql_tree.specs.declared.sql_node.SqlType.{SqlType}

-- texts one after another
abbrev pub PieceTexts : Type 0
PieceTexts = List (List ℕ)

abbrev pub around : List ℕ → List ℕ → PieceTexts
around front close = front ∷ close ∷ []

abbrev pub between : List ℕ → List ℕ → List ℕ → PieceTexts
between front second close = front ∷ second ∷ close ∷ []

abbrev pub among : List ℕ → List ℕ → List ℕ → List ℕ → PieceTexts
among front second third close = front ∷ second ∷ third ∷ close ∷ []

-- ---- comparisons

abbrev pub comparison_name : ComparisonOperator → List ℕ
comparison_name ComparisonOperator.Eq = codes "="
comparison_name ComparisonOperator.Ne = codes "<>"
comparison_name ComparisonOperator.Gt = codes ">"
comparison_name ComparisonOperator.Ge = codes ">="
comparison_name ComparisonOperator.Lt = codes "<"
comparison_name ComparisonOperator.Le = codes "<="

-- in PostgreSQL with the schema of its own operators: a numeric, say, and a bigint have no operator of just their types
abbrev pub comparison_sign : Dialect → ComparisonOperator → List ℕ
comparison_sign Dialect.PostgreSql operator = codes " OPERATOR(pg_catalog." ++ (comparison_name operator ++ codes ") ")
comparison_sign Dialect.Sqlite operator = codes " " ++ (comparison_name operator ++ codes " ")

-- whether values of a type are compared as texts: in SQLite dates, instants and Guids are texts too
abbrev pub is_collated : Dialect → SqlType → Bool
is_collated dialect SqlType.Text = true
is_collated Dialect.Sqlite SqlType.Date = true
is_collated Dialect.Sqlite SqlType.Instant = true
is_collated Dialect.Sqlite SqlType.Guid = true
is_collated dialect type = false

-- texts are compared by their characters, whatever the collation of a column or of the database
abbrev pub collation : Dialect → Bool → List ℕ
collation Dialect.PostgreSql true = codes " COLLATE \"C\""
collation Dialect.Sqlite true = codes " COLLATE BINARY"
collation dialect false = []

-- a comparison of two texts, or of two values that are none
abbrev pub compared_pieces : Dialect → Bool → ComparisonOperator → PieceTexts
compared_pieces dialect collated operator =
    between (codes "(") (collation dialect collated ++ comparison_sign dialect operator) (codes ")")

abbrev pub comparison_pieces : Dialect → ComparisonOperator → SqlType → PieceTexts
comparison_pieces dialect operator type = compared_pieces dialect (is_collated dialect type) operator

abbrev pub sameness_sign : Dialect → List ℕ
sameness_sign Dialect.PostgreSql = codes " IS NOT DISTINCT FROM "
sameness_sign Dialect.Sqlite = codes " IS "

-- its `=` cannot have a schema, so in PostgreSQL whole numbers are of one type
abbrev pub sameness_pieces : Dialect → SqlType → PieceTexts
sameness_pieces Dialect.PostgreSql SqlType.Whole =
    between (codes "((") (codes ")::numeric IS NOT DISTINCT FROM (") (codes ")::numeric)")
sameness_pieces dialect type =
    between (codes "(") (collation dialect (is_collated dialect type) ++ sameness_sign dialect) (codes ")")

-- ---- arithmetic

abbrev pub arithmetic_sign : ArithmeticOperator → List ℕ
arithmetic_sign ArithmeticOperator.Add = codes " + "
arithmetic_sign ArithmeticOperator.Sub = codes " - "
arithmetic_sign ArithmeticOperator.Mul = codes " * "
arithmetic_sign ArithmeticOperator.Div = codes " / "
arithmetic_sign ArithmeticOperator.Mod = codes " % "

abbrev pub plain_pieces : Dialect → ArithmeticOperator → PieceTexts
plain_pieces Dialect.PostgreSql operator =
    between (codes "((") (codes ")::bigint" ++ (arithmetic_sign operator ++ codes "(")) (codes ")::bigint)")
plain_pieces Dialect.Sqlite operator = between (codes "(") (arithmetic_sign operator) (codes ")")

abbrev pub wide_pieces : Dialect → ArithmeticOperator → PieceTexts
wide_pieces Dialect.PostgreSql ArithmeticOperator.Div =
    between (codes "div((") (codes ")::numeric, (") (codes ")::numeric)")
wide_pieces Dialect.PostgreSql ArithmeticOperator.Mod =
    between (codes "mod((") (codes ")::numeric, (") (codes ")::numeric)")
wide_pieces Dialect.PostgreSql operator =
    between (codes "((") (codes ")::numeric" ++ (arithmetic_sign operator ++ codes "(")) (codes ")::numeric)")
wide_pieces Dialect.Sqlite operator = between (codes "(") (arithmetic_sign operator) (codes ")")

-- in PostgreSQL the number and the bounds are of one type; in SQLite what lies outside 64 bits is a real number, which may be rounded to a bound of them
abbrev pub range_pieces : Dialect → PrimitiveType → PieceTexts
range_pieces Dialect.PostgreSql PrimitiveType.Int16 =
    around (codes "((") (codes ")::numeric BETWEEN (-32768)::numeric AND 32767::numeric)")
range_pieces Dialect.PostgreSql PrimitiveType.Int32 =
    around (codes "((") (codes ")::numeric BETWEEN (-2147483648)::numeric AND 2147483647::numeric)")
range_pieces Dialect.PostgreSql type =
    around
    (codes "((")
    (codes ")::numeric BETWEEN (-9223372036854775808)::numeric AND 9223372036854775807::numeric)")
range_pieces Dialect.Sqlite PrimitiveType.Int16 = around (codes "(") (codes " BETWEEN -32768 AND 32767)")
range_pieces Dialect.Sqlite PrimitiveType.Int32 = around (codes "(") (codes " BETWEEN -2147483648 AND 2147483647)")
range_pieces Dialect.Sqlite type =
    around (codes "(CASE typeof(") (codes ") WHEN 'integer' THEN 1 WHEN 'real' THEN 0 END)")

-- the bits that two numbers share, in PostgreSQL of one type
abbrev pub bits_pieces : Dialect → PieceTexts
bits_pieces Dialect.PostgreSql = between (codes "((") (codes ")::bigint & (") (codes ")::bigint)")
bits_pieces Dialect.Sqlite = between (codes "(") (codes " & ") (codes ")")

-- ---- faults as values

abbrev pub fault_code_pieces : Dialect → Carrier → PieceTexts
fault_code_pieces Dialect.PostgreSql Carrier.Number =
    around (codes "(CASE ") (codes " WHEN 'NaN'::numeric THEN 3 WHEN 'Infinity'::numeric THEN 4 END)")
fault_code_pieces Dialect.PostgreSql Carrier.Text =
    around (codes "(CASE ") (codes " WHEN 'O'::text THEN 3 WHEN 'D'::text THEN 4 END)")
fault_code_pieces Dialect.Sqlite carrier =
    around (codes "(CASE ") (codes " WHEN x'03' THEN 3 WHEN x'04' THEN 4 END)")

abbrev pub fault_pieces : Dialect → Carrier → PieceTexts
fault_pieces Dialect.PostgreSql Carrier.Number =
    around (codes "(CASE ") (codes " WHEN 3 THEN 'NaN'::numeric WHEN 4 THEN 'Infinity'::numeric END)")
fault_pieces Dialect.PostgreSql Carrier.Text =
    around (codes "(CASE ") (codes " WHEN 3 THEN 'O'::text WHEN 4 THEN 'D'::text END)")
fault_pieces Dialect.Sqlite carrier =
    around (codes "(CASE ") (codes " WHEN 3 THEN x'03' WHEN 4 THEN x'04' END)")

abbrev pub unfault_pieces : Dialect → Carrier → PieceTexts
unfault_pieces Dialect.PostgreSql Carrier.Number =
    around (codes "NULLIF(NULLIF(") (codes ", 'NaN'::numeric), 'Infinity'::numeric)")
unfault_pieces Dialect.PostgreSql Carrier.Text =
    around (codes "substr(NULLIF(NULLIF(") (codes ", 'O'::text), 'D'::text), 2)")
unfault_pieces Dialect.Sqlite carrier = around (codes "NULLIF(NULLIF(") (codes ", x'03'), x'04')")

-- a letter before each text of PostgreSQL reports it from a fault
abbrev pub carried_pieces : Dialect → Carrier → PieceTexts
carried_pieces Dialect.PostgreSql Carrier.Number = around (codes "(") (codes ")::numeric")
carried_pieces Dialect.PostgreSql Carrier.Text = around (codes "('v'::text || ") (codes ")")
carried_pieces Dialect.Sqlite carrier = around (codes "(") (codes ")")
