-- The texts of nodes without children.
use Rattle.std.specs.Prelude.{ℕ, ◌+◌, List, [], ◌∷◌, ◌++◌, Bool, true, false, Option, codes, if◌then◌else◌}
use Rattle.std.specs.Fmt.{decimal, signed_decimal}
use Rattle.edm_enumerations.specs.EnumerationModel.{EnumerationModel, MemberModel}
use Rattle.edm_values.specs.declared.primitive.PrimitiveType.{PrimitiveType}
use Rattle.csdl_schema.specs.EnumerationText.{has_flags, members_in}
use Rattle.csdl_schema.specs.SchemaModel.{enumeration_at}
use Rattle.odata_functions.specs.declared.arithmetic.ArithFault.{ArithFault}
use Rattle.sql_tree.specs.PathText.{json_text, value_text}
use Rattle.sql_tree.specs.TableModel.{TableModel}
use Rattle.sql_tree.specs.declared.dialect.Dialect.{Dialect}
use Rattle.sql_tree.specs.declared.sql_node.Digit.{Digit}
use Rattle.sql_tree.specs.declared.sql_node.Carrier.{Carrier}
use Rattle.sql_tree.specs.declared.sql_node.FieldType.{FieldType}
use Rattle.sql_tree.specs.declared.sql_node.SqlType.{SqlType}
use Rattle.sql_tree.specs.declared.json_path.Path.{Path}

-- the name of a type in PostgreSQL
abbrev pub postgres_type : SqlType → List ℕ
postgres_type SqlType.Truth = codes "boolean"
postgres_type SqlType.Whole = codes "bigint"
postgres_type SqlType.Text = codes "text"
postgres_type SqlType.Date = codes "date"
postgres_type SqlType.Moment = codes "text"
postgres_type SqlType.Instant = codes "numeric"
postgres_type SqlType.Guid = codes "uuid"
postgres_type SqlType.Member = codes "bigint"

-- the parameter at an index, numbered from 1
abbrev pub parameter_text : Dialect → ℕ → SqlType → List ℕ
parameter_text Dialect.PostgreSql place type = codes "$" ++ (decimal (place + 1) ++ (codes "::" ++ postgres_type type))
parameter_text Dialect.Sqlite place type = codes "?" ++ decimal (place + 1)

abbrev pub null_text : Dialect → SqlType → List ℕ
null_text Dialect.PostgreSql type = codes "NULL::" ++ postgres_type type
null_text Dialect.Sqlite type = codes "NULL"

abbrev pub truth_text : Bool → List ℕ
truth_text true = codes "TRUE"
truth_text false = codes "FALSE"

abbrev pub number_text : Digit → List ℕ
number_text Digit.Zero = codes "(0)"
number_text Digit.One = codes "(1)"
number_text Digit.Two = codes "(2)"
number_text Digit.Three = codes "(3)"
number_text Digit.Seven = codes "(7)"

abbrev pub fault_text : Dialect → Carrier → ArithFault → List ℕ
fault_text Dialect.PostgreSql Carrier.Number ArithFault.Overflow = codes "'NaN'::numeric"
fault_text Dialect.PostgreSql Carrier.Number ArithFault.DivideByZero = codes "'Infinity'::numeric"
fault_text Dialect.PostgreSql Carrier.Text ArithFault.Overflow = codes "'O'::text"
fault_text Dialect.PostgreSql Carrier.Text ArithFault.DivideByZero = codes "'D'::text"
fault_text Dialect.Sqlite carrier ArithFault.Overflow = codes "x'03'"
fault_text Dialect.Sqlite carrier ArithFault.DivideByZero = codes "x'04'"

abbrev pub missing_text : Dialect → TableModel → Path → List ℕ
missing_text dialect table path = codes "(" ++ (json_text dialect table path ++ codes " IS NULL)")

abbrev pub count_text : Dialect → TableModel → Path → List ℕ
count_text Dialect.PostgreSql table path =
    codes "jsonb_array_length(" ++ (json_text Dialect.PostgreSql table path ++ codes ")")
count_text Dialect.Sqlite table path = codes "json_array_length(" ++ (json_text Dialect.Sqlite table path ++ codes ")")

-- ---- primitive values

abbrev pub primitive_text : Dialect → TableModel → Path → PrimitiveType → List ℕ
primitive_text Dialect.PostgreSql table path PrimitiveType.Bool =
    value_text Dialect.PostgreSql table path ++ codes "::boolean"
primitive_text Dialect.PostgreSql table path PrimitiveType.Date =
    value_text Dialect.PostgreSql table path ++ codes "::date"
primitive_text Dialect.PostgreSql table path PrimitiveType.Guid =
    value_text Dialect.PostgreSql table path ++ codes "::uuid"
primitive_text Dialect.PostgreSql table path PrimitiveType.String = value_text Dialect.PostgreSql table path
primitive_text Dialect.PostgreSql table path PrimitiveType.DateTimeOffset = value_text Dialect.PostgreSql table path
primitive_text Dialect.PostgreSql table path type = value_text Dialect.PostgreSql table path ++ codes "::bigint"
primitive_text Dialect.Sqlite table path PrimitiveType.Guid =
    codes "lower(" ++ (value_text Dialect.Sqlite table path ++ codes ")")
primitive_text Dialect.Sqlite table path type = value_text Dialect.Sqlite table path

-- ---- numbers of enumerations, by the names of their members

-- names between quotes, and numbers, with commas between them
abbrev pub more_names : List MemberModel → List ℕ
more_names [] = []
more_names (m ∷ ms) = codes ", '" ++ (m.name ++ (codes "'" ++ more_names ms))

abbrev pub names_text : List MemberModel → List ℕ
names_text [] = []
names_text (m ∷ ms) = codes "'" ++ (m.name ++ (codes "'" ++ more_names ms))

abbrev pub more_numbers : List MemberModel → List ℕ
more_numbers [] = []
more_numbers (m ∷ ms) = codes ", " ++ (signed_decimal m.number ++ more_numbers ms)

abbrev pub numbers_text : List MemberModel → List ℕ
numbers_text [] = []
numbers_text (m ∷ ms) = signed_decimal m.number ++ more_numbers ms

-- a case for each member
abbrev pub cases_text : List MemberModel → List ℕ
cases_text [] = []
cases_text (m ∷ ms) =
    codes " WHEN '" ++ (m.name ++ (codes "' THEN " ++ (signed_decimal m.number ++ cases_text ms)))

abbrev pub some_cases : List MemberModel → List ℕ
some_cases [] = codes " WHEN NULL THEN NULL"
some_cases (m ∷ ms) = cases_text (m ∷ ms)

-- the number of a piece of a text, which goes by `p`; a function of SQLite gives it, so it has no column's collation
abbrev pub piece_number_text : List MemberModel → List ℕ
piece_number_text members = codes "CASE p" ++ (some_cases members ++ codes " ELSE CAST(p AS integer) END")

abbrev pub postgres_number_text : TableModel → Path → List MemberModel → List ℕ
postgres_number_text table path members =
    codes "odf.enumeration_number("
    ++ (value_text Dialect.PostgreSql table path ++ (codes ", ARRAY[" ++ (names_text members
    ++ (codes "]::text[], ARRAY[" ++ (numbers_text members ++ codes "]::bigint[])")))))

-- the numbers of a text's pieces joined bit by bit
abbrev pub sqlite_flags_text : TableModel → Path → List MemberModel → List ℕ
sqlite_flags_text table path members =
    codes "(WITH RECURSIVE w(n, i, a) AS (SELECT 0, 0, '[\"' || replace("
    ++ (value_text Dialect.Sqlite table path
    ++ (codes ", ',', '\",\"') || '\"]' UNION ALL SELECT n | (SELECT " ++ (piece_number_text members
    ++ (codes " FROM (SELECT trim(json_extract(a, '$[' || i || ']'), ' ') AS p)), i + 1, a FROM w "
    ++ (codes "WHERE i < json_array_length(a)) SELECT CASE WHEN a IS NOT NULL THEN n END FROM w ORDER BY i DESC LIMIT "
    ++ codes "1)")))))

abbrev pub sqlite_member_text : TableModel → Path → List MemberModel → List ℕ
sqlite_member_text table path members =
    codes "(SELECT " ++ (piece_number_text members
    ++ (codes " FROM (SELECT trim(" ++ (value_text Dialect.Sqlite table path ++ codes ", ' ') AS p))")))

abbrev pub enumeration_text : Dialect → TableModel → Path → Option EnumerationModel → List ℕ
enumeration_text Dialect.PostgreSql table path e = postgres_number_text table path (members_in e)
enumeration_text Dialect.Sqlite table path e =
    if has_flags e then sqlite_flags_text table path (members_in e)
    else sqlite_member_text table path (members_in e)

abbrev pub field_text : Dialect → TableModel → Path → FieldType → List ℕ
field_text dialect table path (FieldType.Prim type) = primitive_text dialect table path type
field_text dialect table path (FieldType.Enum id) = enumeration_text dialect table path (enumeration_at table.schema id)
