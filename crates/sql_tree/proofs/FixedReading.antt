-- The pieces of nodes whose text depends on their kinds alone leave parentheses and quotes as they were.
use Rattle.std.proofs.Common.{ℕ, suc, List, ◌++◌, Bool, true, false, refl}
use Rattle.std.specs.Prelude.{codes}
use Rattle.edm_values.specs.declared.primitive.PrimitiveType.{PrimitiveType}
use Rattle.odata_syntax.specs.declared.binary_operator.ArithmeticOperator.{ArithmeticOperator}
use Rattle.odata_syntax.specs.declared.binary_operator.ComparisonOperator.{ComparisonOperator}
use Rattle.sql_tree.specs.FixedPieces.{between, bits_pieces, carried_pieces, collation, comparison_pieces, comparison_sign, fault_code_pieces, fault_pieces, is_collated, plain_pieces, range_pieces, sameness_pieces, sameness_sign, unfault_pieces, wide_pieces}
use Rattle.sql_tree.specs.FunctionPieces.{function_pieces, postgres_function, sqlite_function}
use Rattle.sql_tree.specs.NodePieces.{pieces_for_codes}
use Rattle.sql_tree.specs.TableDigits.{arity_of_table}
use Rattle.sql_tree.specs.declared.dialect.Dialect.{Dialect}
use Rattle.sql_tree.specs.declared.look_up.LookUp.{LookUp}
use Rattle.sql_tree.specs.declared.sql_node.Carrier.{Carrier}
use Rattle.sql_tree.specs.declared.sql_node.SqlFunction.{SqlFunction}
use Rattle.sql_tree.specs.declared.sql_node.SqlType.{SqlType}
use Rattle.sql_tree.proofs.Reading.{IsQuiet, WeavesQuietly, quiet_both}

-- ---- signs between operands

pub collation_quiet : (dialect : Dialect) (of_texts : Bool) → IsQuiet (collation dialect of_texts)
collation_quiet Dialect.PostgreSql true = λ depth. refl
collation_quiet Dialect.Sqlite true = λ depth. refl
collation_quiet dialect false = λ depth. refl

comparison_quiet : (dialect : Dialect) (operator : ComparisonOperator) → IsQuiet (comparison_sign dialect operator)
comparison_quiet Dialect.PostgreSql ComparisonOperator.Eq = λ depth. refl
comparison_quiet Dialect.PostgreSql ComparisonOperator.Ne = λ depth. refl
comparison_quiet Dialect.PostgreSql ComparisonOperator.Gt = λ depth. refl
comparison_quiet Dialect.PostgreSql ComparisonOperator.Ge = λ depth. refl
comparison_quiet Dialect.PostgreSql ComparisonOperator.Lt = λ depth. refl
comparison_quiet Dialect.PostgreSql ComparisonOperator.Le = λ depth. refl
comparison_quiet Dialect.Sqlite ComparisonOperator.Eq = λ depth. refl
comparison_quiet Dialect.Sqlite ComparisonOperator.Ne = λ depth. refl
comparison_quiet Dialect.Sqlite ComparisonOperator.Gt = λ depth. refl
comparison_quiet Dialect.Sqlite ComparisonOperator.Ge = λ depth. refl
comparison_quiet Dialect.Sqlite ComparisonOperator.Lt = λ depth. refl
comparison_quiet Dialect.Sqlite ComparisonOperator.Le = λ depth. refl

sameness_quiet : (dialect : Dialect) → IsQuiet (sameness_sign dialect)
sameness_quiet Dialect.PostgreSql = λ depth. refl
sameness_quiet Dialect.Sqlite = λ depth. refl

-- a sign between two operands in parentheses
sign_weaves : (sign : List ℕ) → IsQuiet sign → WeavesQuietly (between (codes "(") sign (codes ")"))
sign_weaves sign quiet = λ depth. (suc depth, refl, (suc depth, quiet (suc depth), refl))

pub comparison_weaves : (dialect : Dialect) (operator : ComparisonOperator) (type : SqlType) → WeavesQuietly (comparison_pieces dialect operator type)
comparison_weaves dialect operator type =
    sign_weaves (collation dialect (is_collated dialect type) ++ comparison_sign dialect operator)
    (quiet_both (collation dialect (is_collated dialect type)) (comparison_sign dialect operator) (collation_quiet dialect (is_collated dialect type)) (comparison_quiet dialect operator))

sameness_of : (dialect : Dialect) (collated : Bool) → WeavesQuietly (between (codes "(") (collation dialect collated ++ sameness_sign dialect) (codes ")"))
sameness_of dialect collated =
    sign_weaves (collation dialect collated ++ sameness_sign dialect)
    (quiet_both (collation dialect collated) (sameness_sign dialect) (collation_quiet dialect collated) (sameness_quiet dialect))

pub sameness_weaves : (dialect : Dialect) (type : SqlType) → WeavesQuietly (sameness_pieces dialect type)
sameness_weaves Dialect.PostgreSql SqlType.Whole = λ depth. (suc (suc depth), refl, (suc (suc depth), refl, refl))
sameness_weaves Dialect.PostgreSql type = sameness_of Dialect.PostgreSql (is_collated Dialect.PostgreSql type)
sameness_weaves Dialect.Sqlite type = sameness_of Dialect.Sqlite (is_collated Dialect.Sqlite type)

-- ---- arithmetic

pub plain_weaves : (dialect : Dialect) (operator : ArithmeticOperator) → WeavesQuietly (plain_pieces dialect operator)
plain_weaves Dialect.PostgreSql ArithmeticOperator.Add = λ depth. (suc (suc depth), refl, (suc (suc depth), refl, refl))
plain_weaves Dialect.PostgreSql ArithmeticOperator.Sub = λ depth. (suc (suc depth), refl, (suc (suc depth), refl, refl))
plain_weaves Dialect.PostgreSql ArithmeticOperator.Mul = λ depth. (suc (suc depth), refl, (suc (suc depth), refl, refl))
plain_weaves Dialect.PostgreSql ArithmeticOperator.Div = λ depth. (suc (suc depth), refl, (suc (suc depth), refl, refl))
plain_weaves Dialect.PostgreSql ArithmeticOperator.Mod = λ depth. (suc (suc depth), refl, (suc (suc depth), refl, refl))
plain_weaves Dialect.Sqlite ArithmeticOperator.Add = λ depth. (suc depth, refl, (suc depth, refl, refl))
plain_weaves Dialect.Sqlite ArithmeticOperator.Sub = λ depth. (suc depth, refl, (suc depth, refl, refl))
plain_weaves Dialect.Sqlite ArithmeticOperator.Mul = λ depth. (suc depth, refl, (suc depth, refl, refl))
plain_weaves Dialect.Sqlite ArithmeticOperator.Div = λ depth. (suc depth, refl, (suc depth, refl, refl))
plain_weaves Dialect.Sqlite ArithmeticOperator.Mod = λ depth. (suc depth, refl, (suc depth, refl, refl))

pub wide_weaves : (dialect : Dialect) (operator : ArithmeticOperator) → WeavesQuietly (wide_pieces dialect operator)
wide_weaves Dialect.PostgreSql ArithmeticOperator.Add = λ depth. (suc (suc depth), refl, (suc (suc depth), refl, refl))
wide_weaves Dialect.PostgreSql ArithmeticOperator.Sub = λ depth. (suc (suc depth), refl, (suc (suc depth), refl, refl))
wide_weaves Dialect.PostgreSql ArithmeticOperator.Mul = λ depth. (suc (suc depth), refl, (suc (suc depth), refl, refl))
wide_weaves Dialect.PostgreSql ArithmeticOperator.Div = λ depth. (suc (suc depth), refl, (suc (suc depth), refl, refl))
wide_weaves Dialect.PostgreSql ArithmeticOperator.Mod = λ depth. (suc (suc depth), refl, (suc (suc depth), refl, refl))
wide_weaves Dialect.Sqlite ArithmeticOperator.Add = λ depth. (suc depth, refl, (suc depth, refl, refl))
wide_weaves Dialect.Sqlite ArithmeticOperator.Sub = λ depth. (suc depth, refl, (suc depth, refl, refl))
wide_weaves Dialect.Sqlite ArithmeticOperator.Mul = λ depth. (suc depth, refl, (suc depth, refl, refl))
wide_weaves Dialect.Sqlite ArithmeticOperator.Div = λ depth. (suc depth, refl, (suc depth, refl, refl))
wide_weaves Dialect.Sqlite ArithmeticOperator.Mod = λ depth. (suc depth, refl, (suc depth, refl, refl))

pub range_weaves : (dialect : Dialect) (type : PrimitiveType) → WeavesQuietly (range_pieces dialect type)
range_weaves Dialect.PostgreSql PrimitiveType.Int16 = λ depth. (suc (suc depth), refl, refl)
range_weaves Dialect.Sqlite PrimitiveType.Int16 = λ depth. (suc depth, refl, refl)
range_weaves Dialect.PostgreSql PrimitiveType.Int32 = λ depth. (suc (suc depth), refl, refl)
range_weaves Dialect.Sqlite PrimitiveType.Int32 = λ depth. (suc depth, refl, refl)
range_weaves Dialect.PostgreSql _ = λ depth. (suc (suc depth), refl, refl)
range_weaves Dialect.Sqlite _ = λ depth. (suc (suc depth), refl, refl)

pub bits_weaves : (dialect : Dialect) → WeavesQuietly (bits_pieces dialect)
bits_weaves Dialect.PostgreSql = λ depth. (suc (suc depth), refl, (suc (suc depth), refl, refl))
bits_weaves Dialect.Sqlite = λ depth. (suc depth, refl, (suc depth, refl, refl))

-- ---- faults

pub fault_code_weaves : (dialect : Dialect) (carrier : Carrier) → WeavesQuietly (fault_code_pieces dialect carrier)
fault_code_weaves Dialect.PostgreSql Carrier.Number = λ depth. (suc depth, refl, refl)
fault_code_weaves Dialect.PostgreSql Carrier.Text = λ depth. (suc depth, refl, refl)
fault_code_weaves Dialect.Sqlite Carrier.Number = λ depth. (suc depth, refl, refl)
fault_code_weaves Dialect.Sqlite Carrier.Text = λ depth. (suc depth, refl, refl)

pub fault_weaves : (dialect : Dialect) (carrier : Carrier) → WeavesQuietly (fault_pieces dialect carrier)
fault_weaves Dialect.PostgreSql Carrier.Number = λ depth. (suc depth, refl, refl)
fault_weaves Dialect.PostgreSql Carrier.Text = λ depth. (suc depth, refl, refl)
fault_weaves Dialect.Sqlite Carrier.Number = λ depth. (suc depth, refl, refl)
fault_weaves Dialect.Sqlite Carrier.Text = λ depth. (suc depth, refl, refl)

pub unfault_weaves : (dialect : Dialect) (carrier : Carrier) → WeavesQuietly (unfault_pieces dialect carrier)
unfault_weaves Dialect.PostgreSql Carrier.Number = λ depth. (suc (suc depth), refl, refl)
unfault_weaves Dialect.PostgreSql Carrier.Text = λ depth. (suc (suc (suc depth)), refl, refl)
unfault_weaves Dialect.Sqlite Carrier.Number = λ depth. (suc (suc depth), refl, refl)
unfault_weaves Dialect.Sqlite Carrier.Text = λ depth. (suc (suc depth), refl, refl)

pub carried_weaves : (dialect : Dialect) (carrier : Carrier) → WeavesQuietly (carried_pieces dialect carrier)
carried_weaves Dialect.PostgreSql Carrier.Number = λ depth. (suc depth, refl, refl)
carried_weaves Dialect.PostgreSql Carrier.Text = λ depth. (suc depth, refl, refl)
carried_weaves Dialect.Sqlite Carrier.Number = λ depth. (suc depth, refl, refl)
carried_weaves Dialect.Sqlite Carrier.Text = λ depth. (suc depth, refl, refl)

-- ---- functions

postgres_weaves : (function : SqlFunction) → WeavesQuietly (postgres_function function)
postgres_weaves SqlFunction.Contains = λ depth. (suc (suc depth), refl, (suc (suc depth), refl, refl))
postgres_weaves SqlFunction.StartsWith = λ depth. (suc depth, refl, (suc depth, refl, refl))
postgres_weaves SqlFunction.EndsWith = λ depth. (suc depth, refl, (suc depth, refl, refl))
postgres_weaves SqlFunction.Concat = λ depth. (suc depth, refl, (suc depth, refl, refl))
postgres_weaves SqlFunction.Length = λ depth. (suc depth, refl, refl)
postgres_weaves SqlFunction.IndexOf = λ depth. (suc (suc depth), refl, (suc (suc depth), refl, refl))
postgres_weaves SqlFunction.RestFrom = λ depth. (suc depth, refl, (suc (suc depth), refl, refl))
postgres_weaves SqlFunction.PartFrom = λ depth. (suc depth, refl, (suc (suc depth), refl, (suc (suc depth), refl, refl)))
postgres_weaves SqlFunction.Trim = λ depth. (suc depth, refl, refl)
postgres_weaves SqlFunction.ToLower = λ depth. (suc depth, refl, refl)
postgres_weaves SqlFunction.ToUpper = λ depth. (suc depth, refl, refl)
postgres_weaves SqlFunction.YearOfDate = λ depth. (suc depth, refl, refl)
postgres_weaves SqlFunction.MonthOfDate = λ depth. (suc depth, refl, refl)
postgres_weaves SqlFunction.DayOfDate = λ depth. (suc depth, refl, refl)
postgres_weaves SqlFunction.YearOfMoment = λ depth. (suc (suc depth), refl, refl)
postgres_weaves SqlFunction.MonthOfMoment = λ depth. (suc (suc depth), refl, refl)
postgres_weaves SqlFunction.DayOfMoment = λ depth. (suc (suc depth), refl, refl)
postgres_weaves SqlFunction.Hour = λ depth. (suc (suc depth), refl, refl)
postgres_weaves SqlFunction.Minute = λ depth. (suc (suc depth), refl, refl)
postgres_weaves SqlFunction.Second = λ depth. (suc depth, refl, refl)
postgres_weaves SqlFunction.OffsetMinutes = λ depth. (suc depth, refl, refl)
postgres_weaves SqlFunction.DateOfMoment = λ depth. (suc depth, refl, refl)
postgres_weaves SqlFunction.Instant = λ depth. (suc depth, refl, refl)

sqlite_weaves : (function : SqlFunction) → WeavesQuietly (sqlite_function function)
sqlite_weaves SqlFunction.Contains = λ depth. (suc (suc depth), refl, (suc (suc depth), refl, refl))
sqlite_weaves SqlFunction.StartsWith = λ depth. (suc (suc depth), refl, (suc (suc depth), refl, refl))
sqlite_weaves SqlFunction.EndsWith = λ depth. (suc (suc depth), refl, (suc (suc depth), refl, refl))
sqlite_weaves SqlFunction.Concat = λ depth. (suc depth, refl, (suc depth, refl, refl))
sqlite_weaves SqlFunction.Length = λ depth. (suc depth, refl, refl)
sqlite_weaves SqlFunction.IndexOf = λ depth. (suc (suc depth), refl, (suc (suc depth), refl, refl))
sqlite_weaves SqlFunction.RestFrom = λ depth. (suc depth, refl, (suc (suc (suc depth)), refl, refl))
sqlite_weaves SqlFunction.PartFrom = λ depth. (suc depth, refl, (suc (suc (suc depth)), refl, (suc (suc (suc depth)), refl, refl)))
sqlite_weaves SqlFunction.Trim = λ depth. (suc depth, refl, refl)
sqlite_weaves SqlFunction.ToLower = λ depth. (suc depth, refl, refl)
sqlite_weaves SqlFunction.ToUpper = λ depth. (suc depth, refl, refl)
sqlite_weaves SqlFunction.YearOfDate = λ depth. (suc (suc depth), refl, refl)
sqlite_weaves SqlFunction.MonthOfDate = λ depth. (suc (suc depth), refl, refl)
sqlite_weaves SqlFunction.DayOfDate = λ depth. (suc (suc depth), refl, refl)
sqlite_weaves SqlFunction.YearOfMoment = λ depth. (suc (suc depth), refl, refl)
sqlite_weaves SqlFunction.MonthOfMoment = λ depth. (suc (suc depth), refl, refl)
sqlite_weaves SqlFunction.DayOfMoment = λ depth. (suc (suc depth), refl, refl)
sqlite_weaves SqlFunction.Hour = λ depth. (suc (suc depth), refl, refl)
sqlite_weaves SqlFunction.Minute = λ depth. (suc (suc depth), refl, refl)
sqlite_weaves SqlFunction.Second = λ depth. (suc (suc depth), refl, refl)
sqlite_weaves SqlFunction.OffsetMinutes = λ depth. (suc (suc depth), refl, refl)
sqlite_weaves SqlFunction.DateOfMoment = λ depth. (suc depth, refl, refl)
sqlite_weaves SqlFunction.Instant = λ depth. (suc (suc depth), refl, refl)

pub function_weaves : (dialect : Dialect) (function : SqlFunction) → WeavesQuietly (function_pieces dialect function)
function_weaves Dialect.PostgreSql function = postgres_weaves function
function_weaves Dialect.Sqlite function = sqlite_weaves function

-- ---- tables of codes

pub table_weaves : (dialect : Dialect) (table : LookUp) → WeavesQuietly (pieces_for_codes dialect table (arity_of_table table))
table_weaves Dialect.PostgreSql LookUp.Not = λ depth. (suc (suc (suc depth)), refl, refl)
table_weaves Dialect.PostgreSql LookUp.IsNull = λ depth. (suc (suc (suc depth)), refl, refl)
table_weaves Dialect.PostgreSql LookUp.IsNotNull = λ depth. (suc (suc (suc depth)), refl, refl)
table_weaves Dialect.PostgreSql LookUp.Never = λ depth. (suc (suc (suc depth)), refl, refl)
table_weaves Dialect.PostgreSql LookUp.And = λ depth. (suc (suc (suc depth)), refl, (suc (suc (suc depth)), refl, refl))
table_weaves Dialect.PostgreSql LookUp.Or = λ depth. (suc (suc (suc depth)), refl, (suc (suc (suc depth)), refl, refl))
table_weaves Dialect.PostgreSql LookUp.Equal = λ depth. (suc (suc (suc depth)), refl, (suc (suc (suc depth)), refl, refl))
table_weaves Dialect.PostgreSql LookUp.NotEqual = λ depth. (suc (suc (suc depth)), refl, (suc (suc (suc depth)), refl, refl))
table_weaves Dialect.PostgreSql LookUp.Greater = λ depth. (suc (suc (suc depth)), refl, (suc (suc (suc depth)), refl, refl))
table_weaves Dialect.PostgreSql LookUp.AtLeast = λ depth. (suc (suc (suc depth)), refl, (suc (suc (suc depth)), refl, refl))
table_weaves Dialect.PostgreSql LookUp.Less = λ depth. (suc (suc (suc depth)), refl, (suc (suc (suc depth)), refl, refl))
table_weaves Dialect.PostgreSql LookUp.AtMost = λ depth. (suc (suc (suc depth)), refl, (suc (suc (suc depth)), refl, refl))
table_weaves Dialect.Sqlite LookUp.Not = λ depth. (suc (suc depth), refl, refl)
table_weaves Dialect.Sqlite LookUp.IsNull = λ depth. (suc (suc depth), refl, refl)
table_weaves Dialect.Sqlite LookUp.IsNotNull = λ depth. (suc (suc depth), refl, refl)
table_weaves Dialect.Sqlite LookUp.Never = λ depth. (suc (suc depth), refl, refl)
table_weaves Dialect.Sqlite LookUp.And = λ depth. (suc (suc depth), refl, (suc (suc depth), refl, refl))
table_weaves Dialect.Sqlite LookUp.Or = λ depth. (suc (suc depth), refl, (suc (suc depth), refl, refl))
table_weaves Dialect.Sqlite LookUp.Equal = λ depth. (suc (suc depth), refl, (suc (suc depth), refl, refl))
table_weaves Dialect.Sqlite LookUp.NotEqual = λ depth. (suc (suc depth), refl, (suc (suc depth), refl, refl))
table_weaves Dialect.Sqlite LookUp.Greater = λ depth. (suc (suc depth), refl, (suc (suc depth), refl, refl))
table_weaves Dialect.Sqlite LookUp.AtLeast = λ depth. (suc (suc depth), refl, (suc (suc depth), refl, refl))
table_weaves Dialect.Sqlite LookUp.Less = λ depth. (suc (suc depth), refl, (suc (suc depth), refl, refl))
table_weaves Dialect.Sqlite LookUp.AtMost = λ depth. (suc (suc depth), refl, (suc (suc depth), refl, refl))
