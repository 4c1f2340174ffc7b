-- What trees of SQL evaluate to, as a check of what the definitions say.
use Rattle.std.specs.Prelude.{ℕ, pos}
use Rattle.edm_values.specs.Val.{whole}
use Rattle.odata_filter_operations.specs.Outcome.{Outcome, gives}
use Rattle.odata_syntax.specs.declared.binary_operator.ArithmeticOperator.{ArithmeticOperator}
use Rattle.sql_tree.specs.declared.sql_node.Digit.{Digit}
use Rattle.sql_tree.specs.declared.sql_node.SqlNode.{SqlNode}
use Rattle.sql_meaning.specs.SqlMeans.{SqlMeans}
use Rattle.sql_meaning.specs.Table.{Asked, Bound}
use Rattle.sql_tree.specs.Term.{Term, term, no_terms, more_terms}

abbrev pub number_term : Digit → Term
number_term value = term (SqlNode.Number value) no_terms

-- `1 / 0`
abbrev pub one_by_zero : Term
one_by_zero = term (SqlNode.Wide ArithmeticOperator.Div)
    (more_terms (number_term Digit.One) (more_terms (number_term Digit.Zero) no_terms))

-- it evaluates to nothing: the operator is outside its domain
abbrev pub HasNoMeaning : Term → Type 0
HasNoMeaning t = (asked : Asked) (bound : Bound) (o : Outcome) → ¬ SqlMeans asked bound t o

-- it evaluates to that number
abbrev pub MeansNumber : Term → ℕ → Type 0
MeansNumber t n = (asked : Asked) (bound : Bound) → SqlMeans asked bound t (gives (whole (pos n)))
