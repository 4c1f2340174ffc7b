-- Where what SQL makes of truth values, and of values that are not null, is what the filter does.
use Rattle.std.specs.Prelude.{◌≡◌, ◌≢◌, List, Bool, true, false, not, Option}
use Rattle.edm_values.specs.Val.{Val, boolean, null}
use Rattle.odata_syntax.specs.declared.binary_operator.ComparisonOperator.{ComparisonOperator}
use Rattle.odata_syntax.specs.declared.binary_operator.LogicalOperator.{LogicalOperator}
use Rattle.odata_functions.specs.Connectives.{and3, or3}
use Rattle.odata_filter_operations.specs.CompareGives.{CompareGives}
use Rattle.odata_filter_operations.specs.LeftFirst.{Then}
use Rattle.odata_filter_operations.specs.Outcome.{Outcome, gives}
use Rattle.odata_filter_operations.specs.TruthGives.{LogicalGives}
use Rattle.odata_signatures.specs.declared.function.Function.{Function}
use Rattle.sql_meaning.specs.Codes.{IsCoded}
use Rattle.sql_meaning.specs.OperatorsGive.{StrictlyGives, truth}
use Rattle.sql_tree.specs.declared.sql_node.SqlFunction.{SqlFunction}
use Rattle.sql_draft.specs.declared.sql_operand.Operand.{Operand}
use Rattle.sql_outcomes.specs.Calls.{IsSqlFunctionOf}
use Rattle.sql_outcomes.specs.Connected.{connected}
use Rattle.sql_outcomes.specs.ComparedSides.{AreOpposite, IsEnough}
use Rattle.sql_outcomes.specs.TrueWhere.{IsTrueWhere}

-- ---- connectives

-- what `and` and `or` evaluate to is what they make of the outcomes of both sides
abbrev pub ConnectedIs : Type 0
ConnectedIs =
    (connective : LogicalOperator) (a b o : Outcome) → IsCoded a → IsCoded b
    → Then a (λ l. LogicalGives connective l (λ r. r ≡ b)) o → o ≡ connected connective a b

-- in a chain it does not matter which two are connected first
abbrev pub ChainsRegroup : Type 0
ChainsRegroup =
    (connective : LogicalOperator) (a b c : Outcome) → IsCoded a → IsCoded b → IsCoded c
    → connected connective (connected connective a b) c ≡ connected connective a (connected connective b c)

-- `and` of conditions that are true exactly where both terms are, is true exactly where `and` of these is
abbrev pub BothTrue : Type 0
BothTrue =
    (a b : Outcome) (s t : Option Bool) → IsCoded a → IsCoded b
    → IsTrueWhere (a ≡ gives (boolean true)) (truth s) → IsTrueWhere (b ≡ gives (boolean true)) (truth t)
    → IsTrueWhere (connected LogicalOperator.And a b ≡ gives (boolean true)) (truth (and3 s t))

-- of those that are true exactly where both are false, where `or` of these is
abbrev pub BothFalse : Type 0
BothFalse =
    (a b : Outcome) (s t : Option Bool) → IsCoded a → IsCoded b
    → IsTrueWhere (a ≡ gives (boolean false)) (truth s) → IsTrueWhere (b ≡ gives (boolean false)) (truth t)
    → IsTrueWhere (connected LogicalOperator.Or a b ≡ gives (boolean false)) (truth (and3 s t))

-- `or` of them likewise, where the first term is no fault
abbrev pub OneTrue : Type 0
OneTrue =
    (v : Val) (b : Outcome) (s t : Option Bool) → IsCoded (gives v) → IsCoded b
    → IsTrueWhere (gives v ≡ gives (boolean true)) (truth s) → IsTrueWhere (b ≡ gives (boolean true)) (truth t)
    → IsTrueWhere (connected LogicalOperator.Or (gives v) b ≡ gives (boolean true)) (truth (or3 s t))

abbrev pub OneFalse : Type 0
OneFalse =
    (v : Val) (b : Outcome) (s t : Option Bool) → IsCoded (gives v) → IsCoded b
    → IsTrueWhere (gives v ≡ gives (boolean false)) (truth s) → IsTrueWhere (b ≡ gives (boolean false)) (truth t)
    → IsTrueWhere (connected LogicalOperator.And (gives v) b ≡ gives (boolean false)) (truth (or3 s t))

-- ---- comparisons

-- where enough sides are not null, the comparison of SQL is true exactly where that of the filter is
abbrev pub EnoughCompare : Type 0
EnoughCompare =
    (operator : ComparisonOperator) (l r : Val) (o : Outcome) (left right : Bool)
    → IsEnough operator left right → (left ≡ false → l ≢ null) → (right ≡ false → r ≢ null)
    → CompareGives operator l r o
    → (t : Option Bool) × StrictlyGives operator l r (truth t)
    × IsTrueWhere (o ≡ gives (boolean true)) (truth t)

-- of two values that are not null the opposite operator makes the other truth value
abbrev pub OppositesDiffer : Type 0
OppositesDiffer =
    (operator other : ComparisonOperator) (l r : Val) (o : Outcome) → AreOpposite operator other
    → l ≢ null → r ≢ null → CompareGives operator l r o
    → (b : Bool) × (o ≡ gives (boolean b)) × CompareGives other l r (gives (boolean (not b)))

-- ---- functions

-- the length of a text and where a part of it stands, but that SQL does not bound them to Int32
abbrev pub CountsAgree : Type 0
CountsAgree =
    (operands : List Operand)
    → IsSqlFunctionOf Function.Length operands SqlFunction.Length
    × IsSqlFunctionOf Function.IndexOf operands SqlFunction.IndexOf
