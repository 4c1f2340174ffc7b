-- What the tables of codes are: the filter's connectives and comparisons, a fault on the left being the outcome, and
-- one on the right where that side is evaluated (OData URL Conventions 4.01, section 5.1.1.1).
use Rattle.std.specs.Prelude.{◌≡◌, ◌<◌, ℕ, ◌+◌, ◌*◌, Some, slice_get, unwrap_or}
use Rattle.edm_values.specs.Val.{null}
use Rattle.odata_syntax.specs.declared.binary_operator.ComparisonOperator.{ComparisonOperator}
use Rattle.odata_filter_operations.specs.CompareGives.{CompareGives}
use Rattle.odata_filter_operations.specs.LeftFirst.{After, Then}
use Rattle.odata_filter_operations.specs.Outcome.{Outcome}
use Rattle.odata_filter_operations.specs.TruthGives.{LogicalGives, NotGives}
use Rattle.odata_syntax.specs.declared.binary_operator.LogicalOperator.{LogicalOperator}
use Rattle.sql_tree.specs.declared.look_up.LookUp.{LookUp}
use Rattle.sql_tree.specs.TableDigits.{arity_of_table, digits_of}
use Rattle.sql_meaning.specs.Codes.{IsCoded, code_of}

-- at the codes of two outcomes the table has the code of what the connective gives
abbrev pub IsTableOf : LookUp → LogicalOperator → Type 0
IsTableOf table connective =
    (left right o : Outcome) → IsCoded left → IsCoded right
    → Then left (λ l. LogicalGives connective l (λ r. r ≡ right)) o
    → slice_get (digits_of table) (5 * code_of left + code_of right) ≡ Some (code_of o)

-- that of `not` likewise at one code
abbrev pub IsTableOfNot : LookUp → Type 0
IsTableOfNot table =
    (operand o : Outcome) → IsCoded operand → Then operand NotGives o
    → slice_get (digits_of table) (code_of operand) ≡ Some (code_of o)

-- that of a comparison of truth values, null and faults, likewise at two codes
abbrev pub IsTableOfComparison : LookUp → ComparisonOperator → Type 0
IsTableOfComparison table operator =
    (left right o : Outcome) → IsCoded left → IsCoded right
    → Then left (λ l. After (λ r. r ≡ right) (CompareGives operator l)) o
    → slice_get (digits_of table) (5 * code_of left + code_of right) ≡ Some (code_of o)

-- that of a comparison with null, whichever side that is, at the code of the other
pub record IsTableBesideNull (table : LookUp) (operator : ComparisonOperator) : Type 0 where
  pub of_one : arity_of_table table ≡ 1
  pub right_null :
      (left o : Outcome) → IsCoded left → Then left (λ l. CompareGives operator l null) o
      → slice_get (digits_of table) (code_of left) ≡ Some (code_of o)
  pub left_null :
      (right o : Outcome) → IsCoded right → Then right (λ r. CompareGives operator null r) o
      → slice_get (digits_of table) (code_of right) ≡ Some (code_of o)

-- what a table of two codes has at them
abbrev pub looked_up : LookUp → ℕ → ℕ → ℕ
looked_up table a b = unwrap_or (slice_get (digits_of table) (5 * a + b)) 5

-- three codes evaluate to the same whichever two are looked up first, so a chain may be a balanced tree
abbrev pub IsAssociative : LookUp → Type 0
IsAssociative table =
    (a b c : ℕ) → a < 5 → b < 5 → c < 5
    → looked_up table (looked_up table a b) c ≡ looked_up table a (looked_up table b c)
