-- Comparison of two values (OData URL Conventions 4.01, sections 5.1.1.1.1 to 5.1.1.1.6).
use Rattle.std.specs.Prelude.{◌↔◌, IsTrue}
use Rattle.edm_values.specs.Val.{Val, boolean}
use Rattle.odata_functions.specs.Comparable.{AreComparableBy}
use Rattle.odata_functions.specs.Comparison.{ComparesTrue}
use Rattle.odata_syntax.specs.declared.binary_operator.ComparisonOperator.{ComparisonOperator}
use Rattle.odata_filter_operations.specs.Outcome.{Outcome, GivesSome}

-- the value is true if the fact holds, and else false
abbrev pub IsWhether : Type 0 → Val → Type 0
IsWhether Fact (boolean answer) = IsTrue answer ↔ Fact
IsWhether Fact _ = ⊥

-- whether the fact holds
abbrev pub GivesTruth : Type 0 → Outcome → Type 0
GivesTruth Fact = GivesSome (IsWhether Fact)

-- two values that the operator compares
abbrev pub CompareGives : ComparisonOperator → Val → Val → Outcome → Type 0
CompareGives operator l r o = AreComparableBy operator l r × GivesTruth (ComparesTrue operator l r) o
