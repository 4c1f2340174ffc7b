-- What `and` and `or` make of outcomes (OData URL Conventions 4.01, section 5.1.1.1).
use Rattle.std.specs.Prelude.{List, [], ◌∷◌, Bool, true, false, Option, Some, None}
use Rattle.edm_values.specs.Val.{Val, boolean}
use Rattle.odata_filter_operations.specs.Outcome.{Outcome, gives}
use Rattle.odata_filter_operations.specs.TruthGives.{joined}
use Rattle.odata_syntax.specs.declared.binary_operator.LogicalOperator.{LogicalOperator}
use Rattle.sql_meaning.specs.OperatorsGive.{truth}

abbrev pub truth_in : Val → Option Bool
truth_in (boolean b) = Some b
truth_in v = None

-- what a connective makes of two outcomes: a left side that decides is the outcome, and a fault is
abbrev pub connected : LogicalOperator → Outcome → Outcome → Outcome
connected LogicalOperator.And (gives (boolean false)) right = gives (boolean false)
connected LogicalOperator.Or (gives (boolean true)) right = gives (boolean true)
connected connective (gives l) (gives r) = truth (joined connective (truth_in l) (truth_in r))
connected connective (gives l) right = right
connected connective left right = left

-- and of a chain of them
abbrev pub chained : LogicalOperator → Outcome → List Outcome → Outcome
chained connective o [] = o
chained connective o (p ∷ ps) = chained connective (connected connective o p) ps
