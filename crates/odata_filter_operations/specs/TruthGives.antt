-- Logic on three values (OData URL Conventions 4.01, sections 5.1.1.1.7 to 5.1.1.1.9).
use Rattle.std.specs.Prelude.{◌≡◌, Bool, true, false, Option, Some, None}
use Rattle.edm_values.specs.Val.{Val, null, boolean}
use Rattle.odata_functions.specs.Connectives.{and3, or3, not3}
use Rattle.odata_syntax.specs.declared.binary_operator.LogicalOperator.{LogicalOperator}
use Rattle.odata_syntax.specs.declared.binary_operator.LogicalOperator.TheVariants.{And, Or}
use Rattle.odata_filter_operations.specs.LeftFirst.{After}
use Rattle.odata_filter_operations.specs.Outcome.{Outcome, gives}

-- a truth value, or null for none
abbrev pub truth_val : Option Bool → Val
truth_val (Some b) = boolean b
truth_val None = null

abbrev pub joined : LogicalOperator → Option Bool → Option Bool → Option Bool
joined And left right = and3 left right
joined Or left right = or3 left right

-- a left side that does not decide, beside the value of the right side
abbrev pub JoinGives : LogicalOperator → Option Bool → Val → Outcome → Type 0
JoinGives logical left null o = o ≡ gives (truth_val (joined logical left None))
JoinGives logical left (boolean b) o = o ≡ gives (truth_val (joined logical left (Some b)))
JoinGives logical left _ o = ⊥

-- false decides `and`, true decides `or`; else the right side is evaluated too
abbrev pub LogicalGives : LogicalOperator → Val → (Outcome → Type 0) → Outcome → Type 0
LogicalGives And (boolean false) Right o = o ≡ gives (boolean false)
LogicalGives And (boolean true) Right o = After Right (JoinGives And (Some true)) o
LogicalGives And null Right o = After Right (JoinGives And None) o
LogicalGives Or (boolean true) Right o = o ≡ gives (boolean true)
LogicalGives Or (boolean false) Right o = After Right (JoinGives Or (Some false)) o
LogicalGives Or null Right o = After Right (JoinGives Or None) o
LogicalGives logical _ Right o = ⊥

-- `not` of a truth value or null
abbrev pub NotGives : Val → Outcome → Type 0
NotGives null o = o ≡ gives (truth_val (not3 None))
NotGives (boolean b) o = o ≡ gives (truth_val (not3 (Some b)))
NotGives _ o = ⊥
