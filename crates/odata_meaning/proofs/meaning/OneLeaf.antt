-- Each table gives at most one outcome.
use Rattle.std.proofs.Common.{◌≡◌, refl, sym, ◌∙◌, ap, ℕ, ℤ, List, Bool, true, false, IsTrue, Option, Some, None, Result}
use Rattle.edm_values.specs.Val.{Val, null, boolean, whole, fields, FieldVal, absent, present}
use Rattle.csdl_schema.specs.ExprType.{ExprType, single, primitive}
use Rattle.odata_functions.specs.Comparison.{ComparesTrue}
use Rattle.odata_functions.specs.Connectives.{not3}
use Rattle.odata_functions.specs.declared.arithmetic.ArithFault.{ArithFault}
use Rattle.odata_syntax.specs.declared.binary_operator.ArithmeticOperator.{ArithmeticOperator}
use Rattle.odata_syntax.specs.declared.binary_operator.ComparisonOperator.{ComparisonOperator}
use Rattle.odata_syntax.specs.declared.binary_operator.LogicalOperator.{LogicalOperator}
use Rattle.odata_syntax.specs.declared.binary_operator.BinaryOperator.{BinaryOperator}
use Rattle.odata_filter_operations.specs.CalculationGives.{CalculationGives, NegatedGives, number_outcome}
use Rattle.odata_filter_operations.specs.CompareGives.{CompareGives, GivesTruth, IsWhether}
use Rattle.odata_meaning.specs.NameGives.{FoundGives, StepGives, FieldGives}
use Rattle.odata_meaning.specs.OperatorGives.{OperatorGives, InType}
use Rattle.odata_filter_operations.specs.Outcome.{Outcome, gives}
use Rattle.odata_filter_operations.specs.TruthGives.{LogicalGives, JoinGives, NotGives, joined, truth_val}
use Rattle.odata_meaning.specs.private.LawsBelow.{OneEach}
use Rattle.odata_meaning.proofs.meaning.OneStep.{AtMostOne, same_one, GivesSome-one, After-one, InType-one}

false-true : IsTrue false → ⊥
false-true same = cc

IsWhether-one : (Fact : Type 0) (v w : Val) → IsWhether Fact v → IsWhether Fact w → v ≡ w
IsWhether-one Fact (boolean true) (boolean true) p q = refl
IsWhether-one Fact (boolean true) (boolean false) p q = absurd (false-true (q.1 (p.0 refl)))
IsWhether-one Fact (boolean false) (boolean true) p q = absurd (false-true (p.1 (q.0 refl)))
IsWhether-one Fact (boolean false) (boolean false) p q = refl
IsWhether-one Fact (boolean b) _ p q = absurd q
IsWhether-one Fact _ w p q = absurd p

pub GivesTruth-one : (Fact : Type 0) → AtMostOne (GivesTruth Fact)
GivesTruth-one Fact = GivesSome-one (IsWhether Fact) (IsWhether-one Fact)

pub CompareGives-one : (operator : ComparisonOperator) (v w : Val) → AtMostOne (CompareGives operator v w)
CompareGives-one operator v w a b p q = GivesTruth-one (ComparesTrue operator v w) a b p.1 q.1

pub JoinGives-one : (logical : LogicalOperator) (left : Option Bool) (v : Val) → AtMostOne (JoinGives logical left v)
JoinGives-one logical left null a b p q = same_one (gives (truth_val (joined logical left None))) a b p q
JoinGives-one logical left (boolean x) a b p q = same_one (gives (truth_val (joined logical left (Some x)))) a b p q
JoinGives-one logical left _ a b p q = absurd p

pub LogicalGives-one : (logical : LogicalOperator) (v : Val) (Right : Outcome → Type 0) → AtMostOne Right → AtMostOne (LogicalGives logical v Right)
LogicalGives-one LogicalOperator.And (boolean false) Right one a b p q = same_one (gives (boolean false)) a b p q
LogicalGives-one LogicalOperator.And (boolean true) Right one a b p q = After-one Right (JoinGives LogicalOperator.And (Some true)) one (JoinGives-one LogicalOperator.And (Some true)) a b p q
LogicalGives-one LogicalOperator.And null Right one a b p q = After-one Right (JoinGives LogicalOperator.And None) one (JoinGives-one LogicalOperator.And None) a b p q
LogicalGives-one LogicalOperator.Or (boolean true) Right one a b p q = same_one (gives (boolean true)) a b p q
LogicalGives-one LogicalOperator.Or (boolean false) Right one a b p q = After-one Right (JoinGives LogicalOperator.Or (Some false)) one (JoinGives-one LogicalOperator.Or (Some false)) a b p q
LogicalGives-one LogicalOperator.Or null Right one a b p q = After-one Right (JoinGives LogicalOperator.Or None) one (JoinGives-one LogicalOperator.Or None) a b p q
LogicalGives-one _ _ Right one a b p q = absurd p

pub NotGives-one : (v : Val) → AtMostOne (NotGives v)
NotGives-one null a b p q = same_one (gives (truth_val (not3 None))) a b p q
NotGives-one (boolean x) a b p q = same_one (gives (truth_val (not3 (Some x)))) a b p q
NotGives-one _ a b p q = absurd p

pub same_number : (x y : Result (Option ℤ) ArithFault) (a b : Outcome) → x ≡ y → a ≡ number_outcome x → b ≡ number_outcome y → a ≡ b
same_number x y a b same is_a is_b = is_a ∙ ap number_outcome same ∙ sym is_b

module _ (known : OneEach) where
  pub CalculationGives-one : (operator : ArithmeticOperator) (type : ExprType) (v w : Val) → AtMostOne (CalculationGives operator type v w)
  CalculationGives-one operator type null null a b p q = same_one (gives null) a b p q
  CalculationGives-one operator type null (whole y) a b p q = same_one (gives null) a b p q
  CalculationGives-one operator type (whole x) null a b p q = same_one (gives null) a b p q
  CalculationGives-one operator (single (primitive t)) (whole x) (whole y) a b p q =
      same_number p.0 q.0 a b (known.answer operator t (Some x) (Some y) p.0 q.0 p.1 q.1) p.2 q.2
  CalculationGives-one operator _ _ _ a b p q = absurd p

  pub NegatedGives-one : (type : ExprType) (v : Val) → AtMostOne (NegatedGives type v)
  NegatedGives-one type null a b p q = same_one (gives null) a b p q
  NegatedGives-one (single (primitive t)) (whole x) a b p q =
      same_number p.0 q.0 a b (known.negation t (Some x) p.0 q.0 p.1 q.1) p.2 q.2
  NegatedGives-one _ _ a b p q = absurd p

  pub OperatorGives-one : (operator : BinaryOperator) (NodeTyped : ExprType → Type 0) (v : Val) (Right : Outcome → Type 0)
      → ((s t : ExprType) → NodeTyped s → NodeTyped t → s ≡ t) → AtMostOne Right → AtMostOne (OperatorGives operator NodeTyped v Right)
  OperatorGives-one (BinaryOperator.Logical logical) NodeTyped v Right types one a b p q = LogicalGives-one logical v Right one a b p q
  OperatorGives-one (BinaryOperator.Comparison comparison) NodeTyped v Right types one a b p q =
      After-one Right (CompareGives comparison v) one (CompareGives-one comparison v) a b p q
  OperatorGives-one (BinaryOperator.Arithmetic arithmetic) NodeTyped v Right types one a b p q =
      After-one Right (λ w. InType NodeTyped (λ type. CalculationGives arithmetic type v w)) one
      (λ w. InType-one NodeTyped (λ type. CalculationGives arithmetic type v w) types (λ type. CalculationGives-one arithmetic type v w)) a b p q

pub FieldGives-one : (h : FieldVal) → AtMostOne (FieldGives h)
FieldGives-one (present v) a b p q = same_one (gives v) a b p q
FieldGives-one absent a b p q = absurd p

pub StepGives-one : (v : Val) (name : List ℕ) → AtMostOne (StepGives v name)
StepGives-one null name a b p q = same_one (gives null) a b p q
StepGives-one (fields held) name a b p q = FieldGives-one (held name) a b p q
StepGives-one _ name a b p q = absurd p

pub FoundGives-one : (found : Option Val) (entity : Val) (name : List ℕ) → AtMostOne (FoundGives found entity name)
FoundGives-one (Some v) entity name a b p q = same_one (gives v) a b p q
FoundGives-one None entity name a b p q = StepGives-one entity name a b p q
