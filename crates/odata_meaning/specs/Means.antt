-- What an expression evaluates to on an entity (OData URL Conventions 4.01, section 5.1.1).
use Rattle.std.specs.Prelude.{◌≡◌, ℕ, zero, suc, List, [], ◌∷◌, length}
use Rattle.edm_values.specs.Val.{Val}
use Rattle.edm_values.specs.MomentParts.{MomentParts}
use Rattle.odata_syntax.specs.Spans.{list_of_trees}
use Rattle.odata_syntax.specs.Tree.{Shape, Tree, any_item, binary, call, count, has, in_list, in_path, it, lambda, literal, logical_not, member, name, negation, node}
use Rattle.odata_syntax.specs.Tree.{Trees, no_trees, more_trees}
use Rattle.csdl_schema.specs.SchemaModel.{Slots}
use Rattle.odata_signatures.specs.OperatorTyped.{NegationTyped, OperatorTyped}
use Rattle.csdl_schema.specs.ExprType.{ExprType}
use Rattle.odata_syntax.specs.declared.binary_operator.BinaryOperator.{BinaryOperator}
use Rattle.odata_signatures.specs.Reads.{OfEquality, ReadsNumber}
use Rattle.odata_signatures.specs.Sides.{Between}
use Rattle.odata_signatures.specs.Typed.{OperandTyped, OperandsTyped, Typed}
use Rattle.odata_filter_operations.specs.CalculationGives.{NegatedGives}
use Rattle.odata_filter_operations.specs.CallGives.{CallMeans}
use Rattle.odata_filter_operations.specs.CollectionGives.{AnyItemGives, CountGives}
use Rattle.odata_meaning.specs.Environment.{Environment, bound_over, scope_of}
use Rattle.odata_filter_operations.specs.HasGives.{HasGives}
use Rattle.odata_filter_operations.specs.LambdaGives.{InGives, ItemsGive, LambdaGives}
use Rattle.odata_filter_operations.specs.LeftFirst.{After}
use Rattle.odata_meaning.specs.LiteralGives.{LiteralGives}
use Rattle.odata_meaning.specs.NameGives.{NameGives, StepGives}
use Rattle.odata_meaning.specs.OperatorGives.{InType, SidesGive}
use Rattle.odata_filter_operations.specs.Outcome.{NoOutcome, Outcome, gives}
use Rattle.odata_meaning.specs.ReadGives.{OperandGives}
use Rattle.odata_filter_operations.specs.TruthGives.{NotGives}

-- an operator between two trees of these types and outcomes; an enumeration literal without its type has its number
abbrev pub BinaryGives :
    Slots → BinaryOperator → (ExprType → Type 0) → (ExprType → Type 0) → Tree → Tree → (Outcome → Type 0)
    → (Outcome → Type 0) → Outcome → Type 0
BinaryGives slots operator LeftTyped RightTyped left right Left Right =
    SidesGive operator (OperandsTyped LeftTyped RightTyped (Between (OperatorTyped slots operator) left right))
    (OperandGives (ReadsNumber slots (OfEquality operator RightTyped) left) Left)
    (OperandGives (ReadsNumber slots (OfEquality operator LeftTyped) right) Right)

-- the outcomes of a tree under the types' properties, the filtered type's name, the moment that `now` stands for, the
-- entity and the variables around the tree, by whose types operands of arithmetic and members of collections have
-- theirs; a tree for which no case applies has none
abbrev mutual
  pub Means : Slots → List ℕ → MomentParts → Val → Environment → Tree → Outcome → Type 0
  Means slots root now entity environment (node start stop shape) = ShapeMeans slots root now entity environment shape

  pub ShapeMeans : Slots → List ℕ → MomentParts → Val → Environment → Shape → Outcome → Type 0
  ShapeMeans slots root now entity environment (literal kind spelling) = LiteralGives slots kind spelling
  ShapeMeans slots root now entity environment it = λ o. o ≡ gives entity
  ShapeMeans slots root now entity environment (name word) = NameGives environment entity word
  ShapeMeans slots root now entity environment (member base word) =
      After (Means slots root now entity environment base) (λ v. StepGives v word)
  ShapeMeans slots root now entity environment (count base) =
      After (Means slots root now entity environment base) CountGives
  ShapeMeans slots root now entity environment (negation operand) =
      After (Means slots root now entity environment operand)
      (λ v. InType (OperandTyped (Typed slots root (scope_of environment) operand) NegationTyped)
      (λ type. NegatedGives type v))
  ShapeMeans slots root now entity environment (logical_not operand) =
      After (Means slots root now entity environment operand) NotGives
  ShapeMeans slots root now entity environment (binary operator left right) =
      BinaryGives slots operator (Typed slots root (scope_of environment) left)
      (Typed slots root (scope_of environment) right) left right (Means slots root now entity environment left)
      (Means slots root now entity environment right)
  ShapeMeans slots root now entity environment (has left right) =
      After (Means slots root now entity environment left)
      (λ l. After (OperandGives (ReadsNumber slots (Typed slots root (scope_of environment) left) right)
      (Means slots root now entity environment right)) (HasGives l))
  ShapeMeans slots root now entity environment (in_list left items) =
      After (Means slots root now entity environment left)
      (λ l. ItemsGive l (length (list_of_trees items))
      (ItemMeans slots root now entity environment (Typed slots root (scope_of environment) left) items))
  ShapeMeans slots root now entity environment (in_path left path) =
      After (Means slots root now entity environment left)
      (λ l. After (Means slots root now entity environment path) (InGives l))
  ShapeMeans slots root now entity environment (call asked arguments) =
      CallMeans now asked (ArgumentsMean slots root now entity environment arguments)
  ShapeMeans slots root now entity environment (any_item base) =
      After (Means slots root now entity environment base) AnyItemGives
  ShapeMeans slots root now entity environment (lambda quantifier base variable body) =
      After (Means slots root now entity environment base)
      (LambdaGives quantifier (Typed slots root (scope_of environment) base)
      (λ type v. Means slots root now entity (bound_over environment variable type v) body))

  -- the item of a list at an index, where the left operand is of one of these types
  pub ItemMeans :
      Slots → List ℕ → MomentParts → Val → Environment → (ExprType → Type 0) → Trees → ℕ → Outcome → Type 0
  ItemMeans slots root now entity environment OtherSide no_trees place = NoOutcome
  ItemMeans slots root now entity environment OtherSide (more_trees tree more) zero =
      OperandGives (ReadsNumber slots OtherSide tree) (Means slots root now entity environment tree)
  ItemMeans slots root now entity environment OtherSide (more_trees tree more) (suc place) =
      ItemMeans slots root now entity environment OtherSide more place

  -- the arguments of a call one after another, and what follows their values
  pub ArgumentsMean :
      Slots → List ℕ → MomentParts → Val → Environment → Trees → (List Val → Outcome → Type 0) → Outcome → Type 0
  ArgumentsMean slots root now entity environment no_trees Goes = Goes []
  ArgumentsMean slots root now entity environment (more_trees tree more) Goes =
      After (Means slots root now entity environment tree)
      (λ v. ArgumentsMean slots root now entity environment more (λ values. Goes (v ∷ values)))
