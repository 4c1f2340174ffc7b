-- What evaluating an expression costs: how many bodies of lambda operators its meaning asks for, how many values it
-- compares after `in` within such bodies, items of lists and members of collections, and the whole KiB of the texts that
-- its comparisons and functions take and make (OData URL Conventions 4.01, sections 5.1.1.1, 5.1.1.5 and 5.1.1.13).
use Rattle.std.specs.Prelude.{◌≡◌, ◌+◌, ℕ, [], ◌∷◌, List, true, false}
use Rattle.edm_values.specs.MomentParts.{MomentParts}
use Rattle.edm_values.specs.Val.{Val, null, boolean, items, Vals, no_items, item}
use Rattle.csdl_schema.specs.ExprType.{ExprType, SingleType, collection, single}
use Rattle.csdl_schema.specs.SchemaModel.{Slots}
use Rattle.odata_syntax.specs.declared.binary_operator.ComparisonOperator.TheVariants.{Eq}
use Rattle.odata_syntax.specs.Tree.{Shape, Tree, any_item, binary, call, count, has, in_list, in_path, it, lambda, literal, logical_not, member, name, negation, node}
use Rattle.odata_syntax.specs.Tree.{Trees, no_trees, more_trees}
use Rattle.odata_syntax.specs.declared.node.Quantifier.{Quantifier}
use Rattle.odata_syntax.specs.declared.node.Quantifier.TheVariants.{Any, All}
use Rattle.odata_syntax.specs.declared.binary_operator.LogicalOperator.TheVariants.{And, Or}
use Rattle.odata_syntax.specs.declared.binary_operator.BinaryOperator.{BinaryOperator}
use Rattle.odata_syntax.specs.declared.binary_operator.BinaryOperator.TheVariants.{Logical}
use Rattle.odata_signatures.specs.Typed.{Typed}
use Rattle.odata_filter_operations.specs.CompareGives.{CompareGives}
use Rattle.odata_filter_operations.specs.Outcome.{Outcome, gives, overflow, divides_by_zero}
use Rattle.odata_meaning.specs.Environment.{Environment, bound_over, scope_of}
use Rattle.odata_meaning.specs.Means.{Means}
use Rattle.odata_meaning.specs.OneByOne.{ItemAlone}
use Rattle.odata_filter_operations.specs.TextCosts.{CallCosts, comparison_cost, operator_cost}

abbrev pub CostsNothing : ℕ → Type 0
CostsNothing n = n ≡ 0

-- so many, whatever is asked
abbrev pub CostsExactly : ℕ → ℕ → Type 0
CostsExactly cost n = n ≡ cost

-- so many, and what more is asked for
abbrev pub CostsMore : ℕ → (ℕ → Type 0) → ℕ → Type 0
CostsMore first More n = (more : ℕ) × More more × (n ≡ first + more)

-- what follows a first outcome costs: a value goes on, after a fault nothing is asked for
abbrev pub CostThen : Outcome → (Val → ℕ → Type 0) → ℕ → Type 0
CostThen (gives v) GoesOn n = GoesOn v n
CostThen overflow GoesOn n = CostsNothing n
CostThen divides_by_zero GoesOn n = CostsNothing n

-- an operand's cost, and that of what follows its outcome
pub record CostAfter
    (Operand : Outcome → Type 0) (OperandCosts : ℕ → Type 0) (GoesOn : Val → ℕ → Type 0) (n : ℕ) : Type 0 where
  pub outcome : Outcome
  pub is : Operand outcome
  pub own : ℕ
  pub costs : OperandCosts own
  pub rest : ℕ
  pub follows : CostThen outcome GoesOn rest
  pub sum : n ≡ own + rest

-- after the left value of an operator its right side; a left value that decides `and` or `or` asks for nothing more
abbrev pub RightCosts : BinaryOperator → Val → (ℕ → Type 0) → ℕ → Type 0
RightCosts (Logical And) (boolean false) Right n = CostsNothing n
RightCosts (Logical Or) (boolean true) Right n = CostsNothing n
RightCosts operator l Right n = Right n

-- a value of a body that decides asks for no more members, else the others are asked
abbrev pub OthersCost : Quantifier → (ℕ → Type 0) → Val → ℕ → Type 0
OthersCost Any Others (boolean true) n = CostsNothing n
OthersCost All Others (boolean false) n = CostsNothing n
OthersCost All Others null n = CostsNothing n
OthersCost quantifier Others v n = Others n

-- `any` or `all` over members, from the first one on: so many for each body, and what the body itself costs
abbrev pub MembersCost :
    ℕ → Quantifier → (Val → Outcome → Type 0) → (Val → ℕ → Type 0) → Vals → ℕ → Type 0
MembersCost each quantifier Body BodyCosts no_items = CostsNothing
MembersCost each quantifier Body BodyCosts (item v more) =
    CostsMore each
    (CostAfter (Body v) (BodyCosts v) (OthersCost quantifier (MembersCost each quantifier Body BodyCosts more)))

-- over null nothing, over a collection one for each body, with a variable of the members' type
abbrev pub LambdaCosts :
    Quantifier → (ExprType → Type 0) → (ExprType → Val → Outcome → Type 0) → (ExprType → Val → ℕ → Type 0)
    → Val → ℕ → Type 0
LambdaCosts quantifier BaseTyped Body BodyCosts null n = CostsNothing n
LambdaCosts quantifier BaseTyped Body BodyCosts (items values) n =
    (type : SingleType) × BaseTyped (collection type)
    × MembersCost 1 quantifier (Body (single type)) (BodyCosts (single type)) values n
LambdaCosts quantifier BaseTyped Body BodyCosts _ n = ⊥

-- a value that is compared after `in` counts within a body, where there is a range variable
abbrev pub item_cost : Environment → ℕ
item_cost [] = 0
item_cost (innermost ∷ others) = 1

-- over null nothing, over a collection so many for each member that is compared with a value, up to one that is equal
abbrev pub AmongCosts : ℕ → Val → Val → ℕ → Type 0
AmongCosts each l null n = CostsNothing n
AmongCosts each l (items values) n =
    MembersCost each Any (CompareGives Eq l) (λ v. CostsExactly (comparison_cost l v)) values n
AmongCosts each l _ n = ⊥

-- the costs of a tree, under what its meaning is given under
abbrev mutual
  pub Costs : Slots → List ℕ → MomentParts → Val → Environment → Tree → ℕ → Type 0
  Costs slots root now entity environment (node start stop shape) = ShapeCosts slots root now entity environment shape

  pub ShapeCosts : Slots → List ℕ → MomentParts → Val → Environment → Shape → ℕ → Type 0
  ShapeCosts slots root now entity environment (literal kind spelling) = CostsNothing
  ShapeCosts slots root now entity environment it = CostsNothing
  ShapeCosts slots root now entity environment (name word) = CostsNothing
  ShapeCosts slots root now entity environment (member base word) = Costs slots root now entity environment base
  ShapeCosts slots root now entity environment (count base) = Costs slots root now entity environment base
  ShapeCosts slots root now entity environment (negation operand) = Costs slots root now entity environment operand
  ShapeCosts slots root now entity environment (logical_not operand) = Costs slots root now entity environment operand
  ShapeCosts slots root now entity environment (binary operator left right) =
      CostAfter (Means slots root now entity environment left) (Costs slots root now entity environment left)
      (λ l. RightCosts operator l
      (CostAfter (Means slots root now entity environment right) (Costs slots root now entity environment right)
      (λ r. CostsExactly (operator_cost operator l r))))
  ShapeCosts slots root now entity environment (has left right) =
      CostAfter (Means slots root now entity environment left) (Costs slots root now entity environment left)
      (λ l. Costs slots root now entity environment right)
  ShapeCosts slots root now entity environment (in_path left path) =
      CostAfter (Means slots root now entity environment left) (Costs slots root now entity environment left)
      (λ l.
      CostAfter (Means slots root now entity environment path) (Costs slots root now entity environment path)
      (AmongCosts (item_cost environment) l))
  ShapeCosts slots root now entity environment (in_list left listed) =
      CostAfter (Means slots root now entity environment left) (Costs slots root now entity environment left)
      (λ l. ItemsCost slots root now entity environment (Typed slots root (scope_of environment) left) l listed)
  ShapeCosts slots root now entity environment (call asked arguments) =
      ArgumentsCost slots root now entity environment arguments (CallCosts asked)
  ShapeCosts slots root now entity environment (any_item base) = Costs slots root now entity environment base
  ShapeCosts slots root now entity environment (lambda quantifier base variable body) =
      CostAfter (Means slots root now entity environment base) (Costs slots root now entity environment base)
      (LambdaCosts quantifier (Typed slots root (scope_of environment) base)
      (λ type v. Means slots root now entity (bound_over environment variable type v) body)
      (λ type v. Costs slots root now entity (bound_over environment variable type v) body))

  -- the items of a list after a left value, up to one that is equal or has a fault
  pub ItemsCost :
      Slots → List ℕ → MomentParts → Val → Environment → (ExprType → Type 0) → Val → Trees → ℕ → Type 0
  ItemsCost slots root now entity environment OtherSide l no_trees = CostsNothing
  ItemsCost slots root now entity environment OtherSide l (more_trees tree more) =
      CostsMore (item_cost environment)
      (CostAfter (ItemAlone slots root now entity environment OtherSide tree)
      (Costs slots root now entity environment tree)
      (λ v. CostAfter (CompareGives Eq l v) (CostsExactly (comparison_cost l v))
      (OthersCost Any (ItemsCost slots root now entity environment OtherSide l more))))

  -- the arguments of a call one after another, up to a fault, and what their values cost it
  pub ArgumentsCost :
      Slots → List ℕ → MomentParts → Val → Environment → Trees → (List Val → ℕ → Type 0) → ℕ → Type 0
  ArgumentsCost slots root now entity environment no_trees Goes = Goes []
  ArgumentsCost slots root now entity environment (more_trees tree more) Goes =
      CostAfter (Means slots root now entity environment tree) (Costs slots root now entity environment tree)
      (λ v. ArgumentsCost slots root now entity environment more (λ values. Goes (v ∷ values)))
