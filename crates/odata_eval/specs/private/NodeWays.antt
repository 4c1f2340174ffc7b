-- For private clauses: the way from the first node of a filter's list down to another one, by operands.
use Rattle.std.specs.Prelude.{ℕ, ◌≡◌, ◌<◌, ◌≤◌, List, [], ◌∷◌, Option, Some, None, IsSomeAnd, slice_get}
use Rattle.odata_syntax.specs.Tree.{Tree}
use Rattle.odata_checked_filter.specs.Stands.{SideBySide}
use Rattle.filter_context.specs.private.ContextModel.{ContextModel}
use Rattle.filter_context.specs.private.EvalContext.{OperandHere}
use Rattle.filter_context.specs.private.Place.{OperandStands}
use Rattle.odata_eval.specs.NodeOutcome.{IsWithinBody}

-- an operand stands at the first index, and the second one lies in its tree
pub record LiesIn (context : ContextModel) (outer index : ℕ) : Type 0 where
  pub stands : OperandStands context outer
  pub from_there : outer ≤ index
  pub inside : IsSomeAnd (slice_get context.list.nodes outer) (λ found. index < found.stop)

-- it lies in that of an operand further down, or in a body of a lambda operator
abbrev pub LiesFurther : ContextModel → ℕ → ℕ → Option ℕ → Type 0
LiesFurther context outer index (Some operand) = LiesIn context operand index × (outer < operand)
LiesFurther context outer index None = IsWithinBody context.list index

-- operands stand one after another, from one index up to another
abbrev pub OperandsInLine : ContextModel → List Tree → ℕ → ℕ → Type 0
OperandsInLine context [] i j = i ≡ j
OperandsInLine context (tree ∷ trees) i j =
    SideBySide (λ middle. OperandHere context i middle tree) (λ middle. OperandsInLine context trees middle j)

-- so they do from the first index on, further than the second one
pub record OperandsFrom (context : ContextModel) (child index : ℕ) : Type 0 where
  pub trees : List Tree
  pub stop : ℕ
  pub line : OperandsInLine context trees child stop
  pub beyond : index < stop
