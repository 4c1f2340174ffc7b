-- The terms of chains of `and` and of `or`.
use Rattle.std.specs.Prelude.{◌≡◌, ◌<◌, ◌≤◌, ℕ, List, [], ◌∷◌, Some, IsSomeAnd, length, slice_get}
use Rattle.std.specs.List.{AllByRecursion}
use Rattle.odata_checked_filter.specs.Filter.{Filter}
use Rattle.odata_checked_filter.specs.declared.checked_node.CheckedNode.{CheckedNode}
use Rattle.odata_checked_filter.specs.declared.checked_node.NodeKind.{NodeKind}
use Rattle.odata_filter_operations.specs.Outcome.{Outcome}
use Rattle.odata_syntax.specs.declared.binary_operator.LogicalOperator.{LogicalOperator}
use Rattle.odata_syntax.specs.declared.binary_operator.BinaryOperator.{BinaryOperator}
use Rattle.sql_meaning.specs.Codes.{IsCoded}
use Rattle.sql_draft.specs.Translated.{IsTruthAt}
use Rattle.sql_draft.specs.World.{IsAskedOf, OfPlace, Question, World}
use Rattle.sql_outcomes.specs.Connected.{chained}

-- what each node at these indices evaluates to
abbrev pub TermsHave : Filter → List ℕ → World → List Outcome → Type 0
TermsHave filter [] world os = os ≡ []
TermsHave filter (place ∷ places) world [] = ⊥
TermsHave filter (place ∷ places) world (o ∷ os) = OfPlace filter place world o × TermsHave filter places world os

-- what their chain does
pub record ChainHas
    (filter : Filter) (connective : LogicalOperator) (places : List ℕ) (world : World) (o : Outcome) : Type 0 where
  pub first : Outcome
  pub rest : List Outcome
  pub have : TermsHave filter places world (first ∷ rest)
  pub coded : AllByRecursion IsCoded (first ∷ rest)
  pub is : o ≡ chained connective first rest

-- the node at the index is that connective
abbrev pub IsConnective : Filter → ℕ → LogicalOperator → Type 0
IsConnective filter place connective =
    IsSomeAnd (slice_get filter.list.nodes place) (λ node. (operator : BinaryOperator)
    × (node.kind ≡ NodeKind.Binary operator) × (operator ≡ BinaryOperator.Logical connective))

-- the terms of the chain that the node at the index is the top of: each stands after it, and what it evaluates to is
-- what their chain does
pub record IsChain (question : Question) (connective : LogicalOperator) (place : ℕ) (terms : List ℕ) : Type 0 where
  pub some : 0 < length terms
  pub few : length terms ≤ length question.filter.list.nodes
  pub after : AllByRecursion (λ term. place < term) terms
  pub truths : AllByRecursion (IsTruthAt question.filter) terms
  pub within :
      (node : CheckedNode) → slice_get question.filter.list.nodes place ≡ Some node
      → AllByRecursion (λ term. term < node.stop) terms
  pub says :
      (world : World) (o : Outcome) → IsAskedOf question world → OfPlace question.filter place world o
      → ChainHas question.filter connective terms world o
