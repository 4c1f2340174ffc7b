-- The steps of a path, which stand in a row before what it begins with.
use Rattle.std.proofs.Common.{◌≡◌, ℕ, zero, suc, ◌+◌, ◌-◌, ◌<◌, ◌≤◌, Option, Some, None, IsSomeAnd, slice_get, true, refl, sym, ap, subst, arith}
use Rattle.std.proofs.lemmas.Bool.{false≢true}
use Rattle.odata_syntax.specs.Tree.{Tree}
use Rattle.csdl_schema.specs.SchemaModel.{SchemaModel}
use Rattle.odata_signatures.specs.Typed.{Scope}
use Rattle.odata_checked_filter.specs.FlatTree.{FlatTree}
use Rattle.odata_checked_filter.specs.private.Layout.{Lies}
use Rattle.odata_checked_filter.specs.declared.checked_node.CheckedNode.{CheckedNode}
use Rattle.odata_checked_filter.specs.declared.checked_node.NodeKind.{NodeKind}
use Rattle.odata_checked_filter.specs.private.PathSteps.{IsStepAt, is_step}
use Rattle.odata_checked_filter.proofs.needed.Kinds.{step_there}

-- the step at a node
pub record IsStepFound (list : FlatTree) (k : ℕ) : Type 0 where
  pub found : CheckedNode
  pub stands_at : slice_get list.nodes k ≡ Some found
  pub slot : ℕ
  pub kind_is : found.kind ≡ NodeKind.Member slot

step_kind : (kind : NodeKind) → is_step kind ≡ true → (slot : ℕ) × (kind ≡ NodeKind.Member slot)
step_kind (NodeKind.Member slot) is = (slot, refl)
step_kind _ is = absurd (false≢true is)

pub some_there : (P : CheckedNode → Type 0) (held : Option CheckedNode) → IsSomeAnd held P → (found : CheckedNode) × ((held ≡ Some found) × P found)
some_there P (Some found) is = (found, (refl, is))
some_there P None is = absurd is

pub there_at : (P : CheckedNode → Type 0) (held : Option CheckedNode) (found : CheckedNode) → held ≡ Some found → P found → IsSomeAnd held P
there_at P held found at holds = subst (λ (o : Option CheckedNode). IsSomeAnd o P) (sym at) holds

pub step_found : (list : FlatTree) (k : ℕ) → IsStepAt list k → IsStepFound list k
step_found list k is =
    let there = some_there (λ found. is_step found.kind ≡ true) (slice_get list.nodes k) is in
    let kind = step_kind there.0.kind there.1.1 in
    record { found = there.0; stands_at = there.1.0; slot = kind.0; kind_is = kind.1 }

pub no_step : (list : FlatTree) (k : ℕ) (found : CheckedNode) → slice_get list.nodes k ≡ Some found → (IsStepAt list k → ⊥) → (slot : ℕ) → found.kind ≡ NodeKind.Member slot → ⊥
no_step list k found at none slot is =
    none (subst (λ (held : Option CheckedNode). IsSomeAnd held (λ f. is_step f.kind ≡ true)) (sym at) (ap is_step is))

module _ (schema : SchemaModel) (n : ℕ) (scope : Scope) (list : FlatTree) (place bottom stop : ℕ) where
  abbrev Below : ℕ → Type 0
  Below at = (tree : Tree) × Lies schema n scope list at stop tree

  down : (k : ℕ) (tree : Tree) → Lies schema n scope list place stop tree → ((j : ℕ) → j < bottom → place ≤ j → IsStepAt list j) → place + k ≤ bottom → Below (place + k)
  down zero tree stands steps within = let same : place ≡ place + 0 = omega arith in subst Below same (tree, stands)
  down (suc k) tree stands steps within =
      let at = down k tree stands steps (omega (arith, within)) in
      let step = step_found list (place + k) (steps (place + k) (omega (arith, within)) (omega arith)) in
      let there = step_there schema n scope list (place + k) stop step.slot at.0 step.found at.1 step.stands_at step.kind_is in
      let same : place + k + 1 ≡ place + suc k = omega arith in
      subst Below same (there.base, there.base_stands)

  -- what stands at a step or after them all, where a path stands
  pub stands_below : (at : ℕ) (tree : Tree) → Lies schema n scope list place stop tree → ((j : ℕ) → j < bottom → place ≤ j → IsStepAt list j) → place ≤ at → at ≤ bottom
      → (below : Tree) × Lies schema n scope list at stop below
  stands_below at tree stands steps above within =
      let same : place + (at - place) ≡ at = omega (arith, above) in
      subst Below same (down (at - place) tree stands steps (omega (arith, above, within)))
