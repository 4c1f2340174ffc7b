-- Leaves cost nothing.
use Rattle.std.proofs.Common.{◌≡◌, ◌≤◌, ◌∙◌, ℕ, List, [], ◌∷◌, length, refl, slice_get, subst, sym, arith}
use Rattle.csdl_schema.specs.ExprType.{ExprType}
use Rattle.csdl_schema.specs.SchemaModel.{slots_of, type_name_at}
use Rattle.edm_entities.specs.Row.{value_of}
use Rattle.odata_checked_filter.specs.declared.checked_node.CheckedNode.{CheckedNode}
use Rattle.odata_checked_filter.specs.declared.checked_node.NodeKind.{NodeKind}
use Rattle.odata_signatures.specs.Functions.{IsNamed}
use Rattle.odata_signatures.specs.declared.function.Function.{Function}
use Rattle.odata_syntax.specs.Tree.{Tree, Trees, more_trees, no_trees}
use Rattle.odata_syntax.specs.declared.binary_operator.BinaryOperator.{BinaryOperator}
use Rattle.odata_meaning.specs.Costs.{ArgumentsCost}
use Rattle.odata_filter_operations.specs.TextCosts.{CallCosts, call_cost}
use Rattle.filter_context.specs.declared.walk_class.WalkClass.{WalkClass}
use Rattle.filter_context.specs.private.Place.{HasKind, IsClassAt}
use Rattle.filter_context.specs.private.EvalContext.{StandsHere}
use Rattle.filter_context.specs.private.ContextModel.{ContextModel, environment_of}
use Rattle.odata_eval.specs.private.Spending.{CostsHere}
use Rattle.filter_context.specs.WalkClass.{walk_of_kind, walk_of_operator}
use Rattle.odata_meaning.proofs.costs.Zero.{IsFree}
use Rattle.odata_eval.proofs.walking.Leaves.{now_takes}
use Rattle.filter_context.proofs.Parts.{by_kind, some_there, there_found}
use Rattle.filter_context.proofs.Spines.{TypedAll, only_now}

-- no operator is taken as a leaf
operator_inner : (operator : BinaryOperator) → walk_of_operator operator ≡ WalkClass.Leaf → ⊥
operator_inner (BinaryOperator.Logical logical) leaf = cc
operator_inner (BinaryOperator.Comparison comparison) leaf = cc
operator_inner (BinaryOperator.Arithmetic arithmetic) leaf = cc

module _ (context : ContextModel) where
  abbrev pub FreeThere : ℕ → Type 0
  FreeThere place = (stop : ℕ) (tree : Tree) → StandsHere context place stop tree → IsFree (CostsHere context tree)

  -- ---- nodes by their class

  kind_at : (place : ℕ) (class : WalkClass) (P : NodeKind → Type 0) → IsClassAt context.list class place
      → ((kind : NodeKind) → walk_of_kind kind ≡ class → HasKind context.list place kind → P kind) → (kind : NodeKind) × P kind
  kind_at place class P is goes =
      let found = some_there (λ (f : CheckedNode). walk_of_kind f.kind ≡ class) (slice_get context.list.nodes place) is in
      let kind = found.0.kind in
      (kind, goes kind found.1.1 (there_found (λ (f : CheckedNode). f.kind ≡ kind) (slice_get context.list.nodes place) found.0 found.1.0 refl))

  -- `now()` takes no texts, and makes none
  now_makes : (function : Function) → function ≡ Function.Now → call_cost function [] ≡ 0
  now_makes function is = subst (λ (f : Function). call_cost f [] ≡ 0) (sym is) refl

  now_free : (asked : List ℕ) (arguments : Trees) (types : List ExprType) → length types ≤ 0 → TypedAll context arguments types → IsNamed Function.Now asked
      → IsFree (ArgumentsCost (slots_of context.row.schema) (type_name_at context.row.schema context.row.type_id) context.moment (value_of context.row) (environment_of context) arguments (CallCosts asked))
  now_free asked no_trees types none typed named n costs = costs.is ∙ now_makes costs.function (only_now costs.function (costs.named ∙ sym named))
  now_free asked (more_trees tree more) [] none typed named n costs = absurd typed
  now_free asked (more_trees tree more) (type ∷ types) none typed named n costs = absurd (omega (arith, none))

  leaf_of_kind : (place : ℕ) (kind : NodeKind) → walk_of_kind kind ≡ WalkClass.Leaf → HasKind context.list place kind → FreeThere place
  leaf_of_kind place (NodeKind.Literal kind value) leaf here = by_kind context place (NodeKind.Literal kind value) here (λ stop tree. IsFree (CostsHere context tree))
      (λ k spelling stop from to stands n costs. costs)
  leaf_of_kind place NodeKind.It leaf here = by_kind context place NodeKind.It here (λ stop tree. IsFree (CostsHere context tree)) (λ stop from to stands n costs. costs)
  leaf_of_kind place (NodeKind.Property slot) leaf here = by_kind context place (NodeKind.Property slot) here (λ stop tree. IsFree (CostsHere context tree))
      (λ asked stop from to stands n costs. costs)
  leaf_of_kind place (NodeKind.Variable level) leaf here = by_kind context place (NodeKind.Variable level) here (λ stop tree. IsFree (CostsHere context tree))
      (λ asked stop from to stands n costs. costs)
  leaf_of_kind place NodeKind.Now leaf here = by_kind context place NodeKind.Now here (λ stop tree. IsFree (CostsHere context tree))
      (λ asked arguments named stop from to stands.
      let typed = stands.top.typed in
      now_free asked arguments typed.types (now_takes context place asked typed.types _ named typed.call_typed) typed.arguments_typed named)
  leaf_of_kind place (NodeKind.Binary operator) leaf here = absurd (operator_inner operator leaf)
  leaf_of_kind place _ leaf here = absurd (cc)

  pub leaf_free : (place : ℕ) → IsClassAt context.list WalkClass.Leaf place → FreeThere place
  leaf_free place is = (kind_at place WalkClass.Leaf (λ kind. FreeThere place) is (leaf_of_kind place)).1
