-- What stands at an index of a filter's list, by the kind of its node.
use Rattle.std.proofs.Common.{◌≡◌, ℕ, ◌<◌, ◌+◌, List, Some, length, sym, subst, ◌∙◌}
use Rattle.std.specs.Prelude.{slice_get}
use Rattle.std.proofs.lemmas.Option.{slice_get_within}
use Rattle.csdl_schema.specs.SchemaModel.{SchemaModel, slots_of, type_name_at}
use Rattle.odata_checked_filter.specs.FlatTree.{FlatTree}
use Rattle.odata_checked_filter.specs.Stands.{HasOwnValue, IsKindOf, Stands}
use Rattle.odata_checked_filter.specs.declared.checked_node.CheckedNode.{CheckedNode}
use Rattle.odata_checked_filter.specs.declared.checked_node.NodeKind.{NodeKind}
use Rattle.filter_context.proofs.Children.{one_there}
use Rattle.filter_context.proofs.Parts.{CasesOf, found_there}
use Rattle.filter_context.specs.private.Place.{HasKind}
use Rattle.odata_ranges.proofs.Forms.{by_case}
use Rattle.odata_signatures.specs.Typed.{Scope}
use Rattle.odata_syntax.specs.Tree.{Shape, Tree, member, node}

module _ (schema : SchemaModel) (n : ℕ) (scope : Scope) (list : FlatTree) (place : ℕ) where
  -- the kind is that of the node there
  pub kind_there : (kind : NodeKind) → HasKind list place kind → (stop from to : ℕ) (shape : Shape) → Stands schema n scope list place stop (node from to shape)
      → IsKindOf (slots_of schema) (type_name_at schema n) scope shape kind
  kind_there kind here stop from to shape stands =
      subst (λ (k : NodeKind). IsKindOf (slots_of schema) (type_name_at schema n) scope shape k)
      (found_there (λ (found : CheckedNode). found.kind ≡ kind) (slice_get list.nodes place) stands.top.found stands.top.stands_at here)
      stands.top.kind

  -- a literal's node has its value
  pub valued_there : (kind : NodeKind) → HasKind list place kind → (stop from to : ℕ) (shape : Shape) → Stands schema n scope list place stop (node from to shape)
      → HasOwnValue list.values (slots_of schema) shape kind
  valued_there kind here stop from to shape stands =
      subst (λ (k : NodeKind). HasOwnValue list.values (slots_of schema) shape k)
      (found_there (λ (found : CheckedNode). found.kind ≡ kind) (slice_get list.nodes place) stands.top.found stands.top.stands_at here)
      stands.top.valued

  -- so the tree there is of one form
  pub by_kind : (kind : NodeKind) → HasKind list place kind → (P : ℕ → Tree → Type 0)
      → CasesOf kind (λ s. (stop from to : ℕ) → Stands schema n scope list place stop (node from to s) → P stop (node from to s))
      → (stop : ℕ) (tree : Tree) → Stands schema n scope list place stop tree → P stop tree
  by_kind kind here P cases stop (node from to shape) stands =
      by_case (slots_of schema) (type_name_at schema n) scope
      (λ (s : Shape). (stop from to : ℕ) → Stands schema n scope list place stop (node from to s) → P stop (node from to s)) shape kind
      (kind_there kind here stop from to shape stands) cases stop from to stands

  pub inside : (stop : ℕ) (tree : Tree) → Stands schema n scope list place stop tree → place < length list.nodes
  inside stop (node from to shape) stands = slice_get_within list.nodes place stands.top.found stands.top.stands_at

  -- what the node there says of it
  pub found_is : (found : CheckedNode) → slice_get list.nodes place ≡ Some found → (stop from to : ℕ) (shape : Shape) → (stands : Stands schema n scope list place stop (node from to shape))
      → stands.top.found ≡ found
  found_is found at stop from to shape stands =
      let same : Some stands.top.found ≡ Some found = sym stands.top.stands_at ∙ at in
      cc

  pub stop_is : (found : CheckedNode) → slice_get list.nodes place ≡ Some found → (stop : ℕ) (tree : Tree) → Stands schema n scope list place stop tree → found.stop ≡ stop
  stop_is found at stop (node from to shape) stands =
      subst (λ (f : CheckedNode). f.stop ≡ stop) (found_is found at stop from to shape stands) stands.top.last

-- the base of a member stands after it
pub base_there : (schema : SchemaModel) (n : ℕ) (scope : Scope) (list : FlatTree) (place stop from to : ℕ) (tree base : Tree) (asked : List ℕ) → tree ≡ node from to (member base asked)
    → Stands schema n scope list place stop tree → Stands schema n scope list (place + 1) stop base
base_there schema n scope list place stop from to tree base asked is stands =
    let held = subst (λ (t : Tree). Stands schema n scope list place stop t) is stands in
    one_there schema n scope list (place + 1) stop base held.children
