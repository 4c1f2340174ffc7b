-- The tree that lies at an index, whatever values its literals have there, by the kind of the node.
use Rattle.odata_ranges.proofs.Common.{◌≡◌, ◌∙◌, ℕ, ◌<◌, Some, length, slice_get, sym, ap, subst, slice_get_within, Shape, Tree, node, slots_of, type_name_at, expr_type, Filter, IsFilter, IsKindOf, CheckedNode, NodeKind, Lies, numbered, same_found, Scope, CasesOf, any_item, binary, call, count, has, in_list, in_path, it, lambda, literal, logical_not, member, name, negation, List, Slots, Typed, ExprType}

pub by_case : (slots : Slots) (root : List ℕ) (scope : Scope) (P : Shape → Type 0) (shape : Shape) (kind : NodeKind)
    → IsKindOf slots root scope shape kind → CasesOf kind P → P shape
by_case slots root scope P (literal k spelling) (NodeKind.Literal kind value) is cases = cases k spelling
by_case slots root scope P it kind is cases = subst (λ (k : NodeKind). CasesOf k P) is cases
by_case slots root scope P (name asked) (NodeKind.Property slot) is cases = cases asked
by_case slots root scope P (name asked) (NodeKind.Variable level) is cases = cases asked
by_case slots root scope P (member base asked) (NodeKind.Member slot) is cases = cases base asked
by_case slots root scope P (count base) kind is cases = subst (λ (k : NodeKind). CasesOf k P) is cases base
by_case slots root scope P (negation operand) kind is cases = subst (λ (k : NodeKind). CasesOf k P) is cases operand
by_case slots root scope P (logical_not operand) kind is cases = subst (λ (k : NodeKind). CasesOf k P) is cases operand
by_case slots root scope P (binary operator left right) kind is cases = subst (λ (k : NodeKind). CasesOf k P) is cases left right
by_case slots root scope P (has left right) kind is cases = subst (λ (k : NodeKind). CasesOf k P) is cases left right
by_case slots root scope P (in_list left items) kind is cases = subst (λ (k : NodeKind). CasesOf k P) is cases left items
by_case slots root scope P (in_path left path) kind is cases = subst (λ (k : NodeKind). CasesOf k P) is cases left path
by_case slots root scope P (any_item base) kind is cases = subst (λ (k : NodeKind). CasesOf k P) is cases base
by_case slots root scope P (lambda quantifier base asked body) kind is cases = subst (λ (k : NodeKind). CasesOf k P) is cases base asked body
by_case slots root scope P (call asked arguments) (NodeKind.Call function) is cases = cases asked arguments is.0 is.1
by_case slots root scope P (call asked arguments) NodeKind.Now is cases = cases asked arguments is
by_case slots root scope P _ _ is cases = absurd is

abbrev pub TypedIn : Filter → Scope → Tree → ExprType → Type 0
TypedIn filter = Typed (slots_of filter.schema) (type_name_at filter.schema filter.filtered)

abbrev pub LiesIn : Filter → Scope → ℕ → ℕ → Tree → Type 0
LiesIn filter scope = Lies filter.schema filter.filtered scope filter.list

module _ (filter : Filter) (scope : Scope) (place : ℕ) (found : CheckedNode) (at : slice_get filter.list.nodes place ≡ Some found) where
  pub kind_there : (kind : NodeKind) → found.kind ≡ kind → (stop from to : ℕ) (shape : Shape) → LiesIn filter scope place stop (node from to shape)
      → IsKindOf (slots_of filter.schema) (type_name_at filter.schema filter.filtered) scope shape kind
  kind_there kind is stop from to shape stands =
      let same : stands.top.found ≡ found = same_found (slice_get filter.list.nodes place) stands.top.found found stands.top.stands_at at in
      subst (λ (k : NodeKind). IsKindOf (slots_of filter.schema) (type_name_at filter.schema filter.filtered) scope shape k)
      (ap (λ (f : CheckedNode). f.kind) same ∙ is) stands.top.kind

  -- so the tree there is of one form
  pub by_kind : (kind : NodeKind) → found.kind ≡ kind → (P : ℕ → Tree → Type 0)
      → CasesOf kind (λ s. (stop from to : ℕ) → LiesIn filter scope place stop (node from to s) → P stop (node from to s))
      → (stop : ℕ) (tree : Tree) → LiesIn filter scope place stop tree → P stop tree
  by_kind kind is P cases stop (node from to shape) stands =
      by_case (slots_of filter.schema) (type_name_at filter.schema filter.filtered) scope
      (λ (s : Shape). (stop from to : ℕ) → LiesIn filter scope place stop (node from to s) → P stop (node from to s)) shape kind
      (kind_there kind is stop from to shape stands) cases stop from to stands

  -- and it has the type that the node there reports
  pub type_there : (stop : ℕ) (tree : Tree) → LiesIn filter scope place stop tree → TypedIn filter scope tree (expr_type filter.schema found.edm_type)
  type_there stop (node from to shape) stands =
      let same : stands.top.found ≡ found = same_found (slice_get filter.list.nodes place) stands.top.found found stands.top.stands_at at in
      subst (λ (f : CheckedNode). TypedIn filter scope (node from to shape) (expr_type filter.schema f.edm_type)) same stands.top.typed

  -- and stops where that reports
  pub stop_there : (stop : ℕ) (tree : Tree) → LiesIn filter scope place stop tree → found.stop ≡ stop
  stop_there stop (node from to shape) stands =
      let same : stands.top.found ≡ found = same_found (slice_get filter.list.nodes place) stands.top.found found stands.top.stands_at at in
      ap (λ (f : CheckedNode). f.stop) (sym same) ∙ stands.top.last

pub inside_there : (filter : Filter) (scope : Scope) (place stop : ℕ) (tree : Tree) → LiesIn filter scope place stop tree → place < length filter.list.nodes
inside_there filter scope place stop (node from to shape) stands = slice_get_within filter.list.nodes place stands.top.found stands.top.stands_at

-- a node of a filter has a tree, of a form by its kind
pub by_node : (filter : Filter) → IsFilter filter → (place : ℕ) (found : CheckedNode) → slice_get filter.list.nodes place ≡ Some found → (kind : NodeKind) → found.kind ≡ kind → (P : Type 0)
    → ((scope : Scope) → CasesOf kind (λ s. (stop from to : ℕ) → LiesIn filter scope place stop (node from to s) → P)) → P
by_node filter is place found at kind kind_is P cases =
    let there = numbered filter place found is at in
    by_kind filter there.scope place found at kind kind_is (λ s t. P) (cases there.scope) there.stop there.part there.stands
