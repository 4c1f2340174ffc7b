-- The tree that stands at an index, by the kind of the node there.
use Rattle.odata_ranges.proofs.Common.{◌≡◌, ◌∙◌, ℕ, ◌<◌, [], ◌∷◌, Some, length, slice_get, sym, ap, subst, Val, Shape, Tree, node, slots_of, type_name_at, HasType, expr_type, ExprType, Filter, HasOwnValue, InLine, IsKindOf, SideBySide, Stands, CheckedNode, NodeKind, Lies, stands_lie, same_found, Scope, IsOutcomeOf, TypedEndsOnce, scope_of, CasesOf, Outcome, gives, HoldsRange, IsContextOf, MeansIn, CheckContext, IsWithin, Range}
use Rattle.odata_ranges.proofs.Layouts.{inside_there as inside_lies, kind_there as kind_lies, stop_there as stop_lies, type_there as type_lies}
pub use Rattle.odata_ranges.proofs.Layouts.{TypedIn, by_case}

-- the tree stands at the index, with these variables in scope
abbrev pub StandsIn : Filter → Scope → ℕ → ℕ → Tree → Type 0
StandsIn filter scope = Stands filter.schema filter.filtered scope filter.list

-- it lies there
pub lies : (filter : Filter) (scope : Scope) (place stop : ℕ) (tree : Tree) → StandsIn filter scope place stop tree → Lies filter.schema filter.filtered scope filter.list place stop tree
lies filter scope place stop tree = stands_lie filter.schema filter.filtered scope filter.list place stop tree

module _ (filter : Filter) (scope : Scope) (place : ℕ) (found : CheckedNode) (at : slice_get filter.list.nodes place ≡ Some found) where
  pub kind_there : (kind : NodeKind) → found.kind ≡ kind → (stop from to : ℕ) (shape : Shape) → StandsIn filter scope place stop (node from to shape)
      → IsKindOf (slots_of filter.schema) (type_name_at filter.schema filter.filtered) scope shape kind
  kind_there kind is stop from to shape stands = kind_lies filter scope place found at kind is stop from to shape (lies filter scope place stop (node from to shape) stands)

  -- a literal's node has its value
  pub valued_there : (kind : NodeKind) → found.kind ≡ kind → (stop from to : ℕ) (shape : Shape) → StandsIn filter scope place stop (node from to shape)
      → HasOwnValue filter.list.values (slots_of filter.schema) shape kind
  valued_there kind is stop from to shape stands =
      let same : stands.top.found ≡ found = same_found (slice_get filter.list.nodes place) stands.top.found found stands.top.stands_at at in
      subst (λ (k : NodeKind). HasOwnValue filter.list.values (slots_of filter.schema) shape k) (ap (λ (f : CheckedNode). f.kind) same ∙ is) stands.top.valued

  -- so the tree there is of one form
  pub by_kind : (kind : NodeKind) → found.kind ≡ kind → (P : ℕ → Tree → Type 0)
      → CasesOf kind (λ s. (stop from to : ℕ) → StandsIn filter scope place stop (node from to s) → P stop (node from to s))
      → (stop : ℕ) (tree : Tree) → StandsIn filter scope place stop tree → P stop tree
  by_kind kind is P cases stop (node from to shape) stands =
      by_case (slots_of filter.schema) (type_name_at filter.schema filter.filtered) scope
      (λ (s : Shape). (stop from to : ℕ) → StandsIn filter scope place stop (node from to s) → P stop (node from to s)) shape kind
      (kind_there kind is stop from to shape stands) cases stop from to stands

  -- and it has the type that the node there reports
  pub type_there : (stop : ℕ) (tree : Tree) → StandsIn filter scope place stop tree → TypedIn filter scope tree (expr_type filter.schema found.edm_type)
  type_there stop tree stands = type_lies filter scope place found at stop tree (lies filter scope place stop tree stands)

  -- and stops where that reports
  pub stop_there : (stop : ℕ) (tree : Tree) → StandsIn filter scope place stop tree → found.stop ≡ stop
  stop_there stop tree stands = stop_lies filter scope place found at stop tree (lies filter scope place stop tree stands)

pub top_node : (filter : Filter) (scope : Scope) (place stop : ℕ) (tree : Tree) → StandsIn filter scope place stop tree
    → (found : CheckedNode) × (slice_get filter.list.nodes place ≡ Some found)
top_node filter scope place stop (node from to shape) stands = (stands.top.found, stands.top.stands_at)

pub inside_there : (filter : Filter) (scope : Scope) (place stop : ℕ) (tree : Tree) → StandsIn filter scope place stop tree → place < length filter.list.nodes
inside_there filter scope place stop tree stands = inside_lies filter scope place stop tree (lies filter scope place stop tree stands)

-- what a tree of the shape evaluates to at the index lies within the range
abbrev pub HoldsShape : Filter → ℕ → Range → Shape → Type 0
HoldsShape filter place result shape =
    (context : CheckContext) → IsContextOf filter context → (stop from to : ℕ) (o : Outcome) → StandsIn filter (scope_of context.environment) place stop (node from to shape)
    → MeansIn filter context (node from to shape) o → IsWithin result o

-- so it does for a node of a kind, if it does for each shape of that kind
pub holds_by : (filter : Filter) (place : ℕ) (found : CheckedNode) → slice_get filter.list.nodes place ≡ Some found → (result : Range) (kind : NodeKind) → found.kind ≡ kind
    → CasesOf kind (HoldsShape filter place result) → HoldsRange filter place result
holds_by filter place found at result kind kind_is cases = by
  where
    by : HoldsRange filter place result
    by context (node from to shape) stop o is stands means =
        let scope = scope_of context.environment in
        by_case (slots_of filter.schema) (type_name_at filter.schema filter.filtered) scope (HoldsShape filter place result) shape kind
        (kind_there filter scope place found at kind kind_is stop from to shape stands) cases context is stop from to o stands means

-- two parts in line
pub two_parts : (First Second : ℕ → ℕ → Type 0) (i j : ℕ) → InLine (First ∷ Second ∷ []) i j → SideBySide (λ middle. First i middle) (λ middle. Second middle j)
two_parts First Second i j stand = record {
  middle = stand.middle;
  left = stand.left;
  right = subst (λ (k : ℕ). Second stand.middle k) stand.right.right stand.right.left;
}

-- a value that a tree evaluates to has its type
pub value_has : TypedEndsOnce → (filter : Filter) (context : CheckContext) → IsContextOf filter context → (tree : Tree) (type : ExprType) (v : Val)
    → TypedIn filter (scope_of context.environment) tree type → MeansIn filter context tree (gives v) → HasType (slots_of filter.schema) type v
value_has ends filter context is tree type v typed means =
    let once = ends (slots_of filter.schema) (type_name_at filter.schema filter.filtered) context.now context.entity context.environment tree type
    is.moment is.typed is.fitting typed in
    subst (λ (o : Outcome). IsOutcomeOf (slots_of filter.schema) type o) (sym (once.only (gives v) means)) once.of_type
