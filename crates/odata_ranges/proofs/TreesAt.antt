-- What stands at an index of a filter's list: a tree, or a text that is read as the number of an enumeration.
use Rattle.odata_ranges.proofs.Common.{◌≡◌, ◌∙◌, ◌⊎◌, inl, inr, ap, subst, ℕ, ℤ, ◌<◌, ◌≤◌, ◌+◌, List, [], Some, length, slice_get, arith, slice_get_within, Value, ExprType, single, SchemaModel, slots_of, type_name_at, Shape, Tree, Trees, any_item, binary, call, count, has, in_list, in_path, lambda, literal, logical_not, member, more_trees, negation, no_trees, node, LiteralKind, Scope, Typed, with_variable, Filter, IsFilter, tree_of_filter, FlatTree, ResolvedStands, HasValue, IsLiteralNode, NumberStands, Stands, CheckedNode, NodeKind, IsOther, one_kind, some_there, there_found, ◌∷◌}
use Rattle.filter_context.specs.private.Place.{HasKind}
use Rattle.odata_ranges.proofs.Values.{before_or_past}
use Rattle.odata_checked_filter.specs.Stands.{InLine, child_parts, item_parts, tree_parts}

-- ---- a text that is read

-- its node, and the number among the values
pub record NumberThere (list : FlatTree) (number : ℤ) (place stop : ℕ) : Type 0 where
  pub value : ℕ
  pub here : HasKind list place (NodeKind.Literal LiteralKind.Str value)
  pub at : slice_get list.values value ≡ Some (Value.Enum number)
  pub next : place + 1 ≡ stop
  pub found : CheckedNode
  pub found_at : slice_get list.nodes place ≡ Some found
  pub stops : found.stop ≡ stop

record HasNumber (values : List Value) (number : ℤ) (kind : NodeKind) : Type 0 where
  value : ℕ
  kind_is : kind ≡ NodeKind.Literal LiteralKind.Str value
  at : slice_get values value ≡ Some (Value.Enum number)

has_number : (values : List Value) (number : ℤ) (kind : NodeKind) → IsLiteralNode LiteralKind.Str kind → HasValue values (λ value. value ≡ Value.Enum number) kind → HasNumber values number kind
has_number values number (NodeKind.Literal kind value) is valued =
    let held = some_there (λ (v : Value). v ≡ Value.Enum number) (slice_get values value) valued in
    record { value = value; kind_is = ap (λ (k : LiteralKind). NodeKind.Literal k value) is; at = held.1.0 ∙ ap Some held.1.1 }
has_number values number _ is valued = absurd is

pub number_there : (schema : SchemaModel) (n : ℕ) (scope : Scope) (list : FlatTree) (number : ℤ) (place stop : ℕ) (tree : Tree) → NumberStands schema n scope list number place stop tree
    → NumberThere list number place stop
number_there schema n scope list number place stop (node from to (literal LiteralKind.Str spelling)) there =
    let top = there.top in
    let held = has_number list.values number top.found.kind top.kind top.valued in
    record {
      value = held.value;
      here = there_found (λ (f : CheckedNode). f.kind ≡ NodeKind.Literal LiteralKind.Str held.value) (slice_get list.nodes place) top.found top.stands_at held.kind_is;
      at = held.at;
      next = there.children;
      found = top.found;
      found_at = top.stands_at;
      stops = top.last;
    }
number_there schema n scope list number place stop _ there = absurd there

-- ---- at each index

pub record SomethingAt (schema : SchemaModel) (n : ℕ) (list : FlatTree) (place : ℕ) : Type 0 where
  pub scope : Scope
  pub stop : ℕ
  pub part : Tree
  pub stands : Stands schema n scope list place stop part ⊎ ((number : ℤ) × NumberStands schema n scope list number place stop part)

module _ (schema : SchemaModel) (n : ℕ) (list : FlatTree) (p : ℕ) where
  in_number : (scope : Scope) (i j : ℕ) (tree : Tree) (number : ℤ) → NumberStands schema n scope list number i j tree → i ≤ p → p < j → SomethingAt schema n list p
  in_number scope i j tree number stands low high =
      let there = number_there schema n scope list number i j tree stands in
      let next : i + 1 ≡ j = there.next in
      let same : i ≡ p = omega (arith, next, low, high) in
      subst (λ (k : ℕ). SomethingAt schema n list k) same (record { scope = scope; stop = j; part = tree; stands = inr (number, stands) })

  in_side : (scope : Scope) (i j : ℕ) (tree : Tree) (OtherSide : ExprType → Type 0) → (Stands schema n scope list i j tree → SomethingAt schema n list p)
      → ResolvedStands schema n scope list OtherSide tree (λ a b. Stands schema n scope list a b tree) i j → i ≤ p → p < j → SomethingAt schema n list p
  in_side scope i j tree OtherSide alone (inl read) low high = in_number scope i j tree read.0 read.2 low high
  in_side scope i j tree OtherSide alone (inr none) low high = alone none.1

  at_top : (scope : Scope) (i j : ℕ) (tree : Tree) → Stands schema n scope list i j tree → i ≤ p → p ≤ i → SomethingAt schema n list p
  at_top scope i j tree stands low high =
      let same : i ≡ p = omega (arith, low, high) in
      subst (λ (k : ℕ). SomethingAt schema n list k) same (record { scope = scope; stop = j; part = tree; stands = inl stands })

  -- one of some parts one after another, where something stands at an index of each
  abbrev EachPart : List (ℕ → ℕ → Type 0) → Type 0
  EachPart [] = Unit {0}
  EachPart (Part ∷ parts) = ((a b : ℕ) → Part a b → a ≤ p → p < b → SomethingAt schema n list p) × EachPart parts

  in_line : (parts : List (ℕ → ℕ → Type 0)) (i j : ℕ) → InLine parts i j → i ≤ p → p < j → EachPart parts → SomethingAt schema n list p
  in_line [] i j same low high each = absurd (omega (arith, same, low, high))
  in_line (Part ∷ parts) i j stand low high each =
      before_or_past p stand.middle (λ before. each.0 i stand.middle stand.left low before) (λ after. in_line parts stand.middle j stand.right after high each.1)

  mutual
    pub something_at : (scope : Scope) (i j : ℕ) (tree : Tree) → Stands schema n scope list i j tree → i ≤ p → p < j → SomethingAt schema n list p
    something_at scope i j (node from to shape) stands low high =
        before_or_past i p (λ after. in_line (child_parts schema n scope list shape) (i + 1) j stands.children (omega (arith, after)) high (each_child scope shape))
        (λ before. at_top scope i j (node from to shape) stands low before)

    each_child : (scope : Scope) (shape : Shape) → EachPart (child_parts schema n scope list shape)
    each_child scope (member base asked) = (λ a b. something_at scope a b base, tt)
    each_child scope (count base) = (λ a b. something_at scope a b base, tt)
    each_child scope (negation operand) = (λ a b. something_at scope a b operand, tt)
    each_child scope (logical_not operand) = (λ a b. something_at scope a b operand, tt)
    each_child scope (any_item base) = (λ a b. something_at scope a b base, tt)
    each_child scope (binary operator left right) = (
      λ a b side low high. in_side scope a b left _ (λ (s : Stands schema n scope list a b left). something_at scope a b left s low high) side low high,
      (λ a b side low high. in_side scope a b right _ (λ (s : Stands schema n scope list a b right). something_at scope a b right s low high) side low high, tt),
    )
    each_child scope (has left right) = (
      λ a b. something_at scope a b left,
      (λ a b side low high. in_side scope a b right _ (λ (s : Stands schema n scope list a b right). something_at scope a b right s low high) side low high, tt),
    )
    each_child scope (in_list left items) = (λ a b. something_at scope a b left, each_item scope left items)
    each_child scope (in_path left path) = (λ a b. something_at scope a b left, (λ a b. something_at scope a b path, tt))
    each_child scope (call asked arguments) = each_tree scope arguments
    each_child scope (lambda quantifier base variable body) = (
      λ a b. something_at scope a b base,
      (λ a b inner. something_at (with_variable scope variable (single inner.member_type)) a b body inner.body, tt),
    )
    each_child scope _ = tt

    each_tree : (scope : Scope) (trees : Trees) → EachPart (tree_parts schema n scope list trees)
    each_tree scope no_trees = tt
    each_tree scope (more_trees tree trees) = (λ a b. something_at scope a b tree, each_tree scope trees)

    each_item : (scope : Scope) (left : Tree) (items : Trees) → EachPart (item_parts schema n scope list (Typed (slots_of schema) (type_name_at schema n) scope left) items)
    each_item scope left no_trees = tt
    each_item scope left (more_trees tree trees) = (
      λ a b side low high. in_side scope a b tree _ (λ (s : Stands schema n scope list a b tree). something_at scope a b tree s low high) side low high,
      each_item scope left trees,
    )

pub something_there : (filter : Filter) → IsFilter filter → (place : ℕ) → place < length filter.list.nodes → SomethingAt filter.schema filter.filtered filter.list place
something_there filter right place within =
    something_at filter.schema filter.filtered filter.list place [] 0 (length filter.list.nodes) (tree_of_filter filter) right.stands (omega arith) within

-- ---- a tree, where the node is none of a literal

pub record TreeAt (filter : Filter) (place : ℕ) : Type 0 where
  pub scope : Scope
  pub stop : ℕ
  pub part : Tree
  pub stands : Stands filter.schema filter.filtered scope filter.list place stop part

module _ (filter : Filter) (right : IsFilter filter) (place : ℕ) (kind : NodeKind) (other : IsOther kind) where
  no_number : (scope : Scope) (stop : ℕ) (tree : Tree) (number : ℤ) → HasKind filter.list place kind → NumberStands filter.schema filter.filtered scope filter.list number place stop tree → ⊥
  no_number scope stop tree number here there =
      let it = number_there filter.schema filter.filtered scope filter.list number place stop tree there in
      subst IsOther (one_kind (slice_get filter.list.nodes place) kind (NodeKind.Literal LiteralKind.Str it.value) here it.here) other

  pub tree_at : HasKind filter.list place kind → TreeAt filter place
  tree_at here =
      let found = some_there (λ (f : CheckedNode). f.kind ≡ kind) (slice_get filter.list.nodes place) here in
      let it = something_there filter right place (slice_get_within filter.list.nodes place found.0 found.1.0) in
      elim it.stands [
        | inl stands ↦ record { scope = it.scope; stop = it.stop; part = it.part; stands = stands }
        | inr number ↦ absurd (no_number it.scope it.stop it.part number.0 here number.1)
      ]

-- by the node that was found there
pub tree_found : (filter : Filter) → IsFilter filter → (place : ℕ) (found : CheckedNode) → slice_get filter.list.nodes place ≡ Some found → (kind : NodeKind) → IsOther kind → found.kind ≡ kind → TreeAt filter place
tree_found filter right place found at kind other is =
    tree_at filter right place kind other (there_found (λ (f : CheckedNode). f.kind ≡ kind) (slice_get filter.list.nodes place) found at is)
