-- What stands for a tree lies as the tree does, and stands for it still where its nodes are kept.
use Rattle.std.proofs.Common.{◌≡◌, ℕ, ◌<◌, ◌≤◌, ◌+◌, List, [], ◌∷◌, Some, None, length, slice_get, IsSomeAnd, Option, refl, arith, inl, inr, ℤ}
use Rattle.edm_values.specs.declared.value.Value.{Value}
use Rattle.odata_syntax.specs.Tree.{Tree, Trees, node, Shape, literal, member, count, negation, logical_not, binary, has, in_list, in_path, call, any_item, lambda, more_trees, no_trees}
use Rattle.odata_syntax.specs.declared.node.LiteralKind.{LiteralKind}
use Rattle.csdl_schema.specs.ExprType.{ExprType, single}
use Rattle.csdl_schema.specs.SchemaModel.{SchemaModel, Slots, slots_of, type_name_at}
use Rattle.odata_checked_filter.specs.declared.checked_node.CheckedNode.{CheckedNode}
use Rattle.odata_checked_filter.specs.declared.checked_node.NodeKind.{NodeKind}
use Rattle.odata_checked_filter.specs.Filter.{Filter, IsFilter, tree_of_filter}
use Rattle.odata_checked_filter.specs.FlatTree.{FlatTree}
use Rattle.odata_checked_filter.specs.private.Layout.{Lies, OfAnyValue, lying_parts, lying_trees}
use Rattle.odata_checked_filter.specs.Stands.{ResolvedStands, ChildrenStand, HasOwnValue, HasValue, InBody, InLine, IsTop, NumberStands, Stands, child_parts, item_parts, tree_parts}
use Rattle.odata_signatures.specs.Reads.{OfEquality}
use Rattle.odata_signatures.specs.Typed.{Scope, Typed, with_variable}
use Rattle.odata_checked_filter.proofs.flat.Standing.{lies_nonempty}

-- the nodes from one index up to another are kept
pub record IsKeptIn (from to : ℕ) (old new : FlatTree) : Type 0 where
  pub nodes : (k : ℕ) (found : CheckedNode) → from ≤ k → k < to → slice_get old.nodes k ≡ Some found → slice_get new.nodes k ≡ Some found
  pub values : (k : ℕ) (value : Value) → slice_get old.values k ≡ Some value → slice_get new.values k ≡ Some value
  pub texts : (k : ℕ) (text : List ℕ) → from ≤ k → k < to → slice_get old.texts k ≡ Some text → slice_get new.texts k ≡ Some text

-- a value that stands among the values is kept with these
abbrev ValuesKept : FlatTree → FlatTree → Type 0
ValuesKept old new = (k : ℕ) (value : Value) → slice_get old.values k ≡ Some value → slice_get new.values k ≡ Some value

some_kept : (P : Value → Type 0) (old new : Option Value) → ((value : Value) → old ≡ Some value → new ≡ Some value) → IsSomeAnd old P → IsSomeAnd new P
some_kept P (Some value) new kept holds = rw (kept value refl) holds
some_kept P None new kept holds = absurd holds

value_kept : (old new : FlatTree) (IsIt : Value → Type 0) (kind : NodeKind) → ValuesKept old new → HasValue old.values IsIt kind → HasValue new.values IsIt kind
value_kept old new IsIt (NodeKind.Literal k place) kept is = some_kept IsIt (slice_get old.values place) (slice_get new.values place) (kept place) is
value_kept old new IsIt _ kept is = absurd is

own_kept :
    (old new : FlatTree) (slots : Slots) (shape : Shape) (kind : NodeKind)
    → ValuesKept old new → HasOwnValue old.values slots shape kind → HasOwnValue new.values slots shape kind
own_kept old new slots (literal k spelling) kind kept is = value_kept old new _ kind kept is
own_kept old new slots _ kind kept is = tt

top_kept :
    (from to : ℕ) (old new : FlatTree) (schema : SchemaModel) (n : ℕ) (scope : Scope) (i j start stop : ℕ) (shape : Shape) (Before After : NodeKind → Type 0)
    → IsKeptIn from to old new → from ≤ i → i < to → ((kind : NodeKind) → Before kind → After kind)
    → IsTop schema n scope old i j start stop shape Before → IsTop schema n scope new i j start stop shape After
top_kept from to old new schema n scope i j start stop shape Before After kept after before valued top = record {
  found = top.found;
  stands_at = kept.nodes i top.found after before top.stands_at;
  text_at = kept.texts i _ after before top.text_at;
  kind = top.kind;
  valued = valued top.found.kind top.valued;
  starts = top.starts;
  stops = top.stops;
  last = top.last;
  typed = top.typed;
}

number_kept :
    (from to : ℕ) (old new : FlatTree) (schema : SchemaModel) (n : ℕ) (scope : Scope) (number : ℤ) (i j : ℕ) (tree : Tree)
    → IsKeptIn from to old new → from ≤ i → j ≤ to → NumberStands schema n scope old number i j tree
    → NumberStands schema n scope new number i j tree
number_kept from to old new schema n scope number i j (node start stop (literal LiteralKind.Str spelling)) kept after before stands =
    let last : i + 1 ≡ j = stands.children in
    record {
      top = top_kept from to old new schema n scope i j start stop (literal LiteralKind.Str spelling) _ _ kept after (omega arith)
          (λ kind. value_kept old new (λ value. value ≡ Value.Enum number) kind kept.values) stands.top;
      children = stands.children;
    }
number_kept from to old new schema n scope number i j _ kept after before stands = absurd stands

itself_kept : (from to : ℕ) (list : FlatTree) → IsKeptIn from to list list
itself_kept from to list = record { nodes = λ k found after before at. at; values = λ k value at. at; texts = λ k text after before at. at }

top_lies :
    (schema : SchemaModel) (n : ℕ) (scope : Scope) (list : FlatTree) (i j start stop : ℕ) (shape : Shape) (Valued : NodeKind → Type 0)
    → IsTop schema n scope list i j start stop shape Valued → IsTop schema n scope list i j start stop shape OfAnyValue
top_lies schema n scope list i j start stop shape Valued top =
    top_kept i (i + 1) list list schema n scope i j start stop shape Valued OfAnyValue (itself_kept i (i + 1) list) (omega arith) (omega arith) (λ kind valued. tt) top

number_lies :
    (schema : SchemaModel) (n : ℕ) (scope : Scope) (list : FlatTree) (number : ℤ) (i j : ℕ) (tree : Tree)
    → NumberStands schema n scope list number i j tree → Lies schema n scope list i j tree
number_lies schema n scope list number i j (node start stop (literal LiteralKind.Str spelling)) stands =
    record { top = top_lies schema n scope list i j start stop (literal LiteralKind.Str spelling) _ stands.top; children = stands.children }
number_lies schema n scope list number i j _ stands = absurd stands

-- ---- parts one after another

-- what stands as a part lies as another, which takes a node or more, and stands as a third between two indexes
record GoesOver (from to : ℕ) (Before Lying After : ℕ → ℕ → Type 0) : Type 0 where
  lies : (i j : ℕ) → Before i j → Lying i j
  onward : (i j : ℕ) → Lying i j → i < j
  stays : (i j : ℕ) → from ≤ i → j ≤ to → Before i j → After i j

abbrev AllGoOver : ℕ → ℕ → List (ℕ → ℕ → Type 0) → List (ℕ → ℕ → Type 0) → List (ℕ → ℕ → Type 0) → Type 0
AllGoOver from to [] [] [] = Unit {0}
AllGoOver from to (Before ∷ parts) (Lying ∷ lying) (After ∷ later) = GoesOver from to Before Lying After × AllGoOver from to parts lying later
AllGoOver from to _ _ _ = ⊥

record LineGoes (from to : ℕ) (lying later : List (ℕ → ℕ → Type 0)) (i j : ℕ) : Type 0 where
  onward : i ≤ j
  lies : InLine lying i j
  stays : from ≤ i → j ≤ to → InLine later i j

line_goes :
    (from to : ℕ) (parts lying later : List (ℕ → ℕ → Type 0)) (i j : ℕ)
    → AllGoOver from to parts lying later → InLine parts i j → LineGoes from to lying later i j
line_goes from to [] [] [] i j all line = let e : i ≡ j = line in record { onward = omega arith; lies = line; stays = λ after before. line }
line_goes from to (Before ∷ parts) (Lying ∷ lying) (After ∷ later) i j all line =
    let first = all.0.lies i line.middle line.left in
    let some : i < line.middle = all.0.onward i line.middle first in
    let rest = line_goes from to parts lying later line.middle j all.1 line.right in
    let behind : line.middle ≤ j = rest.onward in
    record {
      onward = omega arith;
      lies = record { middle = line.middle; left = first; right = rest.lies };
      stays = λ after before. record {
        middle = line.middle;
        left = all.0.stays i line.middle after (omega arith) line.left;
        right = rest.stays (omega arith) before;
      };
    }
line_goes from to _ _ _ i j all line = absurd all

-- ---- trees

module _ (from to : ℕ) (old new : FlatTree) (kept : IsKeptIn from to old new) (schema : SchemaModel) (n : ℕ) where
  abbrev TreeGoes : Scope → Tree → Type 0
  TreeGoes scope tree =
      GoesOver from to (λ i j. Stands schema n scope old i j tree) (λ i j. Lies schema n scope old i j tree) (λ i j. Stands schema n scope new i j tree)

  -- the children of a shape
  abbrev ShapeGoes : Scope → Shape → Type 0
  ShapeGoes scope shape = AllGoOver from to (child_parts schema n scope old shape) (lying_parts schema n scope old shape) (child_parts schema n scope new shape)

  abbrev TypeOf : Scope → Tree → ExprType → Type 0
  TypeOf scope tree = Typed (slots_of schema) (type_name_at schema n) scope tree

  -- beside an operand
  beside_goes : (scope : Scope) (OtherSide : ExprType → Type 0) (tree : Tree) → TreeGoes scope tree
      → GoesOver from to (ResolvedStands schema n scope old OtherSide tree (λ i j. Stands schema n scope old i j tree)) (λ i j. Lies schema n scope old i j tree)
      (ResolvedStands schema n scope new OtherSide tree (λ i j. Stands schema n scope new i j tree))
  beside_goes scope OtherSide tree goes = record {
    lies = λ i j stands. elim stands [ inl read ↦ number_lies schema n scope old read.0 i j tree read.2 | inr alone ↦ goes.lies i j alone.1 ];
    onward = goes.onward;
    stays = λ i j after before stands. elim stands [
      | inl read ↦ inl (read.0, read.1, number_kept from to old new schema n scope read.0 i j tree kept after before read.2)
      | inr alone ↦ inr (alone.0, goes.stays i j after before alone.1)
    ];
  }

  -- in the body of a lambda operator
  body_goes : (scope : Scope) (variable : List ℕ) (Base : ExprType → Type 0) (body : Tree) → ((at : Scope) → TreeGoes at body)
      → GoesOver from to (λ i j. InBody scope variable Base (λ at. Stands schema n at old i j body)) (λ i j. InBody scope variable Base (λ at. Lies schema n at old i j body))
      (λ i j. InBody scope variable Base (λ at. Stands schema n at new i j body))
  body_goes scope variable Base body goes = record {
    lies = λ i j is. record { member_type = is.member_type; binds = is.binds; body = (goes (with_variable scope variable (single is.member_type))).lies i j is.body };
    onward = λ i j is. (goes (with_variable scope variable (single is.member_type))).onward i j is.body;
    stays = λ i j after before is.
        record { member_type = is.member_type; binds = is.binds; body = (goes (with_variable scope variable (single is.member_type))).stays i j after before is.body };
  }

  node_goes : (scope : Scope) (start stop : ℕ) (shape : Shape) → ShapeGoes scope shape → TreeGoes scope (node start stop shape)
  node_goes scope start stop shape all = record {
    lies = λ i j stands. let goes = below (i + 1) j stands.children in record { top = top_lies schema n scope old i j start stop shape _ stands.top; children = goes.lies };
    onward = λ i j lies. lies_nonempty schema n scope old i j (node start stop shape) lies;
    stays = λ i j after before stands.
        let goes = below (i + 1) j stands.children in
        let some : i + 1 ≤ j = goes.onward in
        record {
          top = top_kept from to old new schema n scope i j start stop shape _ _ kept after (omega arith)
              (λ kind. own_kept old new (slots_of schema) shape kind kept.values) stands.top;
          children = goes.stays (omega arith) before;
        };
  }
    where
      below : (i j : ℕ) → ChildrenStand schema n scope old i j shape → LineGoes from to (lying_parts schema n scope old shape) (child_parts schema n scope new shape) i j
      below i j line = line_goes from to (child_parts schema n scope old shape) (lying_parts schema n scope old shape) (child_parts schema n scope new shape) i j all line

  mutual
    tree_goes : (scope : Scope) (tree : Tree) → TreeGoes scope tree
    tree_goes scope (node start stop shape) = node_goes scope start stop shape (children_go scope shape)

    children_go : (scope : Scope) (shape : Shape) → ShapeGoes scope shape
    children_go scope (member base asked) = (tree_goes scope base, tt)
    children_go scope (count base) = (tree_goes scope base, tt)
    children_go scope (negation operand) = (tree_goes scope operand, tt)
    children_go scope (logical_not operand) = (tree_goes scope operand, tt)
    children_go scope (any_item base) = (tree_goes scope base, tt)
    children_go scope (binary operator left right) = (
      beside_goes scope (OfEquality operator (TypeOf scope right)) left (tree_goes scope left),
      (beside_goes scope (OfEquality operator (TypeOf scope left)) right (tree_goes scope right), tt),
    )
    children_go scope (has left right) = (tree_goes scope left, (beside_goes scope (TypeOf scope left) right (tree_goes scope right), tt))
    children_go scope (in_path left path) = (tree_goes scope left, (tree_goes scope path, tt))
    children_go scope (in_list left items) = (tree_goes scope left, items_go scope left items)
    children_go scope (call asked arguments) = all_go scope arguments
    children_go scope (lambda quantifier base variable body) = (tree_goes scope base, (body_goes scope variable (TypeOf scope base) body (λ at. tree_goes at body), tt))
    children_go scope _ = tt

    all_go : (scope : Scope) (trees : Trees) → AllGoOver from to (tree_parts schema n scope old trees) (lying_trees schema n scope old trees) (tree_parts schema n scope new trees)
    all_go scope no_trees = tt
    all_go scope (more_trees tree trees) = (tree_goes scope tree, all_go scope trees)

    items_go : (scope : Scope) (left : Tree) (items : Trees)
        → AllGoOver from to (item_parts schema n scope old (TypeOf scope left) items) (lying_trees schema n scope old items) (item_parts schema n scope new (TypeOf scope left) items)
    items_go scope left no_trees = tt
    items_go scope left (more_trees tree trees) = (beside_goes scope (TypeOf scope left) tree (tree_goes scope tree), items_go scope left trees)

-- ---- what stands lies, and stays

pub stands_lie :
    (schema : SchemaModel) (n : ℕ) (scope : Scope) (list : FlatTree) (i j : ℕ) (tree : Tree)
    → Stands schema n scope list i j tree → Lies schema n scope list i j tree
stands_lie schema n scope list i j tree stands = let goes = tree_goes i j list list (itself_kept i j list) schema n scope tree in goes.lies i j stands

-- between these indices all stands as it did
pub stands_kept :
    (from to : ℕ) (old new : FlatTree) (schema : SchemaModel) (n : ℕ) (scope : Scope) (i j : ℕ) (tree : Tree)
    → IsKeptIn from to old new → from ≤ i → j ≤ to → Stands schema n scope old i j tree
    → Stands schema n scope new i j tree
stands_kept from to old new schema n scope i j tree kept after before stands =
    let goes = tree_goes from to old new kept schema n scope tree in goes.stays i j after before stands

pub children_kept :
    (from to : ℕ) (old new : FlatTree) (schema : SchemaModel) (n : ℕ) (scope : Scope) (i j : ℕ) (shape : Shape)
    → IsKeptIn from to old new → from ≤ i → j ≤ to → ChildrenStand schema n scope old i j shape
    → ChildrenStand schema n scope new i j shape
children_kept from to old new schema n scope i j shape kept after before stand =
    let goes = line_goes from to (child_parts schema n scope old shape) (lying_parts schema n scope old shape) (child_parts schema n scope new shape) i j
    (children_go from to old new kept schema n scope shape) stand in
    goes.stays after before

-- the list of a filter lies as its tree does
pub filter_lies :
    (filter : Filter) → IsFilter filter
    → Lies filter.schema filter.filtered [] filter.list 0 (length filter.list.nodes) (tree_of_filter filter)
filter_lies filter is = stands_lie filter.schema filter.filtered [] filter.list 0 (length filter.list.nodes) (tree_of_filter filter) is.stands
