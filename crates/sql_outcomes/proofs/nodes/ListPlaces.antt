-- The items of a list as operands: where they stand, what they are compared with, and whether one is equal.
use Rattle.sql_outcomes.proofs.Common.{◌≡◌, inl, inr, ◌<◌, ◌≤◌, ◌+◌, ◌∷◌, [], ℕ, List, Bool, true, false, Some, length, refl, sym, ap, subst, ◌∙◌, arith, IsSomeAnd, slice_get, AllByRecursion, Val, boolean, ExprType, Slots, slots_of, type_name_at, Tree, Trees, in_list, more_trees, no_trees, node, ComparisonOperator, IsItemFor, AreComparable, ResolvedNumber, expr_type, OneType, quoted_text, side_of, sides_of, AreTyped, Scope, Typed, Filter, IsFilter, ItemsStand, Stands, CheckedNode, NodeKind, HasKind, some_there, there_found, CompareGives, Then, Outcome, gives, Range, node_onward, stop_inside, tree_at, SqlType, Draft, Operand, Kind, AreAlong, IsBelow, IsSide, AreCompared, kind_of_type, fault_else, AreBeside, AreItemsOf, EachCompared, EachEquals, EqualsHas, ListHas, any_of, some_of, IsNodeAt, IsNodeOperand, IsSideAt, IsTested, OperandHas, AreRanges, IsFaultless, IsAskedOf, OfPlace, Puts, Question, World, puts_as, by_kind, stop_is}
use Rattle.sql_outcomes.proofs.outcomes.Apart.{true_stays}
use Rattle.sql_outcomes.proofs.nodes.BinaryPlaces.{top_node}
use Rattle.sql_outcomes.proofs.nodes.ComparisonPlaces.{side_faultless, side_tested, side_value}
use Rattle.sql_outcomes.proofs.nodes.ComparisonsAt.{comparable_kinds, same_node, side_below}
use Rattle.sql_outcomes.proofs.outcomes.Comparisons.{compared_truth}
use Rattle.sql_outcomes.proofs.nodes.Sides.{IsEither, IsRead, beside_found, beside_member, side_cases}
use Rattle.sql_outcomes.proofs.nodes.Along.{items_along, onward_along, too_many}

-- ---- where they stand

module _ (filter : Filter) (ranges : List Range) (place : ℕ) (own : CheckedNode) (own_at : slice_get filter.list.nodes place ≡ Some own) where
  item_side : (at : ℕ) (item : Operand) → place < at → at < own.stop → IsSideAt filter ranges at item → IsSide filter ranges place item
  item_side at item after inside is = side_below filter ranges place at item is (after, there_found (λ (n : CheckedNode). at < n.stop) (slice_get filter.list.nodes place) own own_at inside)

  all_sides : (at stop : ℕ) (items : List Operand) → place < at → stop ≤ own.stop → AreAlong filter (IsSideAt filter ranges) at stop items → AllByRecursion (IsSide filter ranges place) items
  all_sides at stop [] after inside along = tt
  all_sides at stop (item ∷ items) after inside along =
      let here : at < along.0.stop = along.2 in
      let next : along.0.stop ≤ stop = onward_along filter (IsSideAt filter ranges) along.0.stop stop items along.4 in
      let within : at < own.stop = omega (arith, here, next, inside) in
      let further : place < along.0.stop = omega (arith, here, after) in
      (item_side at item after within along.3, all_sides along.0.stop stop items further inside along.4)

pub list_sides : (filter : Filter) → IsFilter filter → (ranges : List Range) (place : ℕ) (items : List Operand) → AreItemsOf filter ranges place items
    → AllByRecursion (IsSide filter ranges place) items
list_sides filter right ranges place items are =
    let own = some_there (λ (node : CheckedNode). IsSomeAnd (slice_get filter.list.nodes (place + 1)) (λ left. AreAlong filter (IsSideAt filter ranges) left.stop node.stop items))
    (slice_get filter.list.nodes place) are in
    let left = some_there (λ (n : CheckedNode). AreAlong filter (IsSideAt filter ranges) n.stop own.0.stop items) (slice_get filter.list.nodes (place + 1)) own.1.1 in
    let further : place + 1 < left.0.stop = node_onward filter right (place + 1) left.0 left.1.0 in
    let stop_within : own.0.stop ≤ own.0.stop = omega arith in
    let after : place < left.0.stop = omega (arith, further) in
    all_sides filter ranges place own.0 own.1.0 left.0.stop own.0.stop items after stop_within left.1.1

-- the left side, too
pub list_left : (filter : Filter) → IsFilter filter → (ranges : List Range) (place : ℕ) (items : List Operand) → AreItemsOf filter ranges place items
    → IsBelow filter place (place + 1)
list_left filter right ranges place items are =
    let own = some_there (λ (node : CheckedNode). IsSomeAnd (slice_get filter.list.nodes (place + 1)) (λ left. AreAlong filter (IsSideAt filter ranges) left.stop node.stop items))
    (slice_get filter.list.nodes place) are in
    let left = some_there (λ (n : CheckedNode). AreAlong filter (IsSideAt filter ranges) n.stop own.0.stop items) (slice_get filter.list.nodes (place + 1)) own.1.1 in
    let further : place + 1 < left.0.stop = node_onward filter right (place + 1) left.0 left.1.0 in
    let on : left.0.stop ≤ own.0.stop = onward_along filter (IsSideAt filter ranges) left.0.stop own.0.stop items left.1.1 in
    (omega arith, there_found (λ (n : CheckedNode). place + 1 < n.stop) (slice_get filter.list.nodes place) own.0 own.1.0 (omega (arith, further, on)))

-- each has an index of its own
along_many : (filter : Filter) (At : ℕ → Operand → Type 0) (at stop : ℕ) (items : List Operand) → AreAlong filter At at stop items → length items + at ≤ stop
along_many filter At at stop [] along = omega (arith, along)
along_many filter At at stop (item ∷ items) along =
    let more = along_many filter At along.0.stop stop items along.4 in
    let here : at < along.0.stop = along.2 in
    omega (arith, more, here)

-- so there are no more of them than nodes
pub items_few : (filter : Filter) → IsFilter filter → (ranges : List Range) (place : ℕ) (items : List Operand) → AreItemsOf filter ranges place items → length items ≤ length filter.list.nodes
items_few filter right ranges place items are =
    let own = some_there (λ (node : CheckedNode). IsSomeAnd (slice_get filter.list.nodes (place + 1)) (λ left. AreAlong filter (IsSideAt filter ranges) left.stop node.stop items))
    (slice_get filter.list.nodes place) are in
    let left = some_there (λ (n : CheckedNode). AreAlong filter (IsSideAt filter ranges) n.stop own.0.stop items) (slice_get filter.list.nodes (place + 1)) own.1.1 in
    let many = along_many filter (IsSideAt filter ranges) left.0.stop own.0.stop items left.1.1 in
    let ends : own.0.stop ≤ length filter.list.nodes = stop_inside filter right place own.0 own.1.0 in
    omega (arith, many, ends)

-- ---- what they are compared with

module _ (filter : Filter) (types : OneType) (ranges : List Range) (scope : Scope) (left_tree : Tree) (left_type : ExprType)
    (left_typed : Typed (slots_of filter.schema) (type_name_at filter.schema filter.filtered) scope left_tree left_type) (left_node : CheckedNode) (left_is : expr_type filter.schema left_node.edm_type ≡ left_type) where
  abbrev slots : Slots
  slots = slots_of filter.schema

  abbrev root : List ℕ
  root = type_name_at filter.schema filter.filtered

  abbrev OtherSide : ExprType → Type 0
  OtherSide = Typed slots root scope left_tree

  -- beside a number that is read stands a member of an enumeration
  number_compared : (item : Operand) (tree : Tree) (at : ℕ) → IsRead filter OtherSide tree at item → AreCompared (kind_of_type left_node.edm_type) item.kind
  number_compared item tree at read =
      let reads = read.reads in
      let number : ResolvedNumber slots left_type (quoted_text tree) read.number =
      subst (λ (t : ExprType). ResolvedNumber slots t (quoted_text tree) read.number) (types slots root scope left_tree reads.type_of left_type reads.beside left_typed) reads.number in
      subst (λ (k : Kind). AreCompared k item.kind) (sym (beside_member slots filter.schema left_type left_node.edm_type (quoted_text tree) read.number (sym left_is) number)) (subst (AreCompared (Kind.Value SqlType.Member)) (sym read.is.kind) refl)

  node_compared : (at stop : ℕ) (item : Operand) (tree : Tree) (type : ExprType) → IsNodeAt filter ranges at item → Stands filter.schema filter.filtered scope filter.list at stop tree → Typed slots root scope tree type
      → AreComparable left_type type → AreCompared (kind_of_type left_node.edm_type) item.kind
  node_compared at stop item tree type is stands typed comparable =
      let top = top_node filter scope at stop tree stands in
      let same = same_node filter at top.found is.is.node top.at is.is.at in
      let type_is : type ≡ expr_type filter.schema top.found.edm_type = types slots root scope tree type (expr_type filter.schema top.found.edm_type) typed top.typed in
      let by_types : AreComparable (expr_type filter.schema left_node.edm_type) (expr_type filter.schema top.found.edm_type) =
      subst (λ (t : ExprType). AreComparable t (expr_type filter.schema top.found.edm_type)) (sym left_is) (subst (AreComparable left_type) type_is comparable) in
      subst (AreCompared (kind_of_type left_node.edm_type)) (sym is.is.kind)
      (subst (λ (n : CheckedNode). AreCompared (kind_of_type left_node.edm_type) (kind_of_type n.edm_type)) same (comparable_kinds filter.schema left_node.edm_type top.found.edm_type by_types))

  item_compared : (at stop : ℕ) (item : Operand) (tree : Tree) (type : ExprType) → IsEither filter ranges scope OtherSide tree at stop item → Typed slots root scope tree type
      → IsItemFor slots left_type (side_of tree type) → AreCompared (kind_of_type left_node.edm_type) item.kind
  item_compared at stop item tree type (inl read) typed beside = number_compared item tree at read
  item_compared at stop item tree type (inr alone) typed (inl beside) = node_compared at stop item tree type alone.is alone.stands typed beside
  item_compared at stop item tree type (inr alone) typed (inr beside) = absurd (alone.none beside.0 (record { type_of = left_type; beside = left_typed; number = beside.1 }))

  abbrev Along : ℕ → ℕ → List Operand → Type 0
  Along = AreAlong filter (IsSideAt filter ranges)

  pub all_compared_kinds : (at stop : ℕ) (trees : Trees) (given_types : List ExprType) (items : List Operand)
      → ItemsStand filter.schema filter.filtered scope filter.list OtherSide at stop trees → AreTyped slots root scope trees given_types → AllByRecursion (IsItemFor slots left_type) (sides_of trees given_types)
      → Along at stop items → AllByRecursion (λ (item : Operand). AreCompared (kind_of_type left_node.edm_type) item.kind) items
  all_compared_kinds at stop trees given_types [] stand typed beside along = tt
  all_compared_kinds at stop no_trees given_types (item ∷ items) stand typed beside along = absurd (too_many filter (IsSideAt filter ranges) at stop item items along stand)
  all_compared_kinds at stop (more_trees tree more) [] (item ∷ items) stand typed beside along = absurd typed
  all_compared_kinds at stop (more_trees tree more) (type ∷ given_types) (item ∷ items) stand typed beside along =
      let first = beside_found filter scope OtherSide tree at stand.middle stand.left in
      let own : first.found ≡ along.0 = same_node filter at first.found along.0 first.at along.1 in
      let stops : along.0.stop ≡ stand.middle = subst (λ (f : CheckedNode). f.stop ≡ stand.middle) own first.stops in
      let either = side_cases filter ranges scope OtherSide tree at stand.middle item along.3 stand.left in (
        item_compared at stand.middle item tree type either typed.0 beside.0,
        all_compared_kinds stand.middle stop more given_types items stand.right typed.1 beside.1 (subst (λ (k : ℕ). Along k stop items) stops along.4),
      )

module _ (filter : Filter) (types : OneType) (right : IsFilter filter) (ranges : List Range) (place : ℕ) (left : Operand)
    (left_is : IsNodeOperand filter ranges left (place + 1)) (items : List Operand) where
  abbrev ItemsCompared : Type 0
  ItemsCompared = AllByRecursion (λ (item : Operand). AreCompared left.kind item.kind) items

  -- the list there, in whatever scope
  of_list : AreItemsOf filter ranges place items → (scope : Scope) (left_tree : Tree) (trees : Trees) (stop from to : ℕ)
      → (stands : Stands filter.schema filter.filtered scope filter.list place stop (node from to (in_list left_tree trees))) → ItemsCompared
  of_list are_items scope left_tree trees stop from to stands =
      subst (λ (k : Kind). AllByRecursion (λ (item : Operand). AreCompared k item.kind) items) (sym left_is.kind)
      (all_compared_kinds filter types ranges scope left_tree stands.top.typed.left stands.top.typed.left_typed left_is.node left_type stands.children.middle stop trees stands.top.typed.items items
      stands.children.right stands.top.typed.items_typed stands.top.typed.makes.1 along)
    where
      left_type : expr_type filter.schema left_is.node.edm_type ≡ stands.top.typed.left
      left_type =
          let top = top_node filter scope (place + 1) stands.children.middle left_tree stands.children.left in
          let same = same_node filter (place + 1) top.found left_is.node top.at left_is.at in
          subst (λ (n : CheckedNode). expr_type filter.schema n.edm_type ≡ stands.top.typed.left) same
          (types (slots_of filter.schema) (type_name_at filter.schema filter.filtered) scope left_tree (expr_type filter.schema top.found.edm_type) stands.top.typed.left top.typed stands.top.typed.left_typed)

      along : AreAlong filter (IsSideAt filter ranges) stands.children.middle stop items
      along =
          subst (λ (k : ℕ). AreAlong filter (IsSideAt filter ranges) k stop items)
          (stop_is filter.schema filter.filtered scope filter.list (place + 1) left_is.node left_is.at stands.children.middle left_tree stands.children.left)
          (subst (λ (k : ℕ). AreAlong filter (IsSideAt filter ranges) left_is.node.stop k items) stands.top.last (items_along filter ranges place items are_items stands.top.found left_is.node stands.top.stands_at left_is.at))

  pub list_kinds : HasKind filter.list place NodeKind.InList → AreItemsOf filter ranges place items → ItemsCompared
  list_kinds here are_items =
      let there = tree_at filter right place NodeKind.InList tt here in
      by_kind filter.schema filter.filtered there.scope filter.list place NodeKind.InList here (λ stop tree. ItemsCompared)
      (λ left_tree trees stop from to stands. of_list are_items there.scope left_tree trees stop from to stands)
      there.stop there.part there.stands

-- both may be compared, where the list evaluates to no fault
all_tested : (question : Question) (ranges : List Range) → AreRanges question ranges → (place : ℕ) → IsFaultless ranges place → (items : List Operand) → AllByRecursion (IsSide question.filter ranges place) items
    → AllByRecursion (IsTested question.filter ranges) items
all_tested question ranges are place faultless [] sides = tt
all_tested question ranges are place faultless (item ∷ items) sides = (
  side_tested question.filter ranges place item sides.0 (λ truth. side_faultless question ranges are place item faultless sides.0),
  all_tested question ranges are place faultless items sides.1,
)

pub list_beside : (question : Question) (ranges : List Range) → AreRanges question ranges → (place : ℕ) → IsFaultless ranges place → (left : Operand) (items : List Operand) → IsSide question.filter ranges place left
    → AllByRecursion (IsSide question.filter ranges place) items → AllByRecursion (λ (item : Operand). AreCompared left.kind item.kind) items → AreBeside question.filter ranges left items
list_beside question ranges are place faultless left items left_is sides compared = record {
  left_tested = side_tested question.filter ranges place left left_is (λ truth. side_faultless question ranges are place left faultless left_is);
  tested = all_tested question ranges are place faultless items sides;
  compared = compared;
}

-- ---- whether one is equal

flags_first : (b : Bool) (es : List Outcome) (bs : List Bool) → any_of es ≡ gives (boolean (some_of bs)) → any_of (gives (boolean b) ∷ es) ≡ gives (boolean (some_of (b ∷ bs)))
flags_first true es bs is = true_stays es
flags_first false es bs is = is

module _ (question : Question) (ranges : List Range) (are : AreRanges question ranges) (place : ℕ) (faultless : IsFaultless ranges place) (left : Operand) (left_is : IsSide question.filter ranges place left) (world : World)
    (seen : IsAskedOf question world) where
  record Equals (l : Val) (items : List Operand) (es : List Outcome) : Type 0 where
    values : List Val
    bs : List Bool
    each : EachEquals question.filter l items world values bs
    is : any_of es ≡ gives (boolean (some_of bs))

  equals : (l : Val) (left_outcome : Outcome) → left_outcome ≡ gives l → (items : List Operand) (es : List Outcome) → AllByRecursion (IsSide question.filter ranges place) items
      → EachCompared question.filter left left_outcome items world es → Equals l items es
  equals l left_outcome same [] es sides each = record { values = []; bs = []; each = (refl, refl); is = ap any_of each }
  equals l left_outcome same (item ∷ items) [] sides each = absurd each
  equals l left_outcome same (item ∷ items) (e ∷ es) sides each =
      let f = each.0 in
      let rest = equals l left_outcome same items es sides.1 each.2 in
      let r = side_value question ranges are place item sides.0 (side_faultless question ranges are place item faultless sides.0) world f.right_outcome seen f.right_has in
      let left_same : f.left_outcome ≡ gives l = each.1 ∙ same in
      let given : CompareGives ComparisonOperator.Eq l r.1.0 e =
      subst (λ (p : Outcome). Then (gives l) (λ x. Then p (CompareGives ComparisonOperator.Eq x)) e) r.1.1
      (subst (λ (p : Outcome). Then p (λ x. Then f.right_outcome (CompareGives ComparisonOperator.Eq x)) e) left_same f.given) in
      let b = compared_truth ComparisonOperator.Eq l r.1.0 e given in
      record {
        values = r.1.0 ∷ rest.values;
        bs = b.0 ∷ rest.bs;
        each = (
          record { has = subst (OperandHas question.filter item world) r.1.1 r.0; fits = f.right_fits r.1.0 r.1.1 },
          subst (CompareGives ComparisonOperator.Eq l r.1.0) b.1 given,
          rest.each,
        );
        is = ap (λ (p : Outcome). any_of (p ∷ es)) b.1 ∙ flags_first b.0 es rest.bs rest.is;
      }

  pub list_equals : (items : List Operand) → AllByRecursion (IsSide question.filter ranges place) items → (o : Outcome) → ListHas question.filter left items world o → EqualsHas question.filter left items world o
  list_equals items sides o has =
      let l = side_value question ranges are place left left_is (side_faultless question ranges are place left faultless left_is) world has.left_outcome seen has.left_has in
      let e = equals l.1.0 has.left_outcome l.1.1 items has.outcomes sides has.each in
      record {
        l = l.1.0;
        has = record { has = subst (OperandHas question.filter left world) l.1.1 l.0; fits = has.left_fits l.1.0 l.1.1 };
        values = e.values;
        bs = e.bs;
        each = e.each;
        is = has.is ∙ ap (λ (p : Outcome). fault_else p (any_of has.outcomes)) l.1.1 ∙ e.is;
      }

-- so what is put for the items is put for the node
pub list_put : (question : Question) (place : ℕ) (left : Operand) (items : List Operand) (Form : Outcome → Outcome → Type 0)
    → ((world : World) (o : Outcome) → IsAskedOf question world → OfPlace question.filter place world o → EqualsHas question.filter left items world o) → (old new : Draft)
    → Puts question old new (EqualsHas question.filter left items) Form → Puts question old new (OfPlace question.filter place) Form
list_put question place left items Form comes old new inner =
    puts_as question old new (EqualsHas question.filter left items) (OfPlace question.filter place) Form Form inner (λ world o is has. (o, comes world o is.seen has, λ x form. form))
