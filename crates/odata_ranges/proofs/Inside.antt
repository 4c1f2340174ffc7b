-- Where the children of a node stand, and that they do.
use Rattle.odata_ranges.proofs.Common.{◌≡◌, ◌⊎◌, inl, inr, ℕ, ℤ, ◌<◌, ◌≤◌, ◌+◌, List, [], ◌∷◌, Some, length, slice_get, refl, sym, ap, subst, arith, slice_get_within, Value, Tree, Trees, call, in_list, literal, more_trees, no_trees, node, BinaryOperator, LiteralKind, Quantifier, ExprType, slots_of, type_name_at, IsNamed, row_of, Function, AreTyped, Scope, Filter, IsFilter, AllLie, NumberStands, CheckedNode, NodeKind, numbered, lies_nonempty, one_kind, inside, there_found, NodeForm, HasForm, form_of, LieBetween}
use Rattle.filter_context.proofs.Spines.{some_taken}
use Rattle.odata_ranges.proofs.Ends.{one_child, two_children}
use Rattle.odata_ranges.proofs.Forms.{StandsIn, by_kind as there_by_kind, valued_there}
use Rattle.odata_ranges.proofs.TreesAt.{number_there, something_there}
use Rattle.odata_ranges.proofs.Layouts.{by_node, inside_there, stop_there, type_there}

-- ---- kinds by their forms

pub leaf_rest : (kind : NodeKind) → form_of kind ≡ NodeForm.Leaf → ((k : LiteralKind) (value : ℕ) → kind ≡ NodeKind.Literal k value → ⊥)
    → ((slot : ℕ) → kind ≡ NodeKind.Property slot → ⊥) → ((level : ℕ) → kind ≡ NodeKind.Variable level → ⊥) → (kind ≡ NodeKind.It) ⊎ (kind ≡ NodeKind.Now)
leaf_rest NodeKind.It form a b c = inl refl
leaf_rest NodeKind.Now form a b c = inr refl
leaf_rest (NodeKind.Literal k value) form a b c = absurd (a k value refl)
leaf_rest (NodeKind.Property slot) form a b c = absurd (b slot refl)
leaf_rest (NodeKind.Variable level) form a b c = absurd (c level refl)
leaf_rest _ form a b c = absurd (cc)

pub step_kind : (kind : NodeKind) (slot : ℕ) → form_of kind ≡ NodeForm.Step slot → kind ≡ NodeKind.Member slot
step_kind (NodeKind.Member own) slot form = let same : own ≡ slot = cc in ap (λ (n : ℕ). NodeKind.Member n) same
step_kind _ slot form = absurd (cc)

pub call_kind : (kind : NodeKind) (function : Function) → form_of kind ≡ NodeForm.Call function → kind ≡ NodeKind.Call function
call_kind (NodeKind.Call own) function form = let same : own ≡ function = cc in ap (λ (f : Function). NodeKind.Call f) same
call_kind _ function form = absurd (cc)

pub not_kind : (kind : NodeKind) → form_of kind ≡ NodeForm.One → (kind ≡ NodeKind.Count → ⊥) → (kind ≡ NodeKind.AnyItem → ⊥) → (kind ≡ NodeKind.Neg → ⊥) → kind ≡ NodeKind.Not
not_kind NodeKind.Not form a b c = refl
not_kind NodeKind.Count form a b c = absurd (a refl)
not_kind NodeKind.AnyItem form a b c = absurd (b refl)
not_kind NodeKind.Neg form a b c = absurd (c refl)
not_kind _ form a b c = absurd (cc)

pub lambda_kind : (kind : NodeKind) → form_of kind ≡ NodeForm.Two → ((operator : BinaryOperator) → kind ≡ NodeKind.Binary operator → ⊥) → (kind ≡ NodeKind.Has → ⊥)
    → (kind ≡ NodeKind.InPath → ⊥) → (quantifier : Quantifier) × (kind ≡ NodeKind.Lambda quantifier)
lambda_kind (NodeKind.Lambda quantifier) form a b c = (quantifier, refl)
lambda_kind (NodeKind.Binary operator) form a b c = absurd (a operator refl)
lambda_kind NodeKind.Has form a b c = absurd (b refl)
lambda_kind NodeKind.InPath form a b c = absurd (c refl)
lambda_kind _ form a b c = absurd (cc)

pub list_kind : (kind : NodeKind) → form_of kind ≡ NodeForm.List → kind ≡ NodeKind.InList
list_kind NodeKind.InList form = refl
list_kind _ form = absurd (cc)

-- the same literal's value
pub same_value : (k l : LiteralKind) (a b : ℕ) → NodeKind.Literal k a ≡ NodeKind.Literal l b → a ≡ b
same_value k l a b is = cc

module _ (filter : Filter) (is : IsFilter filter) (place : ℕ) (found : CheckedNode) (at : slice_get filter.list.nodes place ≡ Some found) where
  pub literal_inside : (k : LiteralKind) (value : ℕ) → found.kind ≡ NodeKind.Literal k value → value < length filter.list.values
  literal_inside k value kind_is =
      let there = something_there filter is place (slice_get_within filter.list.nodes place found at) in
      elim there.stands [
        | inl stands ↦ of_tree there.scope there.stop there.part stands
        | inr number ↦ of_number there.scope there.stop there.part number.0 number.1
      ]
    where
      of_tree : (scope : Scope) (stop : ℕ) (tree : Tree) → StandsIn filter scope place stop tree → value < length filter.list.values
      of_tree scope = there_by_kind filter scope place found at (NodeKind.Literal k value) kind_is (λ s t. value < length filter.list.values)
          (λ kind spelling s from to stands.
          inside _ filter.list.values value (valued_there filter scope place found at (NodeKind.Literal k value) kind_is s from to (literal kind spelling) stands))

      of_number : (scope : Scope) (stop : ℕ) (tree : Tree) (number : ℤ) → NumberStands filter.schema filter.filtered scope filter.list number place stop tree → value < length filter.list.values
      of_number scope stop tree number stands =
          let it = number_there filter.schema filter.filtered scope filter.list number place stop tree stands in
          let here = there_found (λ (f : CheckedNode). f.kind ≡ NodeKind.Literal k value) (slice_get filter.list.nodes place) found at kind_is in
          let same = same_value k LiteralKind.Str value it.value
          (one_kind (slice_get filter.list.nodes place) (NodeKind.Literal k value) (NodeKind.Literal LiteralKind.Str it.value) here it.here) in
          subst (λ (n : ℕ). n < length filter.list.values) (sym same) (slice_get_within filter.list.values it.value (Value.Enum number) it.at)

  pub one_inside : form_of found.kind ≡ NodeForm.One → place + 1 < length filter.list.nodes
  one_inside form =
      let there = numbered filter place found is at in
      let child = one_child filter is place found at there.scope found.kind refl form there.stop there.part there.stands in
      inside_there filter there.scope (place + 1) there.stop child.0 child.1

  -- the first child stands after the node, and the second one where that stops
  abbrev pub BothInside : Type 0
  BothInside = (place + 1 < length filter.list.nodes) × ((one : CheckedNode) → slice_get filter.list.nodes (place + 1) ≡ Some one → (one.stop < length filter.list.nodes) × (place + 1 ≤ one.stop))

  pub two_inside : (kind : NodeKind) → found.kind ≡ kind → form_of kind ≡ NodeForm.Two → BothInside
  two_inside kind kind_is form =
      let there = numbered filter place found is at in
      let two = two_children filter is place found at there.scope kind kind_is form there.stop there.part there.stands in (
        inside_there filter there.scope (place + 1) two.middle two.first two.left,
        λ one one_at.
            let same = stop_there filter there.scope (place + 1) one one_at two.middle two.first two.left in
            let further = lies_nonempty filter.schema filter.filtered there.scope filter.list (place + 1) two.middle two.first two.left in
            (subst (λ (m : ℕ). m < length filter.list.nodes) (sym same) (inside_there filter two.inner two.middle there.stop two.second two.right), omega (arith, same, further)),
      )

  -- trees in line stand after a node of `in` before a list
  pub list_stands : found.kind ≡ NodeKind.InList → LieBetween filter (place + 1) found.stop
  list_stands kind_is = by_node filter is place found at NodeKind.InList kind_is (LieBetween filter (place + 1) found.stop)
      (λ scope left listed s from to stands.
      let same : found.stop ≡ s = stop_there filter scope place found at s (node from to (in_list left listed)) stands in
      (scope, more_trees left listed, subst (λ (m : ℕ). AllLie filter.schema filter.filtered scope filter.list (place + 1) m (more_trees left listed)) (sym same) stands.children))

  -- arguments in line stand after a call, one at least
  pub record ArgumentsStand : Type 0 where
    pub scope : Scope
    pub first : Tree
    pub more : Trees
    pub stand : AllLie filter.schema filter.filtered scope filter.list (place + 1) found.stop (more_trees first more)

  some_argument : (scope : Scope) (arguments : Trees) (types : List ExprType) → AreTyped (slots_of filter.schema) (type_name_at filter.schema filter.filtered) scope arguments types → 1 ≤ length types
      → AllLie filter.schema filter.filtered scope filter.list (place + 1) found.stop arguments → ArgumentsStand
  some_argument scope (more_trees first more) types typed some stand = record { scope = scope; first = first; more = more; stand = stand }
  some_argument scope no_trees [] typed some stand = absurd (omega (arith, some))
  some_argument scope no_trees (t ∷ ts) typed some stand = absurd typed

  pub arguments_stand : ((f g : Function) (name : List ℕ) → IsNamed f name → IsNamed g name → f ≡ g) → (function : Function) → found.kind ≡ NodeKind.Call function → ArgumentsStand
  arguments_stand one function kind_is = by_node filter is place found at (NodeKind.Call function) kind_is ArgumentsStand
      (λ scope asked arguments named later s from to stands.
      let typed = type_there filter scope place found at s (node from to (call asked arguments)) stands in
      let called = typed.call_typed in
      let same : called.function ≡ function = one called.function function asked called.named named in
      let least : 1 ≤ (row_of called.function).least = subst (λ (f : Function). 1 ≤ (row_of f).least) (sym same) (some_taken function later) in
      let stops : found.stop ≡ s = stop_there filter scope place found at s (node from to (call asked arguments)) stands in
      some_argument scope arguments typed.types typed.arguments_typed (omega (arith, least, called.typed.count.least))
      (subst (λ (m : ℕ). AllLie filter.schema filter.filtered scope filter.list (place + 1) m arguments) (sym stops) stands.children))

  pub argument_inside : ArgumentsStand → place + 1 < length filter.list.nodes
  argument_inside there = inside_there filter there.scope (place + 1) there.stand.middle there.first there.stand.left

  pub second_inside : (there : ArgumentsStand) (one : CheckedNode) → slice_get filter.list.nodes (place + 1) ≡ Some one → one.stop < found.stop → one.stop < length filter.list.nodes
  second_inside there one one_at before =
      let same : one.stop ≡ there.stand.middle = stop_there filter there.scope (place + 1) one one_at there.stand.middle there.first there.stand.left in
      subst (λ (m : ℕ). m < length filter.list.nodes) (sym same) (behind there.more there.stand.right (subst (λ (m : ℕ). m < found.stop) same before))
    where
      behind : (more : Trees) → AllLie filter.schema filter.filtered there.scope filter.list there.stand.middle found.stop more → there.stand.middle < found.stop
          → there.stand.middle < length filter.list.nodes
      behind no_trees stand further = let ends : there.stand.middle ≡ found.stop = stand in absurd (omega (arith, ends, further))
      behind (more_trees tree later) stand further = inside_there filter there.scope there.stand.middle stand.middle tree stand.left

  pub further_inside : (there : ArgumentsStand) (one : CheckedNode) → slice_get filter.list.nodes (place + 1) ≡ Some one → place + 1 ≤ one.stop
  further_inside there one one_at =
      let same : one.stop ≡ there.stand.middle = stop_there filter there.scope (place + 1) one one_at there.stand.middle there.first there.stand.left in
      let further = lies_nonempty filter.schema filter.filtered there.scope filter.list (place + 1) there.stand.middle there.first there.stand.left in
      omega (arith, same, further)

-- the arguments of a node that is a call
pub arguments_here : {filter : Filter} {place : ℕ} {found : CheckedNode} {function : Function} → ((f g : Function) (name : List ℕ) → IsNamed f name → IsNamed g name → f ≡ g)
    → (form : HasForm filter place found (NodeForm.Call function)) → ArgumentsStand filter form.right place found form.at
arguments_here {filter = filter} {place = place} {found = found} {function = function} one form =
    arguments_stand filter form.right place found form.at one function (call_kind found.kind function form.is)
