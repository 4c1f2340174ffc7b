-- A tree calls a function where a node of its list does.
use Rattle.std.proofs.Common.{◌≡◌, ◌↔◌, ◌∙◌, refl, sym, ap, subst, ℕ, zero, suc, ◌<◌, List, [], ◌∷◌, ◌++◌, Bool, true, false, Some, length, slice_get, arith}
use Rattle.std.specs.Prelude.{◌||◌, Contains, codes, slice_index_or}
use Rattle.std.specs.List.{flat_map, list_any}
use Rattle.std.proofs.lemmas.Bool.{false≢true}
use Rattle.std.proofs.lemmas.Option.{none-some, slice_get_within}
use Rattle.odata_syntax.specs.Spans.{IsWithin, children_of, in_child, is_root}
use Rattle.odata_syntax.specs.Tree.{Shape, Tree, Trees, call, node, shape_of}
use Rattle.csdl_schema.specs.SchemaModel.{Slots, slots_of, type_name_at}
use Rattle.odata_signatures.specs.Functions.{IsNamed}
use Rattle.odata_signatures.specs.declared.function.Function.{Function}
use Rattle.odata_signatures.specs.PreOrder.{pre_order}
use Rattle.odata_signatures.specs.Typed.{Scope}
use Rattle.odata_checked_filter.specs.declared.checked_node.CheckedNode.{CheckedNode}
use Rattle.odata_checked_filter.specs.declared.checked_node.NodeKind.{NodeKind}
use Rattle.odata_checked_filter.specs.Calls.{CallsOne, TakesMemory, UsesNow}
use Rattle.odata_checked_filter.specs.Filter.{Filter, IsFilter, tree_of_filter}
use Rattle.odata_checked_filter.specs.private.Layout.{Lies}
use Rattle.odata_checked_filter.specs.Stands.{IsKindOf}
use Rattle.odata_checked_filter.specs.private.Called.{function_makes_text, kind_is_now, kind_makes_text}
use Rattle.odata_checked_filter.proofs.flat.Numbered.{count_of, numbered}
use Rattle.odata_checked_filter.proofs.flat.Below.{below_flat}
use Rattle.odata_checked_filter.proofs.flat.KindForms.{HasForm, call_form, form_there, now_form}
use Rattle.odata_checked_filter.proofs.flat.Nodes.{node_in}
use Rattle.odata_checked_filter.proofs.flat.Places.{found_within, get_front, same_found}

get_right : {X : Type 0} (xs ys : List X) (k : ℕ) (x : X) → slice_get ys k ≡ Some x → (j : ℕ) × (slice_get (xs ++ ys) j ≡ Some x)
get_right [] ys k x found = (k, found)
get_right (y ∷ xs) ys k x found = let rest = get_right xs ys k x found in (suc rest.0, rest.1)

-- what stands in the list of one of some trees stands in the list of all
in_flat : (trees : List Tree) (child part : Tree) (i k : ℕ) → i < length trees → slice_index_or trees i child ≡ child
    → slice_get (pre_order child) k ≡ Some part → (j : ℕ) × (slice_get (flat_map pre_order trees) j ≡ Some part)
in_flat [] child part i k within is found = let h : i < 0 = within in absurd (omega arith)
in_flat (tree ∷ trees) child part zero k within is found =
    let same : tree ≡ child = is in
    (k, get_front (pre_order tree) (flat_map pre_order trees) k part (subst (λ (t : Tree). slice_get (pre_order t) k ≡ Some part) (sym same) found))
in_flat (tree ∷ trees) child part (suc i) k within is found =
    let rest = in_flat trees child part i k (let h : suc i < suc (length trees) = within in omega arith) is found in
    get_right (pre_order tree) (flat_map pre_order trees) rest.0 part rest.1

-- each node of a tree has its number
ordered : (tree part : Tree) → IsWithin part tree → (k : ℕ) × (slice_get (pre_order tree) k ≡ Some part)
ordered (node start stop shape) part is_root = (0, refl)
ordered (node start stop shape) part (in_child {child = child} contains within) =
    let k = ordered child part within in
    let j = in_flat (children_of shape) child part contains.0 k.0 contains.1 contains.2 k.1 in
    (suc j.0, subst (λ (ts : List Tree). slice_get ts j.0 ≡ Some part) (sym (below_flat shape)) j.1)

-- ---- a test of kinds

any_found : (test : CheckedNode → Bool) (xs : List CheckedNode) → list_any test xs ≡ true
    → (k : ℕ) × (x : CheckedNode) × (slice_get xs k ≡ Some x) × (test x ≡ true)
any_found test [] any = cc
any_found test (x ∷ xs) any =
    elim (test x) as (λ b. test x ≡ b → (b || list_any test xs) ≡ true → (k : ℕ) × (y : CheckedNode) × (slice_get (x ∷ xs) k ≡ Some y) × (test y ≡ true)) [
      | true ↦ λ here all. (0, x, refl, here)
      | false ↦ λ here rest. let r = any_found test xs rest in (suc r.0, r.1, r.2, r.3)
    ] refl any

found_any : (test : CheckedNode → Bool) (xs : List CheckedNode) (k : ℕ) (x : CheckedNode) → slice_get xs k ≡ Some x → test x ≡ true → list_any test xs ≡ true
found_any test [] k x found here = absurd (none-some x found)
found_any test (y ∷ xs) zero x found here =
    let same : y ≡ x = cc found in
    let passes : test y ≡ true = ap test same ∙ here in
    ap (λ (b : Bool). b || list_any test xs) passes
found_any test (y ∷ xs) (suc k) x found here =
    elim (test y) as (λ b. (b || list_any test xs) ≡ true) [ true ↦ refl | false ↦ found_any test xs k x found here ]

-- the test passes just the kinds of calls of these functions
pub record Tests (test : NodeKind → Bool) (functions : List (List ℕ)) : Type 0 where
  pub sound :
      (slots : Slots) (root : List ℕ) (scope : Scope) (shape : Shape) (kind : NodeKind)
      → HasForm slots root scope shape kind → test kind ≡ true
      → (called : List ℕ) × (arguments : Trees) × (shape ≡ call called arguments) × Contains functions called
  pub complete :
      (slots : Slots) (root : List ℕ) (scope : Scope) (called : List ℕ) (arguments : Trees) (kind : NodeKind)
      → IsKindOf slots root scope (call called arguments) kind → Contains functions called → test kind ≡ true

node_calls : (test : NodeKind → Bool) (functions : List (List ℕ)) (filter : Filter) (scope : Scope) (k stop : ℕ) (part : Tree) (found : CheckedNode)
    → Tests test functions → Lies filter.schema filter.filtered scope filter.list k stop part → slice_get filter.list.nodes k ≡ Some found
    → test found.kind ≡ true → IsWithin part (tree_of_filter filter) → CallsOne functions (tree_of_filter filter)
node_calls test functions filter scope k stop (node s e shape) found tests stands here passes within =
    let is = tests.sound (slots_of filter.schema) (type_name_at filter.schema filter.filtered) scope shape found.kind
    (form_there filter.schema filter.filtered scope filter.list k stop s e shape found stands here) passes in
    record { part = node s e shape; within = within; called = is.0; arguments = is.1; is_call = is.2; one = is.3 }

call_passes : (test : NodeKind → Bool) (functions : List (List ℕ)) (filter : Filter) (scope : Scope) (k stop : ℕ) (part : Tree) (found : CheckedNode) (called : List ℕ) (arguments : Trees)
    → Tests test functions → Lies filter.schema filter.filtered scope filter.list k stop part → slice_get filter.list.nodes k ≡ Some found
    → shape_of part ≡ call called arguments → Contains functions called → test found.kind ≡ true
call_passes test functions filter scope k stop (node s e shape) found called arguments tests stands here is_call one =
    let top = stands.top in
    let same : top.found ≡ found = same_found (slice_get filter.list.nodes k) top.found found top.stands_at here in
    let K : Shape → Type 0 = λ (x : Shape). IsKindOf (slots_of filter.schema) (type_name_at filter.schema filter.filtered) scope x top.found.kind in
    ap (λ (f : CheckedNode). test f.kind) (sym same)
    ∙ tests.complete (slots_of filter.schema) (type_name_at filter.schema filter.filtered) scope called arguments top.found.kind (subst K is_call top.kind) one

pub calls_by_nodes : (test : NodeKind → Bool) (functions : List (List ℕ)) (filter : Filter) → Tests test functions → IsFilter filter
    → (list_any (λ (n : CheckedNode). test n.kind) filter.list.nodes ≡ true) ↔ CallsOne functions (tree_of_filter filter)
calls_by_nodes test functions filter tests is =
    let nodes = filter.list.nodes in
    let tree = tree_of_filter filter in (
      λ any.
          let f = any_found (λ (n : CheckedNode). test n.kind) nodes any in
          let n = numbered filter f.0 f.1 is f.2 in
          let there = node_in (slots_of filter.schema) (type_name_at filter.schema filter.filtered) [] tree f.0 n.scope n.part n.is_node in
          node_calls test functions filter n.scope f.0 n.stop n.part f.1 tests n.stands f.2 f.3 there.within,
      λ calls.
          let k = ordered tree calls.part calls.within in
          let count : length nodes ≡ length (pre_order tree) = count_of filter is in
          let within : k.0 < length (pre_order tree) = slice_get_within (pre_order tree) k.0 calls.part k.1 in
          let f = found_within nodes k.0 (omega arith) in
          let n = numbered filter k.0 f.0 is f.1 in
          let same : calls.part ≡ n.part = same_found (slice_get (pre_order tree) k.0) calls.part n.part k.1 n.ordered in
          found_any (λ (m : CheckedNode). test m.kind) nodes k.0 f.0 f.1
          (call_passes test functions filter n.scope k.0 n.stop n.part f.0 calls.called calls.arguments tests n.stands f.1
          (sym (ap shape_of same) ∙ calls.is_call) calls.one),
    )

-- ---- the two tests

abbrev pub AreDistinct : Type 0
AreDistinct = (f g : Function) (name : List ℕ) → IsNamed f name → IsNamed g name → f ≡ g

maker_named : (function : Function) (asked : List ℕ) → function_makes_text function ≡ true → IsNamed function asked
    → Contains (codes "concat" ∷ codes "tolower" ∷ codes "toupper" ∷ []) asked
maker_named Function.Concat asked passes named = (0, omega arith, named)
maker_named Function.ToLower asked passes named = (1, omega arith, named)
maker_named Function.ToUpper asked passes named = (2, omega arith, named)
maker_named _ asked passes named = cc

named_maker : AreDistinct → (function : Function) (asked : List ℕ) → IsNamed function asked
    → Contains (codes "concat" ∷ codes "tolower" ∷ codes "toupper" ∷ []) asked → function_makes_text function ≡ true
named_maker distinct function asked named (zero, within, is) = ap function_makes_text (distinct function Function.Concat asked named is)
named_maker distinct function asked named (suc zero, within, is) = ap function_makes_text (distinct function Function.ToLower asked named is)
named_maker distinct function asked named (suc (suc zero), within, is) = ap function_makes_text (distinct function Function.ToUpper asked named is)
named_maker distinct function asked named (suc (suc (suc k)), within, is) = let h : suc (suc (suc k)) < 3 = within in absurd (omega arith)

maker_sound :
    (slots : Slots) (root : List ℕ) (scope : Scope) (shape : Shape) (kind : NodeKind)
    → HasForm slots root scope shape kind → kind_makes_text kind ≡ true
    → (called : List ℕ) × (arguments : Trees) × (shape ≡ call called arguments) × Contains (codes "concat" ∷ codes "tolower" ∷ codes "toupper" ∷ []) called
maker_sound slots root scope shape kind (call_form {asked = called} {arguments = arguments} {function = function} named other) passes =
    (called, arguments, refl, maker_named function called passes named)
maker_sound slots root scope shape kind _ passes = cc

maker_complete : AreDistinct →
    (slots : Slots) (root : List ℕ) (scope : Scope) (called : List ℕ) (arguments : Trees) (kind : NodeKind)
    → IsKindOf slots root scope (call called arguments) kind → Contains (codes "concat" ∷ codes "tolower" ∷ codes "toupper" ∷ []) called
    → kind_makes_text kind ≡ true
maker_complete distinct slots root scope called arguments (NodeKind.Call function) is one = named_maker distinct function called is.0 one
maker_complete distinct slots root scope called arguments NodeKind.Now is one =
    absurd (false≢true (named_maker distinct Function.Now called is one))
maker_complete distinct slots root scope called arguments _ is one = absurd is

now_sound :
    (slots : Slots) (root : List ℕ) (scope : Scope) (shape : Shape) (kind : NodeKind)
    → HasForm slots root scope shape kind → kind_is_now kind ≡ true
    → (called : List ℕ) × (arguments : Trees) × (shape ≡ call called arguments) × Contains (codes "now" ∷ []) called
now_sound slots root scope shape kind (now_form {asked = called} {arguments = arguments} named) passes = (called, arguments, refl, (0, omega arith, named))
now_sound slots root scope shape kind _ passes = cc

now_complete : AreDistinct →
    (slots : Slots) (root : List ℕ) (scope : Scope) (called : List ℕ) (arguments : Trees) (kind : NodeKind)
    → IsKindOf slots root scope (call called arguments) kind → Contains (codes "now" ∷ []) called → kind_is_now kind ≡ true
now_complete distinct slots root scope called arguments (NodeKind.Call function) is (zero, within, named) =
    absurd (is.1 (distinct function Function.Now called is.0 named))
now_complete distinct slots root scope called arguments (NodeKind.Call function) is (suc k, within, named) =
    let h : suc k < 1 = within in absurd (omega arith)
now_complete distinct slots root scope called arguments NodeKind.Now is one = refl
now_complete distinct slots root scope called arguments _ is one = absurd is

pub makers_reported : AreDistinct → (filter : Filter) → IsFilter filter
    → (list_any (λ (n : CheckedNode). kind_makes_text n.kind) filter.list.nodes ≡ true) ↔ TakesMemory (tree_of_filter filter)
makers_reported distinct filter is =
    calls_by_nodes kind_makes_text (codes "concat" ∷ codes "tolower" ∷ codes "toupper" ∷ []) filter
    (record { sound = maker_sound; complete = maker_complete distinct }) is

pub now_reported : AreDistinct → (filter : Filter) → IsFilter filter
    → (list_any (λ (n : CheckedNode). kind_is_now n.kind) filter.list.nodes ≡ true) ↔ UsesNow (tree_of_filter filter)
now_reported distinct filter is =
    calls_by_nodes kind_is_now (codes "now" ∷ []) filter (record { sound = now_sound; complete = now_complete distinct }) is
