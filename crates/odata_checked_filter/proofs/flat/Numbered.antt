-- The node of a number, in the list and in the tree.
use Rattle.std.proofs.Common.{◌≡◌, refl, sym, ap, ◌∙◌, subst, inl, inr, ℕ, ◌<◌, ◌≤◌, ◌+◌, List, [], Some, None, Option, slice_get, length, arith}
use Rattle.std.specs.Option.{option_map}
use Rattle.std.proofs.lemmas.Option.{none-some, slice_get-map, slice_get_cases, slice_get_past, slice_get_within}
use Rattle.odata_syntax.specs.Tree.{Shape, Tree, node}
use Rattle.odata_text.specs.declared.span.Span.{Span}
use Rattle.csdl_schema.specs.SchemaModel.{Slots, slots_of, type_name_at}
use Rattle.odata_checked_filter.specs.declared.checked_node.CheckedNode.{CheckedNode}
use Rattle.odata_checked_filter.specs.declared.checked_node.NodeKind.{NodeKind}
use Rattle.odata_signatures.specs.Laws.{OneType}
use Rattle.odata_checked_filter.specs.NodeScopes.{IsNode}
use Rattle.odata_checked_filter.proofs.flat.Nodes.{node_in, node_one}
use Rattle.odata_checked_filter.specs.Filter.{Filter, IsFilter, IsTypeAt, tree_of_filter}
use Rattle.odata_checked_filter.specs.NameKinds.{NamesSlot, IsSlotAt, level_of_node, level_at}
use Rattle.odata_signatures.specs.PreOrder.{pre_order, span_of_tree}
use Rattle.odata_checked_filter.specs.ScopedNodes.{ScopedNode, scoped_nodes}
use Rattle.odata_checked_filter.specs.private.Layout.{Lies}
use Rattle.odata_checked_filter.specs.Stands.{variable_names}
use Rattle.odata_signatures.specs.Typed.{Scope, Typed}
use Rattle.odata_signatures.specs.TypeView.{expr_type}
use Rattle.odata_checked_filter.proofs.flat.KindForms.{HasForm, form_of, member_form, property_form, variable_form}
use Rattle.odata_checked_filter.proofs.flat.Places.{found_within, same_found}
use Rattle.odata_checked_filter.proofs.flat.Lying.{filter_lies}
use Rattle.odata_checked_filter.proofs.flat.Parts.{IsWalkOperand, part_stands, parts_count, parts_of}
use Rattle.odata_checked_filter.proofs.flat.Standing.{lies_size}

-- the level that a kind has
abbrev pub level_of_kind : NodeKind → Option ℕ
level_of_kind (NodeKind.Variable level) = Some level
level_of_kind _ = None

-- the slot that a kind has
abbrev pub slot_of_kind : NodeKind → Option ℕ
slot_of_kind (NodeKind.Property slot) = Some slot
slot_of_kind (NodeKind.Member slot) = Some slot
slot_of_kind _ = None

-- the kinds without
pub no_level : (kind : NodeKind) → ((level : ℕ) → kind ≡ NodeKind.Variable level → ⊥) → level_of_kind kind ≡ None
no_level (NodeKind.Variable level) other = absurd (other level refl)
no_level _ other = refl

pub no_slot : (kind : NodeKind) → ((slot : ℕ) → kind ≡ NodeKind.Property slot → ⊥) → ((slot : ℕ) → kind ≡ NodeKind.Member slot → ⊥) → slot_of_kind kind ≡ None
no_slot (NodeKind.Property slot) property member_of = absurd (property slot refl)
no_slot (NodeKind.Member slot) property member_of = absurd (member_of slot refl)
no_slot _ property member_of = refl

names_slot :
    (slots : Slots) (root : List ℕ) (scope : Scope) (start stop : ℕ) (shape : Shape) (kind : NodeKind) (slot : ℕ)
    → HasForm slots root scope shape kind → slot_of_kind kind ≡ Some slot
    → NamesSlot slots root scope (node start stop shape) slot
names_slot slots root scope start stop shape kind slot (property_form free named) found = (free, named ∙ found)
names_slot slots root scope start stop shape kind slot (member_form owner typed named) found = (owner, typed, named ∙ found)
names_slot slots root scope start stop shape kind slot _ found = absurd (none-some slot found)

-- a node whose kind has no slot names none
slots_none :
    (slots : Slots) (root : List ℕ) (scope : Scope) (start stop : ℕ) (shape : Shape) (kind : NodeKind) (slot : ℕ)
    → HasForm slots root scope shape kind → slot_of_kind kind ≡ None
    → NamesSlot slots root scope (node start stop shape) slot → ⊥
slots_none slots root scope start stop shape kind slot (property_form {slot = other} free named) none names = none-some other (sym none)
slots_none slots root scope start stop shape kind slot (member_form {slot = other} owner typed named) none names = none-some other (sym none)
slots_none slots root scope start stop shape kind slot (variable_form {asked = asked} {level = level} bound) none names =
    none-some level (sym names.0 ∙ bound)
slots_none slots root scope start stop shape kind slot _ none names = names

level_of_top :
    (slots : Slots) (root : List ℕ) (scope : Scope) (start stop : ℕ) (shape : Shape) (kind : NodeKind)
    → HasForm slots root scope shape kind
    → level_of_node (variable_names scope) (node start stop shape) ≡ level_of_kind kind
level_of_top slots root scope start stop shape kind (variable_form bound) = bound
level_of_top slots root scope start stop shape kind (property_form free named) = free
level_of_top slots root scope start stop shape kind _ = refl

-- what a node of the list says of the tree that stands there, in a scope
pub record IsNodeOf (filter : Filter) (found : CheckedNode) (scope : Scope) (part : Tree) : Type 0 where
  pub span : found.span ≡ span_of_tree part
  pub typed : Typed (slots_of filter.schema) (type_name_at filter.schema filter.filtered) scope part (expr_type filter.schema found.edm_type)
  pub slots : (slot : ℕ) → slot_of_kind found.kind ≡ Some slot → NamesSlot (slots_of filter.schema) (type_name_at filter.schema filter.filtered) scope part slot
  pub slotless : (slot : ℕ) → slot_of_kind found.kind ≡ None → ¬ NamesSlot (slots_of filter.schema) (type_name_at filter.schema filter.filtered) scope part slot
  pub levels : level_of_node (variable_names scope) part ≡ level_of_kind found.kind

span_same : (span : Span) (start stop : ℕ) → span.start ≡ start → span.stop ≡ stop → span ≡ record { start = start; stop = stop }
span_same span start stop a b = rw (sym a, sym b) refl

top_says :
    (filter : Filter) (scope : Scope) (k j : ℕ) (tree : Tree)
    → (stands : Lies filter.schema filter.filtered scope filter.list k j tree) → (found : CheckedNode)
    → slice_get filter.list.nodes k ≡ Some found → IsNodeOf filter found scope tree
top_says filter scope k j (node start stop shape) stands found here =
    let slots = slots_of filter.schema in
    let root = type_name_at filter.schema filter.filtered in
    let top = stands.top in
    let same : top.found ≡ found = same_found (slice_get filter.list.nodes k) top.found found top.stands_at here in
    let P : CheckedNode → Type 0 = λ (f : CheckedNode). IsNodeOf filter f scope (node start stop shape) in
    let form = form_of slots root scope shape top.found.kind top.kind in
    subst P same (record {
      span = span_same top.found.span start stop top.starts top.stops;
      typed = top.typed;
      slots = λ slot is. names_slot slots root scope start stop shape top.found.kind slot form is;
      slotless = λ slot none names. slots_none slots root scope start stop shape top.found.kind slot form none names;
      levels = level_of_top slots root scope start stop shape top.found.kind form;
    })

-- as many nodes in the list as in the tree
pub count_of : (filter : Filter) → IsFilter filter → length filter.list.nodes ≡ length (pre_order (tree_of_filter filter))
count_of filter is =
    let e : length filter.list.nodes ≡ 0 + length (pre_order (tree_of_filter filter)) =
    lies_size filter.schema filter.filtered [] filter.list 0 (length filter.list.nodes) (tree_of_filter filter) (filter_lies filter is) in
    omega arith

-- a node of the list, and the part of the tree that it is of
pub record IsNumbered (filter : Filter) (k : ℕ) (found : CheckedNode) : Type 0 where
  pub scope : Scope
  pub part : Tree
  pub scoped : slice_get (scoped_nodes [] (tree_of_filter filter)) k ≡ Some (record { variables = variable_names scope; part = part })
  pub ordered : slice_get (pre_order (tree_of_filter filter)) k ≡ Some part
  pub is_node : IsNode (slots_of filter.schema) (type_name_at filter.schema filter.filtered) [] (tree_of_filter filter) k scope part
  pub says : IsNodeOf filter found scope part
  pub stop : ℕ
  pub stands : Lies filter.schema filter.filtered scope filter.list k stop part

pub numbered : (filter : Filter) (k : ℕ) (found : CheckedNode) → IsFilter filter → slice_get filter.list.nodes k ≡ Some found → IsNumbered filter k found
numbered filter k found is here =
    let tree = tree_of_filter filter in
    let within : k < length filter.list.nodes = slice_get_within filter.list.nodes k found here in
    let count : length filter.list.nodes ≡ length (pre_order tree) = count_of filter is in
    let parts : length (scoped_nodes [] tree) ≡ length (pre_order tree) = parts_count [] tree in
    let inside : k < length (scoped_nodes [] tree) = omega arith in
    let s = found_within (scoped_nodes [] tree) k inside in
    let P : ℕ → Type 0 = λ (x : ℕ). IsWalkOperand filter.schema filter.filtered filter.list x (IsNode (slots_of filter.schema) (type_name_at filter.schema filter.filtered) [] tree k) s.0 in
    let zero_more : 0 + k ≡ k = omega arith in
    let part = subst P zero_more (part_stands filter.schema filter.filtered filter.list [] 0 (length filter.list.nodes) tree k s.0 (filter_lies filter is) s.1) in
    let at : List (List ℕ) → ScopedNode = λ (variables : List (List ℕ)). record { variables = variables; part = s.0.part } in
    record {
      scope = part.inner;
      part = s.0.part;
      scoped = s.1 ∙ ap Some (ap at part.variables);
      ordered =
          ap (λ (ts : List Tree). slice_get ts k) (sym (parts_of [] tree))
          ∙ slice_get-map (λ (x : ScopedNode). x.part) (scoped_nodes [] tree) k
          ∙ ap (option_map (λ (x : ScopedNode). x.part)) s.1;
      is_node = part.is_node;
      says = top_says filter part.inner k part.j s.0.part part.stands found here;
      stop = part.j;
      stands = part.stands;
    }

-- past the list's end is past the tree's
pub past_ordered : (filter : Filter) (k : ℕ) → IsFilter filter → length filter.list.nodes ≤ k → slice_get (pre_order (tree_of_filter filter)) k ≡ None
past_ordered filter k is past =
    let count : length filter.list.nodes ≡ length (pre_order (tree_of_filter filter)) = count_of filter is in
    slice_get_past (pre_order (tree_of_filter filter)) k (omega arith)

pub past_scoped : (filter : Filter) (k : ℕ) → IsFilter filter → length filter.list.nodes ≤ k → slice_get (scoped_nodes [] (tree_of_filter filter)) k ≡ None
past_scoped filter k is past =
    let count : length filter.list.nodes ≡ length (pre_order (tree_of_filter filter)) = count_of filter is in
    let parts : length (scoped_nodes [] (tree_of_filter filter)) ≡ length (pre_order (tree_of_filter filter)) = parts_count [] (tree_of_filter filter) in
    slice_get_past (scoped_nodes [] (tree_of_filter filter)) k (omega arith)

pub type_at : (filter : Filter) (k : ℕ) (found : CheckedNode) → IsNumbered filter k found → IsTypeAt filter k (expr_type filter.schema found.edm_type)
type_at filter k found is = record { at = is.scope; part = is.part; numbered = is.is_node; typed = is.says.typed }

pub slot_at : (filter : Filter) (k slot : ℕ) (found : CheckedNode) → IsNumbered filter k found → slot_of_kind found.kind ≡ Some slot → IsSlotAt filter k slot
slot_at filter k slot found is kind =
    record { at = is.scope; part = is.part; numbered = is.is_node; names = is.says.slots slot kind }

-- a node whose kind has no slot has none in the tree
pub no_slot_there : OneType → (filter : Filter) (k slot : ℕ) (found : CheckedNode) → IsNumbered filter k found → slot_of_kind found.kind ≡ None → ¬ IsSlotAt filter k slot
no_slot_there one filter k slot found is none other =
    let slots = slots_of filter.schema in
    let root = type_name_at filter.schema filter.filtered in
    let same = node_one one slots root [] (tree_of_filter filter) k other.at is.scope other.part is.part other.numbered is.is_node in
    let P : Scope → Type 0 = λ (s : Scope). NamesSlot slots root s other.part slot in
    let Q : Tree → Type 0 = λ (t : Tree). NamesSlot slots root is.scope t slot in
    is.says.slotless slot none (subst Q same.parts (subst P same.scopes other.names))

pub level_found : (filter : Filter) (k : ℕ) (found : CheckedNode) → IsNumbered filter k found → level_at filter k ≡ level_of_kind found.kind
level_found filter k found is = rw is.scoped is.says.levels

pub no_slot_past : (filter : Filter) (k slot : ℕ) → IsFilter filter → length filter.list.nodes ≤ k → ¬ IsSlotAt filter k slot
no_slot_past filter k slot is past names =
    let there = node_in (slots_of filter.schema) (type_name_at filter.schema filter.filtered) [] (tree_of_filter filter) k names.at names.part names.numbered in
    let before : k < length (pre_order (tree_of_filter filter)) = there.before in
    let count : length filter.list.nodes ≡ length (pre_order (tree_of_filter filter)) = count_of filter is in
    omega arith

pub no_level_past : (filter : Filter) (k : ℕ) → IsFilter filter → length filter.list.nodes ≤ k → level_at filter k ≡ None
no_level_past filter k is past = rw (past_scoped filter k is past) refl

-- what is not found is past the end
pub past_end : (nodes : List CheckedNode) (k : ℕ) → None ≡ slice_get nodes k → length nodes ≤ k
past_end nodes k none =
    elim (slice_get_cases nodes k).1 [ inl x ↦ absurd (none-some x.0 (none ∙ x.2)) | inr y ↦ y.0 ]
