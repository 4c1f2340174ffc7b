-- Only names and paths are records, collections or single values of structured types: what stands on the way of a path.
use Rattle.std.proofs.Common.{◌≡◌, inl, inr, ◌<◌, ◌≤◌, ◌+◌, ℕ, List, Some, refl, sym, subst, arith}
use Rattle.std.specs.Prelude.{IsSomeAnd, slice_get}
use Rattle.std.proofs.lemmas.Bool.{cases_lt}
use Rattle.csdl_schema.specs.ExprType.{ExprType, single, structured}
use Rattle.csdl_schema.specs.SchemaModel.{Slots, slots_of, type_name_at}
use Rattle.odata_syntax.specs.Tree.{Shape, Tree, any_item, binary, call, count, has, in_list, in_path, it, lambda, literal, logical_not, member, name, negation, node}
use Rattle.odata_signatures.specs.Typed.{Scope, Typed}
use Rattle.odata_checked_filter.specs.Filter.{Filter, IsFilter}
use Rattle.odata_checked_filter.specs.Stands.{IsKindOf}
use Rattle.odata_checked_filter.specs.private.Layout.{Lies}
use Rattle.odata_checked_filter.specs.declared.checked_node.CheckedNode.{CheckedNode}
use Rattle.odata_checked_filter.specs.declared.checked_node.NodeKind.{NodeKind}
use Rattle.odata_checked_filter.proofs.flat.Numbered.{numbered}
use Rattle.odata_checked_filter.proofs.needed.Kinds.{step_there}
use Rattle.filter_context.proofs.Parts.{found_there, some_there, there_found}
use Rattle.odata_ranges.proofs.KeptPaths.{IsPathType, class_no_path, literal_no_path, no_path, number_no_path}
use Rattle.sql_draft.specs.private.Paths.{IsBottom, IsBottomOf, IsMemberAt}
use Rattle.sql_draft.specs.Translated.{IsPathAt, IsStep}

-- a node on the way of a path
abbrev pub IsOnWay : NodeKind → Type 0
IsOnWay NodeKind.It = Unit {0}
IsOnWay (NodeKind.Property slot) = Unit {0}
IsOnWay (NodeKind.Variable level) = Unit {0}
IsOnWay (NodeKind.Member slot) = Unit {0}
IsOnWay kind = ⊥

module _ (slots : Slots) (root : List ℕ) (scope : Scope) where
  name_on_way : (asked : List ℕ) (kind : NodeKind) → IsKindOf slots root scope (name asked) kind → IsOnWay kind
  name_on_way asked (NodeKind.Variable level) is = tt
  name_on_way asked (NodeKind.Property slot) is = tt
  name_on_way asked _ is = absurd is

  member_on_way : (base : Tree) (asked : List ℕ) (kind : NodeKind) → IsKindOf slots root scope (member base asked) kind → IsOnWay kind
  member_on_way base asked (NodeKind.Member slot) is = tt
  member_on_way base asked _ is = absurd is

  on_way_of : (from to : ℕ) (shape : Shape) (kind : NodeKind) (type : ExprType) → IsPathType type → Typed slots root scope (node from to shape) type → IsKindOf slots root scope shape kind → IsOnWay kind
  on_way_of from to it kind type path typed is = subst IsOnWay (sym is) tt
  on_way_of from to (name asked) kind type path typed is = name_on_way asked kind is
  on_way_of from to (member base asked) kind type path typed is = member_on_way base asked kind is
  on_way_of from to (literal k spelling) kind type path typed is = absurd (literal_no_path slots k spelling type typed path)
  on_way_of from to (count base) kind type path typed is = absurd (no_path _ type typed.makes.1 path)
  on_way_of from to (negation operand) kind type path typed is = absurd (number_no_path _ type typed.makes.type_is path)
  on_way_of from to (logical_not operand) kind type path typed is = absurd (no_path _ type typed.makes.1 path)
  on_way_of from to (binary operator left right) kind type path typed is = elim typed.makes [
    | inl by_class ↦ absurd (class_no_path operator _ _ type by_class path)
    | inr one ↦ absurd (no_path _ type one.1 path)
  ]
  on_way_of from to (has left right) kind type path typed is = absurd (no_path _ type typed.makes.1 path)
  on_way_of from to (in_list left listed) kind type path typed is = absurd (no_path _ type typed.makes.2 path)
  on_way_of from to (in_path left right) kind type path typed is = absurd (no_path _ type typed.makes.1 path)
  on_way_of from to (call asked arguments) kind type path typed is = absurd (no_path _ type typed.call_typed.typed.gives path)
  on_way_of from to (any_item base) kind type path typed is = absurd (no_path _ type typed.makes.1 path)
  on_way_of from to (lambda quantifier base variable body) kind type path typed is = absurd (no_path _ type typed.makes path)

module _ (filter : Filter) where
  -- a tree of such a type is a name or a path
  pub tree_on_way : (scope : Scope) (place stop : ℕ) (tree : Tree) (type : ExprType) → IsPathType type → Lies filter.schema filter.filtered scope filter.list place stop tree
      → Typed (slots_of filter.schema) (type_name_at filter.schema filter.filtered) scope tree type → IsSomeAnd (slice_get filter.list.nodes place) (λ n. IsOnWay n.kind)
  tree_on_way scope place stop (node from to shape) type path stands typed =
      there_found (λ (n : CheckedNode). IsOnWay n.kind) (slice_get filter.list.nodes place) stands.top.found stands.top.stands_at
      (on_way_of (slots_of filter.schema) (type_name_at filter.schema filter.filtered) scope from to shape stands.top.found.kind type path typed stands.top.kind)

  -- what stands after a member
  pub after_member : IsFilter filter → (at : ℕ) → IsMemberAt filter at → IsSomeAnd (slice_get filter.list.nodes (at + 1)) (λ n. IsOnWay n.kind)
  after_member right at is =
      let found = some_there (λ (n : CheckedNode). (slot : ℕ) × (n.kind ≡ NodeKind.Member slot)) (slice_get filter.list.nodes at) is in
      let s = numbered filter at found.0 right found.1.0 in
      let step = step_there filter.schema filter.filtered s.scope filter.list at s.stop found.1.1.0 s.part found.0 s.stands found.1.0 found.1.1.1 in
      tree_on_way s.scope (at + 1) s.stop step.base (single (structured step.owner)) tt step.base_stands step.base_typed

-- ---- down to the lowest node

-- the nodes so far are members
pub record WayDown (filter : Filter) (place at : ℕ) : Type 0 where
  pub first : place ≤ at
  pub members : (k : ℕ) → place ≤ k → k < at → IsMemberAt filter k
  pub there : IsSomeAnd (slice_get filter.list.nodes at) (λ n. IsOnWay n.kind)

step_on_way : (kind : NodeKind) → IsStep kind → IsOnWay kind
step_on_way (NodeKind.Property slot) is = tt
step_on_way (NodeKind.Variable level) is = tt
step_on_way (NodeKind.Member slot) is = tt
step_on_way kind is = absurd is

module _ (filter : Filter) (place : ℕ) where
  pub way_begins : IsPathAt filter place → WayDown filter place place
  way_begins path =
      let found = some_there (λ (n : CheckedNode). IsStep n.kind) (slice_get filter.list.nodes place) path in
      record {
        first = omega arith;
        members = λ k first below. absurd (omega (arith, first, below));
        there = there_found (λ (n : CheckedNode). IsOnWay n.kind) (slice_get filter.list.nodes place) found.0 found.1.0 (step_on_way found.0.kind found.1.1);
      }

  pub one_down : IsFilter filter → (at slot : ℕ) (found : CheckedNode) → slice_get filter.list.nodes at ≡ Some found → found.kind ≡ NodeKind.Member slot → WayDown filter place at → WayDown filter place (at + 1)
  one_down right at slot found found_at kind_is way =
      let here : IsMemberAt filter at = there_found (λ (n : CheckedNode). (s : ℕ) × (n.kind ≡ NodeKind.Member s)) (slice_get filter.list.nodes at) found found_at (slot, kind_is) in
      let before : place ≤ at = way.first in
      record {
        first = omega (arith, before);
        members = λ k first below. elim (cases_lt k at) [
          | inl earlier ↦ way.members k first earlier
          | inr last ↦ (let same : at ≡ k = omega (arith, last, below) in subst (IsMemberAt filter) same here)
        ];
        there = after_member filter right at here;
      }

  bottom_of : (kind : NodeKind) → IsOnWay kind → ((slot : ℕ) → kind ≡ NodeKind.Member slot → ⊥) → IsBottom kind
  bottom_of NodeKind.It way other = tt
  bottom_of (NodeKind.Property slot) way other = tt
  bottom_of (NodeKind.Variable level) way other = tt
  bottom_of (NodeKind.Member slot) way other = absurd (other slot refl)
  bottom_of kind way other = absurd way

  pub way_ends : (at : ℕ) (found : CheckedNode) → slice_get filter.list.nodes at ≡ Some found → ((slot : ℕ) → found.kind ≡ NodeKind.Member slot → ⊥) → WayDown filter place at → IsBottomOf filter place at
  way_ends at found found_at other way = record {
    after = way.first;
    members = way.members;
    bottom = there_found (λ (n : CheckedNode). IsBottom n.kind) (slice_get filter.list.nodes at) found found_at
        (bottom_of found.kind (found_there (λ (n : CheckedNode). IsOnWay n.kind) (slice_get filter.list.nodes at) found found_at way.there) other);
  }
