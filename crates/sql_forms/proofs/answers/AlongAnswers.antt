-- What the loops over the arguments of a call and over the items of a list have read so far.
use Rattle.sql_forms.proofs.Common.{◌≡◌, ◌<◌, ◌≤◌, ◌+◌, ◌++◌, ◌∷◌, ◌∙◌, inl, inr, [], ℕ, pos, Bool, false, List, Some, length, refl, sym, ap, subst, arith, IsSomeAnd, slice_get, slice_get_within, ExprType, slots_of, type_name_at, Trees, call, in_list, more_trees, no_trees, node, Function, Scope, Typed, Filter, IsFilter, AllLie, CheckedNode, NodeKind, lie_onward, lies_nonempty, found_there, some_there, there_found, Range, stop_there, all_lie, items_lie, Operand, Source, Kind, SqlType, IsNodeAt, IsReadAt, IsSideAt, IsUnread, AreAlong, AreArgumentsOf, AreItemsOf, kind_of_type}
use Rattle.sql_outcomes.proofs.nodes.BinaryPlaces.{top_node}
use Rattle.sql_outcomes.proofs.nodes.ComparisonsAt.{node_operand, same_node}
use Rattle.sql_outcomes.proofs.nodes.ByNode.{by_node}

-- ---- one operand after others

module _ (filter : Filter) (At : ℕ → Operand → Type 0) where
  pub along_more : (operands : List Operand) (first at : ℕ) (found : CheckedNode) (x : Operand) → AreAlong filter At first at operands → slice_get filter.list.nodes at ≡ Some found → at < found.stop
      → At at x → AreAlong filter At first found.stop (operands ++ x ∷ [])
  along_more [] first at found x along here after is =
      let start : first ≡ at = along in
      (found, ap (λ (k : ℕ). slice_get filter.list.nodes k) start ∙ here, omega (arith, start, after), subst (λ (k : ℕ). At k x) (sym start) is, refl)
  along_more (operand ∷ operands) first at found x along here after is =
      (along.0, along.1, along.2, along.3, along_more operands along.0.stop at found x along.4 here after is)

-- ---- what stands from an index on

-- trees up to the stop, one after another
pub record StandsOn (filter : Filter) (at stop : ℕ) : Type 0 where
  pub scope : Scope
  pub trees : Trees
  pub lie : AllLie filter.schema filter.filtered scope filter.list at stop trees

-- the next one
pub record NextOn (filter : Filter) (at stop : ℕ) : Type 0 where
  pub found : CheckedNode
  pub found_at : slice_get filter.list.nodes at ≡ Some found
  pub after : at < found.stop
  pub rest : StandsOn filter found.stop stop

module _ (filter : Filter) (at stop : ℕ) where
  pub next_on : at < stop → StandsOn filter at stop → NextOn filter at stop
  next_on below on = by on.trees on.lie
    where
      by : (trees : Trees) → AllLie filter.schema filter.filtered on.scope filter.list at stop trees → NextOn filter at stop
      by no_trees lie = let same : at ≡ stop = lie in absurd (omega (arith, below, same))
      by (more_trees (node from to shape) more) lie =
          let top = lie.left.top in
          let ends : top.found.stop ≡ lie.middle = top.last in
          let some : at < lie.middle = lies_nonempty filter.schema filter.filtered on.scope filter.list at lie.middle (node from to shape) lie.left in
          record {
            found = top.found;
            found_at = top.stands_at;
            after = omega (arith, ends, some);
            rest = record {
              scope = on.scope;
              trees = more;
              lie = subst (λ (k : ℕ). AllLie filter.schema filter.filtered on.scope filter.list k stop more) (sym ends) lie.right;
            };
          }

  -- all have been read
  pub ends_on : StandsOn filter at stop → stop ≤ at → at ≡ stop
  ends_on on none = let up_to : at ≤ stop = lie_onward filter.schema filter.filtered on.scope filter.list at stop on.trees on.lie in omega (arith, up_to, none)

-- ---- the arguments of a call

pub record ArgumentsSoFar (filter : Filter) (ranges : List Range) (place at stop : ℕ) (operands : List Operand) : Type 0 where
  pub on : StandsOn filter at stop
  pub along : AreAlong filter (IsNodeAt filter ranges) (place + 1) at operands

module _ (filter : Filter) (ranges : List Range) (place : ℕ) where
  pub arguments_start : IsFilter filter → (found : CheckedNode) → slice_get filter.list.nodes place ≡ Some found → (function : Function) → found.kind ≡ NodeKind.Call function
      → ArgumentsSoFar filter ranges place (place + 1) found.stop []
  arguments_start right found at function is =
      by_node filter right place found at (NodeKind.Call function) tt is (ArgumentsSoFar filter ranges place (place + 1) found.stop [])
      (λ scope asked trees named later s from to stands.
      let ends : found.stop ≡ s = stop_there filter scope place found at s (node from to (call asked trees)) stands in
      record {
        on = record {
          scope = scope;
          trees = trees;
          lie =
              subst (λ (k : ℕ). AllLie filter.schema filter.filtered scope filter.list (place + 1) k trees) (sym ends)
              (all_lie filter.schema filter.filtered scope filter.list (place + 1) s trees stands.children);
        };
        along = refl;
      })

  pub arguments_more : (at stop : ℕ) (operands : List Operand) (x : Operand) (found : CheckedNode) → slice_get filter.list.nodes at ≡ Some found → at < stop → IsNodeAt filter ranges at x
      → ArgumentsSoFar filter ranges place at stop operands → ArgumentsSoFar filter ranges place found.stop stop (operands ++ x ∷ [])
  arguments_more at stop operands x found found_at below is so =
      let next = next_on filter at stop below so.on in
      let same : next.found ≡ found = same_node filter at next.found found next.found_at found_at in
      record {
        on = subst (λ (f : CheckedNode). StandsOn filter f.stop stop) same next.rest;
        along = along_more filter (IsNodeAt filter ranges) operands (place + 1) at found x so.along found_at (subst (λ (f : CheckedNode). at < f.stop) same next.after) is;
      }

  pub arguments_end : (at : ℕ) (found : CheckedNode) → slice_get filter.list.nodes place ≡ Some found → (operands : List Operand) → found.stop ≤ at → ArgumentsSoFar filter ranges place at found.stop operands
      → AreArgumentsOf filter ranges place operands
  arguments_end at found found_at operands over so =
      let end = ends_on filter at found.stop so.on over in
      there_found (λ (f : CheckedNode). AreAlong filter (IsNodeAt filter ranges) (place + 1) f.stop operands) (slice_get filter.list.nodes place) found found_at
      (subst (λ (k : ℕ). AreAlong filter (IsNodeAt filter ranges) (place + 1) k operands) end so.along)

-- ---- the items of a list

pub record ItemsSoFar (filter : Filter) (ranges : List Range) (place at stop : ℕ) (items : List Operand) : Type 0 where
  pub on : StandsOn filter at stop
  pub begins : ℕ
  pub begins_at : IsSomeAnd (slice_get filter.list.nodes (place + 1)) (λ left. left.stop ≡ begins)
  pub along : AreAlong filter (IsSideAt filter ranges) begins at items

module _ (filter : Filter) (ranges : List Range) (place : ℕ) where
  pub items_start : IsFilter filter → (found : CheckedNode) → slice_get filter.list.nodes place ≡ Some found → found.kind ≡ NodeKind.InList → (begin : ℕ)
      → IsSomeAnd (slice_get filter.list.nodes (place + 1)) (λ n. n.stop ≡ begin) → ItemsSoFar filter ranges place begin found.stop []
  items_start right found at is begin reported =
      by_node filter right place found at NodeKind.InList tt is (ItemsSoFar filter ranges place begin found.stop [])
      (λ scope left trees s from to stands.
      let schema = filter.schema in
      let top = top_node filter scope (place + 1) stands.children.middle left stands.children.left in
      let own = found_there (λ (n : CheckedNode). n.stop ≡ begin) (slice_get filter.list.nodes (place + 1)) top.found top.at reported in
      let first : stands.children.middle ≡ begin = sym top.stops ∙ own in
      let ends : found.stop ≡ s = stop_there filter scope place found at s (node from to (in_list left trees)) stands in
      let OtherSide : ExprType → Type 0 = Typed (slots_of schema) (type_name_at schema filter.filtered) scope left in
      record {
        on = record {
          scope = scope;
          trees = trees;
          lie =
              subst (λ (k : ℕ). AllLie schema filter.filtered scope filter.list k found.stop trees) first
              (subst (λ (k : ℕ). AllLie schema filter.filtered scope filter.list stands.children.middle k trees) (sym ends)
              (items_lie schema filter.filtered scope filter.list OtherSide stands.children.middle s trees stands.children.right));
        };
        begins = begin;
        begins_at = reported;
        along = refl;
      })

  pub items_more : (at stop : ℕ) (items : List Operand) (x : Operand) (found : CheckedNode) → slice_get filter.list.nodes at ≡ Some found → at < stop → IsSideAt filter ranges at x
      → ItemsSoFar filter ranges place at stop items → ItemsSoFar filter ranges place found.stop stop (items ++ x ∷ [])
  items_more at stop items x found found_at below is so =
      let next = next_on filter at stop below so.on in
      let same : next.found ≡ found = same_node filter at next.found found next.found_at found_at in
      record {
        on = subst (λ (f : CheckedNode). StandsOn filter f.stop stop) same next.rest;
        begins = so.begins;
        begins_at = so.begins_at;
        along = along_more filter (IsSideAt filter ranges) items so.begins at found x so.along found_at (subst (λ (f : CheckedNode). at < f.stop) same next.after) is;
      }

  pub items_end : (at : ℕ) (found : CheckedNode) → slice_get filter.list.nodes place ≡ Some found → (items : List Operand) → found.stop ≤ at → ItemsSoFar filter ranges place at found.stop items
      → AreItemsOf filter ranges place items
  items_end at found found_at items over so =
      let end = ends_on filter at found.stop so.on over in
      let left = some_there (λ (n : CheckedNode). n.stop ≡ so.begins) (slice_get filter.list.nodes (place + 1)) so.begins_at in
      let whole : AreAlong filter (IsSideAt filter ranges) left.0.stop found.stop items =
      subst (λ (k : ℕ). AreAlong filter (IsSideAt filter ranges) k found.stop items) (sym left.1.1)
      (subst (λ (k : ℕ). AreAlong filter (IsSideAt filter ranges) so.begins k items) end so.along) in
      there_found (λ (f : CheckedNode). IsSomeAnd (slice_get filter.list.nodes (place + 1)) (λ n. AreAlong filter (IsSideAt filter ranges) n.stop f.stop items)) (slice_get filter.list.nodes place) found found_at
      (there_found (λ (n : CheckedNode). AreAlong filter (IsSideAt filter ranges) n.stop found.stop items) (slice_get filter.list.nodes (place + 1)) left.0 left.1.0 whole)

-- ---- what is pushed

pub node_is_at : (filter : Filter) (ranges : List Range) (at : ℕ) (x : Operand) → x.source ≡ Source.Node at → IsSomeAnd (slice_get filter.list.nodes at) (λ n. x.kind ≡ kind_of_type n.edm_type) → slice_get ranges at ≡ Some x.range
    → IsNodeAt filter ranges at x
node_is_at filter ranges at x source kind range = record { source = source; is = node_operand filter ranges x at kind range }

-- the number that is read there
pub number_side : (filter : Filter) (ranges : List Range) (at value : ℕ) (x : Operand) → IsReadAt filter at value → x.source ≡ Source.Number value → x.kind ≡ Kind.Value SqlType.Member → (may_be_null : Bool) → may_be_null ≡ false
    → x.range ≡ record { may_fault = false; may_be_null = may_be_null; low = pos 0; high = pos 0 } → IsSideAt filter ranges at x
number_side filter ranges at value x read source kind may_be_null never range =
    inl (record { value = value; source = source; read = read; kind = kind; plain = ap (λ (r : Range). r.may_fault) range; given = ap (λ (r : Range). r.may_be_null) range ∙ never })

-- the node there, where none is read
pub node_side : (filter : Filter) (ranges : List Range) (at : ℕ) (x : Operand) → IsUnread filter at → x.source ≡ Source.Node at → IsSomeAnd (slice_get filter.list.nodes at) (λ n. x.kind ≡ kind_of_type n.edm_type)
    → slice_get ranges at ≡ Some x.range → IsSideAt filter ranges at x
node_side filter ranges at x unread source kind range = inr (unread, node_is_at filter ranges at x source kind range)

-- what stands there is a node of the filter
pub next_inside : (filter : Filter) (at stop : ℕ) → at < stop → StandsOn filter at stop → at < length filter.list.nodes
next_inside filter at stop below on =
    let next = next_on filter at stop below on in
    slice_get_within filter.list.nodes at next.found next.found_at

-- so is the node that was read
pub next_after : (filter : Filter) (at stop : ℕ) → at < stop → StandsOn filter at stop → (found : CheckedNode) → slice_get filter.list.nodes at ≡ Some found → at < found.stop
next_after filter at stop below on found found_at =
    let next = next_on filter at stop below on in
    let same : next.found ≡ found = same_node filter at next.found found next.found_at found_at in
    subst (λ (n : CheckedNode). at < n.stop) same next.after

-- a node of a kind
pub kind_inside : (filter : Filter) (place : ℕ) (kind : NodeKind) → IsSomeAnd (slice_get filter.list.nodes place) (λ n. n.kind ≡ kind) → place < length filter.list.nodes
kind_inside filter place kind is =
    let there = some_there (λ (n : CheckedNode). n.kind ≡ kind) (slice_get filter.list.nodes place) is in
    slice_get_within filter.list.nodes place there.0 there.1.0
