-- Nodes below another: operands of `not`, bodies of lambda operators and collections, and that they evaluate to no
-- fault where the node above evaluates to none.
use Rattle.sql_outcomes.proofs.Common.{◌≡◌, ◌≢◌, ◌<◌, ◌+◌, ◌∷◌, ◌∙◌, ℕ, List, Some, false, length, refl, sym, subst, arith, slice_get, ExprType, SingleType, collection, single, structured, slots_of, type_name_at, Tree, in_path, lambda, logical_not, node, Quantifier, IsBooleanOrNull, expr_type, single_type, EdmType, ValueType, OneType, Scope, Filter, IsFilter, Stands, CheckedNode, NodeKind, body_stands, one_there, found_there, some_there, there_found, further_in, Range, StandsIn, TypedIn, inside_there, stop_there, type_there, tree_found, Kind, IsBelow, kind_of_type, IsCollectionAt, IsStopAt, AreRanges, IsFaultless, IsPathAt, IsStep, IsTruthAt, IsTruthKind, Question}
use Rattle.odata_ranges.proofs.Forms.{by_kind}
use Rattle.sql_outcomes.proofs.nodes.BinaryPlaces.{top_node}
use Rattle.sql_outcomes.proofs.nodes.InPathNodes.{at_place}
use Rattle.sql_outcomes.proofs.nodes.StructuredNodes.{structured_path}
use Rattle.sql_outcomes.proofs.nodes.ValueNodes.{collection_path}
use Rattle.sql_outcomes.proofs.outcomes.ChainWalk.{truth_kind}
use Rattle.sql_outcomes.proofs.nodes.ByNode.{by_node}

-- ---- faults

pub below_faultless : (question : Question) (ranges : List Range) → AreRanges question ranges → (place at : ℕ) → IsFaultless ranges place → IsBelow question.filter place at
    → at < length question.filter.list.nodes → IsFaultless ranges at
below_faultless question ranges are place at faultless below inside =
    let own = some_there (λ (n : CheckedNode). at < n.stop) (slice_get question.filter.list.nodes place) below.1 in
    let range = some_there (λ (r : Range). r.may_fault ≡ false) (slice_get ranges place) faultless in
    let many = are.count in
    let inner = at_place ranges at (omega (arith, inside, many)) in
    there_found (λ (r : Range). r.may_fault ≡ false) (slice_get ranges at) inner.0 inner.1
    (are.inherits place at own.0 range.0 inner.0 own.1.0 range.1.0 inner.1 below.0 own.1.1 range.1.1)

-- ---- collections

-- a collection is not `$it`
no_it : (filter : Filter) → IsFilter filter → (at : ℕ) (found : CheckedNode) → slice_get filter.list.nodes at ≡ Some found → (type : ValueType) → found.edm_type ≡ EdmType.Collection type
    → found.kind ≢ NodeKind.It
no_it filter right at found found_at type is is_it =
    let there = tree_found filter right at found found_at NodeKind.It tt is_it in
    by_kind filter there.scope at found found_at NodeKind.It is_it (λ s t. TypedIn filter there.scope t (expr_type filter.schema found.edm_type) → ⊥)
    (λ s from to stands given.
    let e : collection (single_type filter.schema type) ≡ single (structured (type_name_at filter.schema filter.filtered)) =
    subst (λ (t : EdmType). expr_type filter.schema t ≡ single (structured (type_name_at filter.schema filter.filtered))) is given in
    absurd (cc))
    there.stop there.part there.stands (type_there filter there.scope at found found_at there.stop there.part there.stands)

pub collection_at_path : (filter : Filter) → IsFilter filter → (at : ℕ) → IsCollectionAt filter at → IsPathAt filter at
collection_at_path filter right at is =
    let here = some_there (λ (n : CheckedNode). (type : ValueType) × (n.edm_type ≡ EdmType.Collection type)) (slice_get filter.list.nodes at) is in
    structured_path filter right at here.0 here.1.0 (subst (λ (t : EdmType). kind_of_type t ≡ Kind.Structured) (sym here.1.1.1) refl)
    (no_it filter right at here.0 here.1.0 here.1.1.0 here.1.1.1)

-- ---- truth values

-- a node of type Boolean or Null stands below the one at the index
pub record TruthBelow (filter : Filter) (place child : ℕ) : Type 0 where
  pub truth : IsTruthAt filter child
  pub below : IsBelow filter place child
  pub inside : child < length filter.list.nodes

module _ (filter : Filter) (right : IsFilter filter) (types : OneType) (place : ℕ) (found : CheckedNode) (at : slice_get filter.list.nodes place ≡ Some found) where
  truth_there : (scope : Scope) (child stop : ℕ) (tree : Tree) (type : ExprType) → StandsIn filter scope child stop tree → TypedIn filter scope tree type → IsBooleanOrNull type → IsTruthAt filter child
  truth_there scope child stop tree type stands typed truth =
      let top = top_node filter scope child stop tree stands in
      let same : type ≡ expr_type filter.schema top.found.edm_type =
      types (slots_of filter.schema) (type_name_at filter.schema filter.filtered) scope tree type (expr_type filter.schema top.found.edm_type) typed top.typed in
      there_found (λ (n : CheckedNode). IsTruthKind (kind_of_type n.edm_type)) (slice_get filter.list.nodes child) top.found top.at
      (truth_kind filter.schema top.found.edm_type (subst IsBooleanOrNull same truth))

  pub not_below : found.kind ≡ NodeKind.Not → TruthBelow filter place (place + 1)
  not_below is =
      by_node filter right place found at NodeKind.Not tt is (TruthBelow filter place (place + 1))
      (λ scope operand s from to stands.
      let typed = type_there filter scope place found at s (node from to (logical_not operand)) stands in
      let inner = one_there filter.schema filter.filtered scope filter.list (place + 1) s operand stands.children in
      let further : place + 1 < s = further_in filter.schema filter.filtered filter.list scope (place + 1) s operand inner in
      let stops : found.stop ≡ s = stop_there filter scope place found at s (node from to (logical_not operand)) stands in
      record {
        truth = truth_there scope (place + 1) s operand typed.operand inner typed.operand_typed typed.makes.0;
        below = (omega arith, there_found (λ (n : CheckedNode). place + 1 < n.stop) (slice_get filter.list.nodes place) found at (omega (arith, further, stops)));
        inside = inside_there filter scope (place + 1) s operand inner;
      })

  -- the collection and the body of a lambda operator
  module _ (quantifier : Quantifier) (is : found.kind ≡ NodeKind.Lambda quantifier) where
    pub lambda_path : IsPathAt filter (place + 1)
    lambda_path =
        by_node filter right place found at (NodeKind.Lambda quantifier) tt is (IsPathAt filter (place + 1))
        (λ scope base asked body s from to stands.
        let typed = type_there filter scope place found at s (node from to (lambda quantifier base asked body)) stands in
        collection_path filter right place found at scope stands.children.middle base (collection typed.member_type) stands.children.left typed.binds.over tt)

    pub lambda_body : (second : ℕ) → IsStopAt filter (place + 1) second → TruthBelow filter place second
    lambda_body second stops =
        by_node filter right place found at (NodeKind.Lambda quantifier) tt is (TruthBelow filter place second)
        (λ scope base asked body s from to stands.
        let middle : ℕ = stands.children.middle in
        let slots = slots_of filter.schema in
        let root = type_name_at filter.schema filter.filtered in
        let typed = type_there filter scope place found at s (node from to (lambda quantifier base asked body)) stands in
        let within = body_stands filter.schema filter.filtered scope filter.list middle s base asked body stands.children.right in
        let here_type : within.member_type ≡ typed.member_type = cc (types slots root scope base (collection within.member_type) (collection typed.member_type) within.binds.over typed.binds.over) in
        let standing : Stands filter.schema filter.filtered (record { name = asked; type_of = single typed.member_type } ∷ scope) filter.list middle s body =
        subst (λ (t : SingleType). Stands filter.schema filter.filtered (record { name = asked; type_of = single t } ∷ scope) filter.list middle s body) here_type within.body in
        let top = top_node filter scope (place + 1) middle base stands.children.left in
        let reported : top.found.stop ≡ second = found_there (λ (n : CheckedNode). n.stop ≡ second) (slice_get filter.list.nodes (place + 1)) top.found top.at stops in
        let is_second : middle ≡ second = sym top.stops ∙ reported in
        let first_further : place + 1 < middle = further_in filter.schema filter.filtered filter.list scope (place + 1) middle base stands.children.left in
        let further : middle < s = further_in filter.schema filter.filtered filter.list (record { name = asked; type_of = single typed.member_type } ∷ scope) middle s body standing in
        let ends : found.stop ≡ s = stop_there filter scope place found at s (node from to (lambda quantifier base asked body)) stands in
        subst (TruthBelow filter place) is_second (record {
          truth = truth_there (record { name = asked; type_of = single typed.member_type } ∷ scope) middle s body typed.body standing typed.body_typed typed.truth;
          below = (omega (arith, first_further), there_found (λ (n : CheckedNode). middle < n.stop) (slice_get filter.list.nodes place) found at (omega (arith, further, ends)));
          inside = inside_there filter (record { name = asked; type_of = single typed.member_type } ∷ scope) middle s body standing;
        }))

  -- the left side of `in` before a path
  pub in_path_left : found.kind ≡ NodeKind.InPath → IsBelow filter place (place + 1)
  in_path_left is =
      by_node filter right place found at NodeKind.InPath tt is (IsBelow filter place (place + 1))
      (λ scope a b s from to stands.
      let middle : ℕ = stands.children.middle in
      let second_stands = one_there filter.schema filter.filtered scope filter.list middle s b stands.children.right in
      let first_further : place + 1 < middle = further_in filter.schema filter.filtered filter.list scope (place + 1) middle a stands.children.left in
      let further : middle < s = further_in filter.schema filter.filtered filter.list scope middle s b second_stands in
      let ends : found.stop ≡ s = stop_there filter scope place found at s (node from to (in_path a b)) stands in
      (omega arith, there_found (λ (n : CheckedNode). place + 1 < n.stop) (slice_get filter.list.nodes place) found at (omega (arith, first_further, further, ends))))

-- the body of a lambda operator that evaluates to no fault
pub record BodyThere (filter : Filter) (ranges : List Range) (place : ℕ) : Type 0 where
  pub body : ℕ
  pub stops : IsStopAt filter (place + 1) body
  pub truth : IsTruthAt filter body
  pub faultless : IsFaultless ranges body

pub body_there : (question : Question) (ranges : List Range) → AreRanges question ranges → IsFilter question.filter → OneType → (place : ℕ) (found : CheckedNode) → slice_get question.filter.list.nodes place ≡ Some found
    → (quantifier : Quantifier) → found.kind ≡ NodeKind.Lambda quantifier → IsFaultless ranges place → BodyThere question.filter ranges place
body_there question ranges are right types place found at quantifier is faultless =
    let over = some_there (λ (n : CheckedNode). IsStep n.kind) (slice_get question.filter.list.nodes (place + 1)) (lambda_path question.filter right types place found at quantifier is) in
    let stops = there_found (λ (n : CheckedNode). n.stop ≡ over.0.stop) (slice_get question.filter.list.nodes (place + 1)) over.0 over.1.0 refl in
    let below = lambda_body question.filter right types place found at quantifier is over.0.stop stops in
    record {
      body = over.0.stop;
      stops = stops;
      truth = below.truth;
      faultless = below_faultless question ranges are place over.0.stop faultless below.below below.inside;
    }
