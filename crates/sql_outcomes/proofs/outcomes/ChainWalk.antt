-- Down a chain of one connective: the terms passed, and the node that is next.
use Rattle.sql_outcomes.proofs.Common.{◌≡◌, ◌<◌, ◌≤◌, ◌+◌, ◌⊎◌, inl, inr, ◌∷◌, [], ℕ, List, Some, length, refl, sym, ap, subst, ◌∙◌, arith, IsSomeAnd, slice_get, slice_get_within, AllByRecursion, IsMoment, single, primitive, SchemaModel, PrimitiveType, Filter, IsFilter, CheckedNode, NodeKind, found_there, some_there, there_found, EndsOnceOnEntities, HasKind, OneType, Outcome, IsBooleanOrNull, boolean_type, IsEquality, OperatorByTypes, expr_type, EdmType, ValueType, LogicalOperator, BinaryOperator, IsCoded, IsChain, IsConnective, TermsHave, chained, node_onward, kind_of_type, IsTruthAt, IsTruthKind, IsAskedOf, OfPlace, Question, World}
use Rattle.sql_outcomes.proofs.nodes.BinaryPlaces.{two_below}
use Rattle.sql_outcomes.proofs.outcomes.ChainValues.{code_in, connective_is}
use Rattle.sql_outcomes.proofs.nodes.ConnectedNodes.{connected_node}
use Rattle.sql_outcomes.specs.NodesGo.{Connects}
use Rattle.sql_outcomes.proofs.nodes.WorldNodes.{truth_coded}

-- a type of truth values or null is of such a kind
pub truth_kind : (schema : SchemaModel) (type : EdmType) → IsBooleanOrNull (expr_type schema type) → IsTruthKind (kind_of_type type)
truth_kind schema EdmType.Null is = tt
truth_kind schema (EdmType.Single (ValueType.Prim PrimitiveType.Bool)) is = tt
truth_kind schema (EdmType.Single (ValueType.Prim p)) (inl is) = let e : single (primitive p) ≡ boolean_type = is in cc
truth_kind schema _ (inr is) = absurd (cc)
truth_kind schema _ (inl is) = absurd (cc)

-- the sides of a connective
pub record SidesBelow (filter : Filter) (place second : ℕ) : Type 0 where
  pub own : CheckedNode
  pub own_at : slice_get filter.list.nodes place ≡ Some own
  pub left : CheckedNode
  pub left_at : slice_get filter.list.nodes (place + 1) ≡ Some left
  pub right : CheckedNode
  pub right_at : slice_get filter.list.nodes second ≡ Some right
  pub is_second : left.stop ≡ second
  pub after : place + 1 < second
  pub within : second < own.stop
  pub left_truth : IsTruthAt filter (place + 1)
  pub right_truth : IsTruthAt filter second

module _ (question : Question) (right : IsFilter question.filter) (types : OneType) (c : LogicalOperator) (place : ℕ) (within : place < length question.filter.list.nodes)
    (is : IsConnective question.filter place c) where
  connective_operator : (node : CheckedNode) → slice_get question.filter.list.nodes place ≡ Some node
      → (operator : BinaryOperator) × (node.kind ≡ NodeKind.Binary operator) × (operator ≡ BinaryOperator.Logical c)
  connective_operator node at =
      found_there (λ (n : CheckedNode). (operator : BinaryOperator) × (n.kind ≡ NodeKind.Binary operator) × (operator ≡ BinaryOperator.Logical c))
      (slice_get question.filter.list.nodes place) node at is

  sides_of : (node : CheckedNode) → slice_get question.filter.list.nodes place ≡ Some node → (second : ℕ) → IsSomeAnd (slice_get question.filter.list.nodes (place + 1)) (λ n. n.stop ≡ second)
      → SidesBelow question.filter place second
  sides_of node at second stops =
      let o = connective_operator node at in
      let here : HasKind question.filter.list place (NodeKind.Binary o.0) = there_found (λ (n : CheckedNode). n.kind ≡ NodeKind.Binary o.0) (slice_get question.filter.list.nodes place) node at o.1 in
      let two = two_below question.filter types o.0 (λ (equality : IsEquality o.0). subst IsEquality o.2 equality) place here right in
      let typed : OperatorByTypes (BinaryOperator.Logical c) (expr_type question.filter.schema two.left.edm_type) (expr_type question.filter.schema two.right.edm_type) (expr_type question.filter.schema two.own.edm_type) =
      subst (λ (class : BinaryOperator). OperatorByTypes class (expr_type question.filter.schema two.left.edm_type) (expr_type question.filter.schema two.right.edm_type) (expr_type question.filter.schema two.own.edm_type)) o.2 two.types in
      let is_second : two.left.stop ≡ second = found_there (λ (n : CheckedNode). n.stop ≡ second) (slice_get question.filter.list.nodes (place + 1)) two.left two.left_at stops in
      let right_at : slice_get question.filter.list.nodes second ≡ Some two.right = subst (λ (k : ℕ). slice_get question.filter.list.nodes k ≡ Some two.right) is_second two.right_at in
      record {
        own = two.own;
        own_at = two.own_at;
        left = two.left;
        left_at = two.left_at;
        right = two.right;
        right_at = right_at;
        is_second = is_second;
        after = let a : place + 1 < two.left.stop = two.after in omega (arith, a, is_second);
        within = let b : two.left.stop < two.own.stop = two.within in omega (arith, b, is_second);
        left_truth = there_found (λ (n : CheckedNode). IsTruthKind (kind_of_type n.edm_type)) (slice_get question.filter.list.nodes (place + 1)) two.left two.left_at
            (truth_kind question.filter.schema two.left.edm_type typed.0);
        right_truth = there_found (λ (n : CheckedNode). IsTruthKind (kind_of_type n.edm_type)) (slice_get question.filter.list.nodes second) two.right right_at
            (truth_kind question.filter.schema two.right.edm_type typed.1);
      }

-- the whole evaluates to what the chain of the node and of the terms passed does
pub record WalkSays (question : Question) (c : LogicalOperator) (at : ℕ) (passed : List ℕ) (world : World) (o : Outcome) : Type 0 where
  pub first : Outcome
  pub rest : List Outcome
  pub first_has : OfPlace question.filter at world first
  pub rest_have : TermsHave question.filter passed world rest
  pub coded : AllByRecursion IsCoded (first ∷ rest)
  pub is : o ≡ chained c first rest

-- what is left of the walk down a chain: the node that is next, after these terms were passed, the last one first
pub record WalkLeft (question : Question) (c : LogicalOperator) (place at : ℕ) (passed : List ℕ) : Type 0 where
  pub above : place ≤ at
  pub few : length passed + place ≤ at
  pub inside : at < length question.filter.list.nodes
  pub truth_at : IsTruthAt question.filter at
  pub after : AllByRecursion (λ term. place < term) passed
  pub truths : AllByRecursion (IsTruthAt question.filter) passed
  pub top : CheckedNode
  pub top_at : slice_get question.filter.list.nodes place ≡ Some top
  pub node : CheckedNode
  pub node_at : slice_get question.filter.list.nodes at ≡ Some node
  pub stops : node.stop ≤ top.stop
  pub within : AllByRecursion (λ term. term < top.stop) passed
  pub begun : (at ≡ place) ⊎ (place < at)
  pub says :
      (world : World) (o : Outcome) → IsAskedOf question world → OfPlace question.filter place world o
      → WalkSays question c at passed world o

module _ (question : Question) (right : IsFilter question.filter) (types : OneType) (ends : EndsOnceOnEntities) (is_moment : IsMoment question.now.civil question.now.offset_minutes) (c : LogicalOperator) (place at second : ℕ)
    (passed : List ℕ) where
  -- one node further
  pub walk_on : (left : WalkLeft question c place at passed) → IsConnective question.filter at c → IsSomeAnd (slice_get question.filter.list.nodes (at + 1)) (λ n. n.stop ≡ second)
      → WalkLeft question c place (at + 1) (second ∷ passed)
  walk_on left is stops =
      let b = sides_of question right types c at left.inside is left.node left.node_at second stops in
      let own_is : b.own ≡ left.node = cc (b.own_at, left.node_at) in
      let own_stop : b.own.stop ≡ left.node.stop = ap (λ (n : CheckedNode). n.stop) own_is in
      let after : at + 1 < second = b.after in
      let inner : second < b.own.stop = b.within in
      let below : left.node.stop ≤ left.top.stop = left.stops in
      let up : place ≤ at = left.above in
      record {
        above = omega (arith, up);
        few = let so_far : length passed + place ≤ at = left.few in omega (arith, so_far);
        inside = slice_get_within question.filter.list.nodes (at + 1) b.left b.left_at;
        truth_at = b.left_truth;
        after = (omega (arith, up, after), left.after);
        truths = (b.right_truth, left.truths);
        top = left.top;
        top_at = left.top_at;
        node = b.left;
        node_at = b.left_at;
        stops = let e : b.left.stop ≡ second = b.is_second in omega (arith, e, inner, own_stop, below);
        within = (omega (arith, inner, own_stop, below), left.within);
        begun = inr (omega (arith, up));
        says = λ world o seen has.
            let w = left.says world o seen has in
            let n = node_sides world w.first seen w.first_has in
            record {
              first = n.left_outcome;
              rest = n.right_outcome ∷ w.rest;
              first_has = n.left_has;
              rest_have = (n.right_has, w.rest_have);
              coded = (truth_coded question ends is_moment world seen (at + 1) b.left_truth n.left_outcome n.left_has, (truth_coded question ends is_moment world seen second b.right_truth n.right_outcome n.right_has, w.coded.1));
              is = w.is ∙ ap (λ (p : Outcome). chained c p w.rest) (connective_is c n.left_outcome n.right_outcome w.first
                  (code_in n.left_outcome (truth_coded question ends is_moment world seen (at + 1) b.left_truth n.left_outcome n.left_has))
                  (code_in n.right_outcome (truth_coded question ends is_moment world seen second b.right_truth n.right_outcome n.right_has)) n.given);
            };
      }
    where
      node_sides : (world : World) (p : Outcome) → IsAskedOf question world → OfPlace question.filter at world p → Connects question.filter c at second world p
      node_sides world p seen has =
          let b = sides_of question right types c at left.inside is left.node left.node_at second stops in
          let o = connective_operator question right types c at left.inside is left.node left.node_at in
          let here : HasKind question.filter.list at (NodeKind.Binary o.0) = there_found (λ (n : CheckedNode). n.kind ≡ NodeKind.Binary o.0) (slice_get question.filter.list.nodes at) left.node left.node_at o.1 in
          connected_node question ends is_moment o.0 c o.2 at second here b.left b.right b.left_at b.right_at b.is_second world p seen has

-- the walk begins at the top
pub walk_begins : (question : Question) (c : LogicalOperator) (place : ℕ) (top : CheckedNode) → slice_get question.filter.list.nodes place ≡ Some top → IsTruthAt question.filter place
    → ((world : World) (o : Outcome) → IsAskedOf question world → OfPlace question.filter place world o → IsCoded o) → WalkLeft question c place place []
walk_begins question c place top at truth coded = record {
  above = omega arith;
  few = omega arith;
  inside = slice_get_within question.filter.list.nodes place top at;
  truth_at = truth;
  after = tt;
  truths = tt;
  top = top;
  top_at = at;
  node = top;
  node_at = at;
  stops = omega arith;
  within = tt;
  begun = inl refl;
  says = λ world o seen has. record { first = o; rest = []; first_has = has; rest_have = refl; coded = (coded world o seen has, tt); is = refl };
}

module _ (question : Question) (right : IsFilter question.filter) (types : OneType) (ends : EndsOnceOnEntities) (is_moment : IsMoment question.now.civil question.now.offset_minutes) (c : LogicalOperator)
    (place : ℕ) (within : place < length question.filter.list.nodes) (is : IsConnective question.filter place c) where
  -- the second side stands there
  pub second_there : place + 1 < length question.filter.list.nodes
  second_there =
      let top = some_there (λ (n : CheckedNode). (operator : BinaryOperator) × (n.kind ≡ NodeKind.Binary operator) × (operator ≡ BinaryOperator.Logical c)) (slice_get question.filter.list.nodes place) is in
      let here : HasKind question.filter.list place (NodeKind.Binary top.1.1.0) = there_found (λ (n : CheckedNode). n.kind ≡ NodeKind.Binary top.1.1.0) (slice_get question.filter.list.nodes place) top.0 top.1.0 top.1.1.1 in
      let two = two_below question.filter types top.1.1.0 (λ (equality : IsEquality top.1.1.0). subst IsEquality top.1.1.2 equality) place here right in
      slice_get_within question.filter.list.nodes (place + 1) two.left two.left_at

  -- a connective is a truth value
  pub connective_truth : IsTruthAt question.filter place
  connective_truth =
      let top = some_there (λ (n : CheckedNode). (operator : BinaryOperator) × (n.kind ≡ NodeKind.Binary operator) × (operator ≡ BinaryOperator.Logical c)) (slice_get question.filter.list.nodes place) is in
      let here : HasKind question.filter.list place (NodeKind.Binary top.1.1.0) = there_found (λ (n : CheckedNode). n.kind ≡ NodeKind.Binary top.1.1.0) (slice_get question.filter.list.nodes place) top.0 top.1.0 top.1.1.1 in
      let two = two_below question.filter types top.1.1.0 (λ (equality : IsEquality top.1.1.0). subst IsEquality top.1.1.2 equality) place here right in
      let typed : OperatorByTypes (BinaryOperator.Logical c) (expr_type question.filter.schema two.left.edm_type) (expr_type question.filter.schema two.right.edm_type) (expr_type question.filter.schema two.own.edm_type) =
      subst (λ (class : BinaryOperator). OperatorByTypes class (expr_type question.filter.schema two.left.edm_type) (expr_type question.filter.schema two.right.edm_type) (expr_type question.filter.schema two.own.edm_type)) top.1.1.2 two.types in
      there_found (λ (n : CheckedNode). IsTruthKind (kind_of_type n.edm_type)) (slice_get question.filter.list.nodes place) two.own two.own_at
      (truth_kind question.filter.schema two.own.edm_type (inl typed.2))

  pub walk_starts : WalkLeft question c place place []
  walk_starts =
      let top = some_there (λ (n : CheckedNode). (operator : BinaryOperator) × (n.kind ≡ NodeKind.Binary operator) × (operator ≡ BinaryOperator.Logical c)) (slice_get question.filter.list.nodes place) is in
      walk_begins question c place top.0 top.1.0 connective_truth (λ world o seen has. truth_coded question ends is_moment world seen place connective_truth o has)

-- the walk is done where another node stands
pub walk_done : (question : Question) → IsFilter question.filter → (c : LogicalOperator) (place at : ℕ) (passed : List ℕ) → IsConnective question.filter place c → ¬ IsConnective question.filter at c
    → WalkLeft question c place at passed → IsChain question c place (at ∷ passed)
walk_done question right c place at passed top_is other left =
    let below : place < at = further left.begun in
    let stops : left.node.stop ≤ left.top.stop = left.stops in
    let own : at < left.node.stop = node_onward question.filter right at left.node left.node_at in
    record {
      some = omega arith;
      few = let so_far : length passed + place ≤ at = left.few in let last : at < length question.filter.list.nodes = left.inside in omega (arith, so_far, last);
      after = (below, left.after);
      truths = (left.truth_at, left.truths);
      within = λ node node_at.
          let same : left.top ≡ node = (let e : Some left.top ≡ Some node = sym left.top_at ∙ node_at in cc) in
          subst (λ (n : CheckedNode). AllByRecursion (λ term. term < n.stop) (at ∷ passed)) same (omega (arith, own, stops), left.within);
      says = λ world o seen has.
          let w = left.says world o seen has in
          record { first = w.first; rest = w.rest; have = (w.first_has, w.rest_have); coded = w.coded; is = w.is };
    }
  where
    further : (at ≡ place) ⊎ (place < at) → place < at
    further (inl same) = absurd (other (subst (λ (k : ℕ). IsConnective question.filter k c) (sym same) top_is))
    further (inr is) = is
