-- Places after another, and operands that stand there, have less left of the filter; values that are no nodes have
-- nothing.
use Rattle.sql_forms.proofs.Common.{◌≡◌, inl, inr, ◌<◌, ◌≤◌, ◌+◌, ◌++◌, ◌∷◌, ◌∙◌, [], ℕ, List, Some, ap, length, length-append, sym, subst, arith, IsSomeAnd, slice_get, max-le, Filter, IsFilter, CheckedNode, some_there, Range, node_onward, Lifted, Operand, Source, Kind, IsSideAt, IsLifted, AreItemsOf, IsAtPath, IsMemberOperand}
use Rattle.sql_outcomes.proofs.nodes.ListPlaces.{list_sides}
use Rattle.sql_forms.proofs.Measures.{left_among, left_by, left_from, left_in, left_of}
use Rattle.sql_forms.proofs.MeasuresLess.{below_both, beside_left, both_max, front_among, left_of_front, left_of_rest, lifted_bound_left, lifted_one_left, one_left, rest_among, sides_left}

-- what stands at the index where the child before it ends
pub second_after : (filter : Filter) → IsFilter filter → (place second : ℕ) → IsSomeAnd (slice_get filter.list.nodes (place + 1)) (λ n. n.stop ≡ second) → place < second
second_after filter right place second stops =
    let one = some_there (λ (n : CheckedNode). n.stop ≡ second) (slice_get filter.list.nodes (place + 1)) stops in
    let further : place + 1 < one.0.stop = node_onward filter right (place + 1) one.0 one.1.0 in
    let own : place < one.0.stop = omega (arith, further) in
    subst (λ (k : ℕ). place < k) one.1.1 own

pub parts_length : {T : Type 0} (whole front rest : List T) → whole ≡ front ++ rest → length whole ≡ length front + length rest
parts_length whole front rest is = ap length is ∙ length-append front rest

module _ (filter : Filter) where
  -- ---- operands by their sources

  pub node_left : (source : Source) (place : ℕ) → source ≡ Source.Node place → left_from filter place ≤ left_by filter source
  node_left source place is =
      let here : left_from filter place ≤ left_from filter place = omega arith in
      subst (λ (s : Source). left_from filter place ≤ left_by filter s) (sym is) here

  pub at_left : (operand : Operand) (place : ℕ) → operand.source ≡ Source.Node place → left_of filter operand ≤ left_from filter place
  at_left operand place is =
      let here : left_from filter place ≤ left_from filter place = omega arith in
      subst (λ (s : Source). left_by filter s ≤ left_from filter place) (sym is) here

  by_path : (path : ℕ) (kind : Kind) (source : Source) (k : ℕ) → IsAtPath path kind source → left_by filter source ≤ k
  by_path path (Kind.Value type) (Source.Field number value_type) k at = omega arith
  by_path path Kind.Structured (Source.Place number) k at = omega arith
  by_path path kind source k at = absurd at

  -- members of a collection
  pub member_left : (collection path : ℕ) (member : Operand) (k : ℕ) → IsMemberOperand filter collection path member → left_of filter member ≤ k
  member_left collection path member k is = by_path path member.kind member.source k is.at

  pub alone_left : (operand : Operand) → left_in filter (operand ∷ []) ≤ left_of filter operand
  alone_left operand =
      let here : left_of filter operand ≤ left_of filter operand = omega arith in
      let none : 0 ≤ left_of filter operand = omega arith in
      max-le here none

  -- ---- lists

  -- one of them beside what stands on the left
  pub item_left : (left : Operand) (items : List Operand) (n : ℕ) (x : Operand) → slice_get items n ≡ Some x → left_in filter (left ∷ x ∷ []) ≤ left_in filter (left ∷ items)
  item_left left items n x at =
      let one = one_left filter items n x at in
      let alone = alone_left x in
      beside_left filter left (x ∷ []) items (omega (arith, one, alone))

  pub swap_left : (first left : Operand) (items : List Operand) → left_of filter first ≤ left_of filter left → left_in filter (first ∷ items) ≤ left_in filter (left ∷ items)
  swap_left first left items most =
      let same : left_in filter items ≤ left_in filter items = omega arith in
      both_max (left_of filter first) (left_in filter items) (left_of filter left) (left_in filter items) most same

  pub front_left : (left : Operand) (items front rest : List Operand) → items ≡ front ++ rest → left_in filter (left ∷ front) ≤ left_in filter (left ∷ items)
  front_left left items front rest is = beside_left filter left front items (subst (λ (xs : List Operand). left_in filter front ≤ left_in filter xs) (sym is) (left_of_front filter front rest))

  pub rest_left : (left : Operand) (items front rest : List Operand) → items ≡ front ++ rest → left_in filter (left ∷ rest) ≤ left_in filter (left ∷ items)
  rest_left left items front rest is = beside_left filter left rest items (subst (λ (xs : List Operand). left_in filter rest ≤ left_in filter xs) (sym is) (left_of_rest filter front rest))

  pub front_terms : (terms front rest : List ℕ) → terms ≡ front ++ rest → left_among filter front ≤ left_among filter terms
  front_terms terms front rest is = subst (λ (xs : List ℕ). left_among filter front ≤ left_among filter xs) (sym is) (front_among filter front rest)

  pub rest_terms : (terms front rest : List ℕ) → terms ≡ front ++ rest → left_among filter rest ≤ left_among filter terms
  rest_terms terms front rest is = subst (λ (xs : List ℕ). left_among filter rest ≤ left_among filter xs) (sym is) (rest_among filter front rest)

  -- ---- a left side that is bound

  module _ (left : Operand) (depth : ℕ) (lifted : Lifted) (is : IsLifted (left ∷ []) depth lifted) where
    pub lifted_left_left : (first : Operand) → slice_get lifted.inner.items 0 ≡ Some first → left_of filter first ≤ left_of filter left
    lifted_left_left first at =
        let one = lifted_one_left filter (left ∷ []) depth lifted is 0 first at in
        let alone = alone_left left in
        omega (arith, one, alone)

    pub bound_left_left : left_in filter lifted.bound.items ≤ left_of filter left
    bound_left_left =
        let bound = lifted_bound_left filter (left ∷ []) depth lifted is in
        let alone = alone_left left in
        omega (arith, bound, alone)

    pub bound_beside_left : (items : List Operand) → left_in filter lifted.bound.items ≤ left_in filter (left ∷ items)
    bound_beside_left items =
        let bound = lifted_bound_left filter (left ∷ []) depth lifted is in
        let none : 0 ≤ left_in filter items = omega arith in
        let beside = beside_left filter left [] items none in
        omega (arith, bound, beside)

  -- ---- after an index

  module _ (place : ℕ) (inside : place < length filter.list.nodes) where
    pub further_on : (at : ℕ) → place < at → left_from filter at < left_from filter place
    further_on at after = omega (arith, inside, after)

    pub nothing_on : 0 < left_from filter place
    nothing_on = omega (arith, inside)

    pub next_on : left_from filter (place + 1) < left_from filter place
    next_on = further_on (place + 1) (omega arith)

    pub at_on : (operand : Operand) (at : ℕ) → operand.source ≡ Source.Node at → place < at → left_of filter operand < left_from filter place
    at_on operand at is after =
        let most = at_left operand at is in
        let less = further_on at after in
        omega (arith, most, less)

    pub side_on : (ranges : List Range) (at : ℕ) (operand : Operand) → IsSideAt filter ranges at operand → place < at → left_of filter operand < left_from filter place
    side_on ranges at operand (inl number) after = subst (λ (s : Source). left_by filter s < left_from filter place) (sym number.source) nothing_on
    side_on ranges at operand (inr apart) after = at_on operand at apart.1.source after

    pub two_on : (first second : Operand) → left_of filter first < left_from filter place → left_of filter second < left_from filter place → left_in filter (first ∷ second ∷ []) < left_from filter place
    two_on first second one two =
        let rest : left_in filter (second ∷ []) < left_from filter place = below_both (left_of filter second) 0 (left_from filter place) two nothing_on in
        below_both (left_of filter first) (left_in filter (second ∷ [])) (left_from filter place) one rest

    pub items_on : IsFilter filter → (ranges : List Range) (left : Operand) (items : List Operand) → left_of filter left < left_from filter place → AreItemsOf filter ranges place items
        → left_in filter (left ∷ items) < left_from filter place
    items_on right ranges left items one are =
        let sides = sides_left filter place inside ranges items (list_sides filter right ranges place items are) in
        below_both (left_of filter left) (left_in filter items) (left_from filter place) one sides
