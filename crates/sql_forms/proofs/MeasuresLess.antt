-- What is called has less left of the filter than its caller, or no more than it.
use Rattle.sql_forms.proofs.Common.{◌≡◌, ◌<◌, ◌≤◌, ◌+◌, ◌++◌, ◌∷◌, [], ℕ, zero, suc, max, List, Bool, true, false, Option, Some, None, length, refl, sym, subst, arith, slice_get, AllByRecursion, le-max_left, le-max_right, max-le, Filter, CheckedNode, some_there, Range, Carrier, Lifted, Operand, Source, AreAlong, AreArgumentsOf, IsSide, IsSideBy, AreChosen, IsLifted, bound_operand, carrier_in, chosen, within_let, IsNodeAt, bound_source}
use Rattle.sql_forms.proofs.Measures.{left_among, left_by, left_from, left_in, left_of}

pub both_max : (a b c d : ℕ) → a ≤ c → b ≤ d → max a b ≤ max c d
both_max a b c d first second =
    let left = le-max_left c d in
    let right = le-max_right c d in
    max-le (omega (arith, first, left)) (omega (arith, second, right))

second_max : (a c d : ℕ) → a ≤ d → a ≤ max c d
second_max a c d most = let right = le-max_right c d in omega (arith, most, right)

pub below_both : (a b k : ℕ) → a < k → b < k → max a b < k
below_both a b zero first second = absurd (omega (arith, first))
below_both a b (suc k) first second =
    let most : max a b ≤ k = max-le (omega (arith, first)) (omega (arith, second)) in
    omega (arith, most)

module _ (filter : Filter) where
  -- ---- operands

  pub one_left : (operands : List Operand) (n : ℕ) (x : Operand) → slice_get operands n ≡ Some x → left_of filter x ≤ left_in filter operands
  one_left [] n x at = let none : None ≡ Some x = at in absurd (cc)
  one_left (operand ∷ operands) zero x at =
      let same : operand ≡ x = cc at in
      subst (λ (o : Operand). left_of filter o ≤ left_in filter (operand ∷ operands)) same (le-max_left (left_of filter operand) (left_in filter operands))
  one_left (operand ∷ operands) (suc n) x at = second_max (left_of filter x) (left_of filter operand) (left_in filter operands) (one_left operands n x at)

  -- of two parts
  pub left_of_front : (xs ys : List Operand) → left_in filter xs ≤ left_in filter (xs ++ ys)
  left_of_front [] ys = omega arith
  left_of_front (x ∷ xs) ys =
      let here : left_of filter x ≤ left_of filter x = omega arith in
      both_max (left_of filter x) (left_in filter xs) (left_of filter x) (left_in filter (xs ++ ys)) here (left_of_front xs ys)

  pub left_of_rest : (xs ys : List Operand) → left_in filter ys ≤ left_in filter (xs ++ ys)
  left_of_rest [] ys = omega arith
  left_of_rest (x ∷ xs) ys = second_max (left_in filter ys) (left_of filter x) (left_in filter (xs ++ ys)) (left_of_rest xs ys)

  -- beside one that stays
  pub beside_left : (left : Operand) (some all : List Operand) → left_in filter some ≤ left_in filter all → left_in filter (left ∷ some) ≤ left_in filter (left ∷ all)
  beside_left left some all most =
      let here : left_of filter left ≤ left_of filter left = omega arith in
      both_max (left_of filter left) (left_in filter some) (left_of filter left) (left_in filter all) here most

  pub two_left : (first second : Operand) (k : ℕ) → left_of filter first ≤ k → left_of filter second ≤ k → left_in filter (first ∷ second ∷ []) ≤ k
  two_left first second k one two = let none : 0 ≤ k = omega arith in max-le one (max-le two none)

  -- ---- what a `Let` binds

  bound_none : (c : Option Carrier) (level : ℕ) → left_by filter (bound_source c level) ≡ 0
  bound_none None level = refl
  bound_none (Some carrier) level = refl

  inner_left : (level : ℕ) (choices : List Bool) (operands : List Operand) → AreChosen choices operands → left_in filter (within_let level choices operands) ≤ left_in filter operands
  inner_left level [] [] are = omega arith
  inner_left level [] (operand ∷ operands) are = absurd are
  inner_left level (true ∷ choices) [] are = absurd are
  inner_left level (false ∷ choices) [] are = absurd are
  inner_left level (true ∷ choices) (operand ∷ operands) are =
      let none : left_of filter (bound_operand level operand) ≡ 0 = bound_none (carrier_in operand) level in
      let here : left_of filter (bound_operand level operand) ≤ left_of filter operand = omega (arith, none) in
      both_max (left_of filter (bound_operand level operand)) (left_in filter (within_let (level + 1) choices operands)) (left_of filter operand) (left_in filter operands) here
      (inner_left (level + 1) choices operands are)
  inner_left level (false ∷ choices) (operand ∷ operands) are =
      let here : left_of filter operand ≤ left_of filter operand = omega arith in
      both_max (left_of filter operand) (left_in filter (within_let level choices operands)) (left_of filter operand) (left_in filter operands) here (inner_left level choices operands are.1)

  chosen_left : (choices : List Bool) (operands : List Operand) → AreChosen choices operands → left_in filter (chosen choices operands) ≤ left_in filter operands
  chosen_left [] [] are = omega arith
  chosen_left [] (operand ∷ operands) are = absurd are
  chosen_left (true ∷ choices) [] are = absurd are
  chosen_left (false ∷ choices) [] are = absurd are
  chosen_left (true ∷ choices) (operand ∷ operands) are =
      let here : left_of filter operand ≤ left_of filter operand = omega arith in
      both_max (left_of filter operand) (left_in filter (chosen choices operands)) (left_of filter operand) (left_in filter operands) here (chosen_left choices operands are)
  chosen_left (false ∷ choices) (operand ∷ operands) are =
      second_max (left_in filter (chosen choices operands)) (left_of filter operand) (left_in filter operands) (chosen_left choices operands are.1)

  module _ (operands : List Operand) (depth : ℕ) (lifted : Lifted) (is : IsLifted operands depth lifted) where
    pub lifted_inner_left : left_in filter lifted.inner.items ≤ left_in filter operands
    lifted_inner_left = subst (λ (xs : List Operand). left_in filter xs ≤ left_in filter operands) (sym is.inner) (inner_left depth is.choices operands is.are)

    pub lifted_bound_left : left_in filter lifted.bound.items ≤ left_in filter operands
    lifted_bound_left = subst (λ (xs : List Operand). left_in filter xs ≤ left_in filter operands) (sym is.bound) (chosen_left is.choices operands is.are)

    pub lifted_one_left : (n : ℕ) (x : Operand) → slice_get lifted.inner.items n ≡ Some x → left_of filter x ≤ left_in filter operands
    lifted_one_left n x at =
        let one = one_left lifted.inner.items n x at in
        let all = lifted_inner_left in
        omega (arith, one, all)

    pub lifted_two_left : (first second : Operand) → slice_get lifted.inner.items 0 ≡ Some first → slice_get lifted.inner.items 1 ≡ Some second → left_in filter (first ∷ second ∷ []) ≤ left_in filter operands
    lifted_two_left first second at_first at_second = two_left first second (left_in filter operands) (lifted_one_left 0 first at_first) (lifted_one_left 1 second at_second)

  -- ---- further on than an index

  module _ (place : ℕ) (inside : place < length filter.list.nodes) where
    further : (at : ℕ) → place < at → left_from filter at < left_from filter place
    further at after = omega (arith, inside, after)

    nothing : 0 < left_from filter place
    nothing = omega (arith, inside)

    side_by : (ranges : List Range) (item : Operand) (source : Source) → IsSideBy filter ranges place item source → left_by filter source < left_from filter place
    side_by ranges item (Source.Node at) is = further at is.1.0
    side_by ranges item (Source.Number number) is = nothing
    side_by ranges item source is = absurd is

    pub sides_left : (ranges : List Range) (items : List Operand) → AllByRecursion (IsSide filter ranges place) items → left_in filter items < left_from filter place
    sides_left ranges [] all = nothing
    sides_left ranges (item ∷ items) all = below_both (left_of filter item) (left_in filter items) (left_from filter place) (side_by ranges item item.source all.0) (sides_left ranges items all.1)

    along_left : (ranges : List Range) (at stop : ℕ) (operands : List Operand) → place < at → AreAlong filter (IsNodeAt filter ranges) at stop operands → left_in filter operands < left_from filter place
    along_left ranges at stop [] after along = nothing
    along_left ranges at stop (operand ∷ operands) after along =
        let here : at < along.0.stop = along.2 in
        let next : place < along.0.stop = omega (arith, after, here) in
        let own : left_of filter operand < left_from filter place = subst (λ (s : Source). left_by filter s < left_from filter place) (sym along.3.source) (further at after) in
        below_both (left_of filter operand) (left_in filter operands) (left_from filter place) own (along_left ranges along.0.stop stop operands next along.4)

    pub arguments_left : (ranges : List Range) (operands : List Operand) → AreArgumentsOf filter ranges place operands → left_in filter operands < left_from filter place
    arguments_left ranges operands are =
        let own = some_there (λ (n : CheckedNode). AreAlong filter (IsNodeAt filter ranges) (place + 1) n.stop operands) (slice_get filter.list.nodes place) are in
        let after : place < place + 1 = omega arith in
        along_left ranges (place + 1) own.0.stop operands after own.1.1

    pub terms_left : (terms : List ℕ) → AllByRecursion (λ (term : ℕ). place < term) terms → left_among filter terms < left_from filter place
    terms_left [] all = nothing
    terms_left (term ∷ terms) all = below_both (left_from filter term) (left_among filter terms) (left_from filter place) (further term all.0) (terms_left terms all.1)

  -- ---- terms

  pub term_left : (terms : List ℕ) (n term : ℕ) → slice_get terms n ≡ Some term → left_from filter term ≤ left_among filter terms
  term_left [] n term at = let none : None ≡ Some term = at in absurd (cc)
  term_left (first ∷ terms) zero term at =
      let same : first ≡ term = cc at in
      subst (λ (t : ℕ). left_from filter t ≤ left_among filter (first ∷ terms)) same (le-max_left (left_from filter first) (left_among filter terms))
  term_left (first ∷ terms) (suc n) term at = second_max (left_from filter term) (left_from filter first) (left_among filter terms) (term_left terms n term at)

  pub front_among : (xs ys : List ℕ) → left_among filter xs ≤ left_among filter (xs ++ ys)
  front_among [] ys = omega arith
  front_among (x ∷ xs) ys =
      let here : left_from filter x ≤ left_from filter x = omega arith in
      both_max (left_from filter x) (left_among filter xs) (left_from filter x) (left_among filter (xs ++ ys)) here (front_among xs ys)

  pub rest_among : (xs ys : List ℕ) → left_among filter ys ≤ left_among filter (xs ++ ys)
  rest_among [] ys = omega arith
  rest_among (x ∷ xs) ys = second_max (left_among filter ys) (left_from filter x) (left_among filter (xs ++ ys)) (rest_among xs ys)
