-- The comparison that is true where another is false, of two values that are not null.
use Rattle.sql_outcomes.proofs.Common.{◌≡◌, ◌≢◌, ◌⊎◌, inl, inr, ◌∷◌, [], ℕ, ℤ, ◌<ℤ◌, List, Bool, true, false, not, IsTrue, refl, sym, ap, ◌∙◌, arith, ints, chars, epoch_day, instant, Val, boolean, date, guid, member, moment, null, text, whole, CompareGives, Outcome, gives, AreComparableBy, HaveOrder, AreEqual, ComparesTrue, IsGreater, text_cmp, ComparisonOperator, AreOpposite}
use Rattle.sql_outcomes.proofs.outcomes.Apart.{no_truth}
use Rattle.std.proofs.lemmas.Cmp.{by_ranked, int_ranked, nat_list_cmp_total, ranked, tied_itself}
use Rattle.std.specs.Cmp.Lexicographic.{slice_cmp}
use Rattle.std.specs.Ordering.{int_cmp, nat_cmp, ordering_reverse, ordering_then}
use Rattle.std.specs.declared.cmp.Ordering.{Ordering}
use Rattle.std.specs.declared.cmp.Ordering.TheVariants.{Equal, Greater, Less}
use Rattle.sql_outcomes.proofs.outcomes.Comparisons.{reports}

abbrev opposite_of : ComparisonOperator → ComparisonOperator
opposite_of ComparisonOperator.Eq = ComparisonOperator.Ne
opposite_of ComparisonOperator.Ne = ComparisonOperator.Eq
opposite_of ComparisonOperator.Gt = ComparisonOperator.Le
opposite_of ComparisonOperator.Ge = ComparisonOperator.Lt
opposite_of ComparisonOperator.Lt = ComparisonOperator.Ge
opposite_of ComparisonOperator.Le = ComparisonOperator.Gt

-- ---- texts

then_equal : (o p : Ordering) → ordering_then o p ≡ Equal → (o ≡ Equal) × (p ≡ Equal)
then_equal Equal p is = (refl, is)
then_equal _ p is = absurd (cc)

nat_equal : (x y : ℕ) → nat_cmp x y ≡ Equal → x ≡ y
nat_equal x y is =
    by_ranked _ _ _ (nat_cmp x y) (ranked x y (nat_cmp x y) refl) (λ other fact. let e : Less ≡ Equal = sym other ∙ is in absurd (cc)) (λ other fact. fact)
    (λ other fact. let e : Greater ≡ Equal = sym other ∙ is in absurd (cc))

list_equal : (xs ys : List ℕ) → slice_cmp nat_cmp xs ys ≡ Equal → xs ≡ ys
list_equal [] [] is = refl
list_equal [] (y ∷ ys) is = absurd (cc)
list_equal (x ∷ xs) [] is = absurd (cc)
list_equal (x ∷ xs) (y ∷ ys) is =
    let both = then_equal (nat_cmp x y) (slice_cmp nat_cmp xs ys) is in
    let first : x ≡ y = nat_equal x y both.0 in
    let rest : xs ≡ ys = list_equal xs ys both.1 in
    cc

-- ---- one of three holds

-- the first is greater, or the second is, or they are equal; and no two of these
pub record OneOfThree (l r : Val) : Type 0 where
  pub some : IsGreater l r ⊎ (IsGreater r l ⊎ AreEqual l r)
  pub apart : IsGreater l r → IsGreater r l ⊎ AreEqual l r → ⊥

ints_three : (Above Below Same : Type 0) (a b : ℤ) → (b <ℤ a → Above) → (a <ℤ b → Below) → (a ≡ b → Same) → Above ⊎ (Below ⊎ Same)
ints_three Above Below Same a b above below same =
    by_ranked _ _ _ (int_cmp a b) (int_ranked a b (int_cmp a b) refl) (λ is fact. inr (inl (below fact))) (λ is fact. inr (inr (same fact))) (λ is fact. inl (above fact))

ints_apart : (a b : ℤ) → b <ℤ a → (a <ℤ b) ⊎ (a ≡ b) → ⊥
ints_apart a b above (inl below) = omega (arith, ints, above, below)
ints_apart a b above (inr same) = omega (arith, ints, above, same)

texts_apart : (s t : List ℕ) → text_cmp s t ≡ Greater → (text_cmp t s ≡ Greater) ⊎ (chars s ≡ chars t) → ⊥
texts_apart s t above (inl below) = back (text_cmp s t) (text_cmp t s) (nat_list_cmp_total.antisymm (chars s) (chars t)) above below
  where
    back : (o p : Ordering) → o ≡ ordering_reverse p → o ≡ Greater → p ≡ Greater → ⊥
    back o p is here there = let e : Greater ≡ Less = sym here ∙ is ∙ ap ordering_reverse there in cc
texts_apart s t above (inr same) =
    let itself : slice_cmp nat_cmp (chars s) (chars s) ≡ Equal = tied_itself nat_list_cmp_total (chars s) in
    let e : Equal ≡ Greater = sym itself ∙ ap (λ (c : List ℕ). slice_cmp nat_cmp (chars s) c) same ∙ above in
    cc

texts_three : (s t : List ℕ) → (text_cmp s t ≡ Greater) ⊎ ((text_cmp t s ≡ Greater) ⊎ (chars s ≡ chars t))
texts_three s t = by (text_cmp s t) refl
  where
    by : (o : Ordering) → text_cmp s t ≡ o → (text_cmp s t ≡ Greater) ⊎ ((text_cmp t s ≡ Greater) ⊎ (chars s ≡ chars t))
    by Greater is = inl is
    by Equal is = inr (inr (list_equal (chars s) (chars t) is))
    by Less is = inr (inl (nat_list_cmp_total.antisymm (chars t) (chars s) ∙ ap ordering_reverse is))

pub one_of_three : (l r : Val) → l ≢ null → r ≢ null → HaveOrder l r → OneOfThree l r
one_of_three null r here there order = absurd (here refl)
one_of_three (boolean a) (boolean b) here there order = booleans a b
  where
    booleans : (p q : Bool) → OneOfThree (boolean p) (boolean q)
    booleans true true = record { some = inr (inr refl); apart = λ above other. (let e : true ≡ false = above.1 in cc) }
    booleans true false = record { some = inl (refl, refl); apart = λ above other. apart_of other }
      where
        apart_of : IsGreater (boolean false) (boolean true) ⊎ AreEqual (boolean true) (boolean false) → ⊥
        apart_of (inl below) = let e : false ≡ true = below.0 in cc
        apart_of (inr same) = let e : true ≡ false = same in cc
    booleans false true = record { some = inr (inl (refl, refl)); apart = λ above other. (let e : false ≡ true = above.0 in cc) }
    booleans false false = record { some = inr (inr refl); apart = λ above other. (let e : false ≡ true = above.0 in cc) }
one_of_three (whole a) (whole b) here there order = record { some = ints_three _ _ _ a b (λ is. is) (λ is. is) (λ is. is); apart = ints_apart a b }
one_of_three (date a) (date b) here there order =
    record { some = ints_three _ _ _ (epoch_day a) (epoch_day b) (λ is. is) (λ is. is) (λ is. is); apart = ints_apart (epoch_day a) (epoch_day b) }
one_of_three (moment a) (moment b) here there order =
    record { some = ints_three _ _ _ (instant a) (instant b) (λ is. is) (λ is. is) (λ is. is); apart = ints_apart (instant a) (instant b) }
one_of_three (text s) (text t) here there order = record { some = texts_three s t; apart = texts_apart s t }
one_of_three l null here there order = absurd (there refl)
one_of_three l r here there order = absurd order

-- the other way round
equal_back : (l r : Val) → AreEqual l r → AreEqual r l
equal_back null null same = tt
equal_back (boolean a) (boolean b) same = sym same
equal_back (whole a) (whole b) same = sym same
equal_back (text s) (text t) same = sym same
equal_back (date a) (date b) same = sym same
equal_back (moment a) (moment b) same = sym same
equal_back (guid a) (guid b) same = sym same
equal_back (member a) (member b) same = sym same
equal_back l r same = absurd same

same_back : {A : Type 0} (l r : Val) → A ⊎ AreEqual l r → A ⊎ AreEqual r l
same_back l r (inl a) = inl a
same_back l r (inr same) = inr (equal_back l r same)

order_back : (l r : Val) → HaveOrder l r → HaveOrder r l
order_back null null order = tt
order_back (boolean a) (boolean b) order = tt
order_back (whole a) (whole b) order = tt
order_back (text s) (text t) order = tt
order_back (date a) (date b) order = tt
order_back (moment a) (moment b) order = tt
order_back l null order = order
order_back l r order = order

comparable_too : (operator : ComparisonOperator) (l r : Val) → AreComparableBy operator l r → AreComparableBy (opposite_of operator) l r
comparable_too ComparisonOperator.Eq l r is = is
comparable_too _ l r is = is

-- ---- the opposite

-- an answer turned
turned : (Fact Other : Type 0) (b : Bool) → (IsTrue b → Fact) → (Fact → IsTrue b) → (Fact → Other → ⊥) → ((Fact → ⊥) → Other) → (IsTrue (not b) → Other) × (Other → IsTrue (not b))
turned Fact Other true holds given apart other = (λ is. absurd (no_truth is), λ fact. absurd (apart (holds refl) fact))
turned Fact Other false holds given apart other = (λ is. other (λ fact. no_truth (given fact)), λ fact. refl)

-- an opposite evaluates to the opposite answer
pub opposite_answer : (operator other : ComparisonOperator) → AreOpposite operator other → (l r : Val) (o : Outcome) → l ≢ null → r ≢ null → (given : CompareGives operator l r o)
    → CompareGives other l r (gives (boolean (not (reports (ComparesTrue operator l r) o given.1).answer)))
opposite_answer operator other is l r o here there given =
    let t = reports (ComparesTrue operator l r) o given.1 in
    let f = is l r here there given.0 in
    (f.0, turned (ComparesTrue operator l r) (ComparesTrue other l r) t.answer t.only_if t.if_so f.1 f.2)

module _ (decided : (operator : ComparisonOperator) (v w : Val) → (answer : Bool) × (IsTrue answer → ComparesTrue operator v w) × (ComparesTrue operator v w → IsTrue answer)) where
  not_equal_then : (l r : Val) → (¬ AreEqual l r → ⊥) → AreEqual l r
  not_equal_then l r none = by (decided ComparisonOperator.Eq l r)
    where
      by : (answer : Bool) × (IsTrue answer → AreEqual l r) × (AreEqual l r → IsTrue answer) → AreEqual l r
      by (true, holds, given) = holds refl
      by (false, holds, given) = absurd (none (λ same. no_truth (given same)))

  flipped : (A B C : Type 0) → A ⊎ (B ⊎ C) → (B ⊎ C → ⊥) → A
  flipped A B C (inl a) none = a
  flipped A B C (inr other) none = absurd (none other)

  either_left : (A B : Type 0) → A ⊎ B → (A → ⊥) → B
  either_left A B (inl a) none = absurd (none a)
  either_left A B (inr b) none = b

  facts : (operator : ComparisonOperator) (l r : Val) → l ≢ null → r ≢ null → AreComparableBy operator l r
      → (ComparesTrue operator l r → ComparesTrue (opposite_of operator) l r → ⊥) × ((ComparesTrue operator l r → ⊥) → ComparesTrue (opposite_of operator) l r)
  facts operator l r here there comparable_by = by operator comparable_by
    where
      by : (op : ComparisonOperator) → AreComparableBy op l r → (ComparesTrue op l r → ComparesTrue (opposite_of op) l r → ⊥) × ((ComparesTrue op l r → ⊥) → ComparesTrue (opposite_of op) l r)
      by ComparisonOperator.Eq comparable = (λ same differs. differs same, λ none. none)
      by ComparisonOperator.Ne comparable = (λ differs same. differs same, λ none. not_equal_then l r none)
      by ComparisonOperator.Gt order = let t = one_of_three l r here there order in (t.apart, λ none. either_left (IsGreater l r) (IsGreater r l ⊎ AreEqual l r) t.some none)
      by ComparisonOperator.Le order = let t = one_of_three l r here there order in (λ other above. t.apart above other, λ none. flipped (IsGreater l r) (IsGreater r l) (AreEqual l r) t.some none)
      by ComparisonOperator.Lt order =
          let back = one_of_three r l there here (order_back l r order) in
          (λ below other. back.apart below (same_back l r other), λ none. same_back r l (either_left (IsGreater r l) (IsGreater l r ⊎ AreEqual r l) back.some none))
      by ComparisonOperator.Ge order =
          let back = one_of_three r l there here (order_back l r order) in (
            λ other below. back.apart below (same_back l r other),
            λ none. flipped (IsGreater r l) (IsGreater l r) (AreEqual r l) back.some (λ other. none (same_back r l other)),
          )

  pub are_opposite : (operator : ComparisonOperator) → AreOpposite operator (opposite_of operator)
  are_opposite operator = λ l r here there comparable.
      let f = facts operator l r here there comparable in
      (comparable_too operator l r comparable, f.0, f.1)
