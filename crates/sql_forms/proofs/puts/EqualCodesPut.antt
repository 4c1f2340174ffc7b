-- The code of whether a left side is equal to one of the items of a list, the first that is equal or a fault deciding.
use Rattle.sql_forms.proofs.Common.{◌≡◌, inl, inr, ◌<◌, ◌++◌, ◌∷◌, [], ℕ, zero, suc, List, true, false, refl, sym, ap, subst, ◌∙◌, arith, pos, AllByRecursion, boolean, null, whole, ComparisonOperator, LogicalOperator, Filter, CompareGives, Then, Outcome, gives, overflow, divides_by_zero, IsCoded, TwoLooked, code_of, IsTableOf, LookUp, Digit, SqlNode, Draft, Operand, chained, connected, Grows, AsCode, EachCompared, EqualCodesOrNull, FaultyOrNull, NullBeside, any_of, Puts, Question, World, puts_as, puts_leaf, puts_two}
use Rattle.sql_outcomes.proofs.outcomes.ChainValues.{chained_both, chained_code, code_in, coded_in, connected_code, is_false, or_false_first}
use Rattle.sql_forms.proofs.puts.ChainsPut.{gives_connected}
use Rattle.sql_outcomes.proofs.outcomes.CodeTables.{code_below_5, coded, looked_connective}
use Rattle.sql_outcomes.proofs.outcomes.Comparisons.{compared_truth}
use Rattle.sql_outcomes.proofs.outcomes.Operators.{looked_two_means}
use Rattle.sql_outcomes.proofs.outcomes.Elements.{front_all, rest_all}

-- ---- codes

-- each code is that of some outcome
pub outcome_of_code : (a : ℕ) → a < 5 → (p : Outcome) × IsCoded p × (code_of p ≡ a)
outcome_of_code zero below = (gives (boolean false), tt, refl)
outcome_of_code (suc zero) below = (gives (boolean true), tt, refl)
outcome_of_code (suc (suc zero)) below = (gives null, tt, refl)
outcome_of_code (suc (suc (suc zero))) below = (overflow, tt, refl)
outcome_of_code (suc (suc (suc (suc zero)))) below = (divides_by_zero, tt, refl)
outcome_of_code (suc (suc (suc (suc (suc a))))) below = absurd (omega (arith, below))

pub own_code : (o : Outcome) → IsCoded o → AsCode o (coded o)
own_code o is = (λ again. refl, code_of o, code_below_5 o is, refl)

-- what a comparison evaluates to has a code
pub reported_coded : (lo ro o : Outcome) (operator : ComparisonOperator) → Then lo (λ l. Then ro (CompareGives operator l)) o → IsCoded o
reported_coded (gives l) (gives r) o operator given = let b = compared_truth operator l r o given in subst IsCoded (sym b.1) tt
reported_coded _ _ o operator given = subst IsCoded (sym given) tt

pub each_coded : (filter : Filter) (left : Operand) (l : Outcome) (items : List Operand) (world : World) (es : List Outcome) → EachCompared filter left l items world es → AllByRecursion IsCoded es
each_coded filter left l [] world es each = subst (AllByRecursion IsCoded) (sym each) tt
each_coded filter left l (item ∷ items) world [] each = absurd each
each_coded filter left l (item ∷ items) world (e ∷ es) each =
    let f = each.0 in
    (reported_coded f.left_outcome f.right_outcome e ComparisonOperator.Eq f.given, each_coded filter left l items world es each.2)

pub any_coded : (es : List Outcome) → AllByRecursion IsCoded es → IsCoded (any_of es)
any_coded es coded_all = coded_in (any_of es) (chained_code LogicalOperator.Or (gives (boolean false)) es is_false coded_all)

-- ---- items of a front and of the rest

record Parted (filter : Filter) (left : Operand) (l : Outcome) (front : List Operand) (item : Operand) (rest : List Operand) (world : World) (es : List Outcome) : Type 0 where
  fs : List Outcome
  r : Outcome
  rs : List Outcome
  is : es ≡ fs ++ r ∷ rs
  front_each : EachCompared filter left l front world fs
  rest_each : EachCompared filter left l (item ∷ rest) world (r ∷ rs)

parted : (filter : Filter) (left : Operand) (l : Outcome) (front : List Operand) (item : Operand) (rest : List Operand) (world : World) (es : List Outcome) → EachCompared filter left l (front ++ item ∷ rest) world es
    → Parted filter left l front item rest world es
parted filter left l [] item rest world [] each = absurd each
parted filter left l [] item rest world (e ∷ es) each = record { fs = []; r = e; rs = es; is = refl; front_each = refl; rest_each = each }
parted filter left l (first ∷ front) item rest world [] each = absurd each
parted filter left l (first ∷ front) item rest world (e ∷ es) each =
    let p = parted filter left l front item rest world es each.2 in
    record { fs = e ∷ p.fs; r = p.r; rs = p.rs; is = ap (λ (xs : List Outcome). e ∷ xs) p.is; front_each = (each.0, each.1, p.front_each); rest_each = p.rest_each }

-- ---- what is put

module _ (question : Question) (left : Operand) where
  -- for none
  pub no_code_put : (old new : Draft) → Grows old new (SqlNode.Number Digit.Zero ∷ []) → Puts question old new (EqualCodesOrNull question.filter left []) AsCode
  no_code_put old new grows =
      puts_leaf question (SqlNode.Number Digit.Zero) refl old new (EqualCodesOrNull question.filter left []) AsCode grows (λ world o is has. (gives (whole (pos 0)), refl, by world o has))
    where
      below : 0 < 5
      below = omega arith

      by : (world : World) (o : Outcome) → EqualCodesOrNull question.filter left [] world o → AsCode o (gives (whole (pos 0)))
      by world o (inl has) =
          let same : o ≡ gives (boolean false) = has.is ∙ ap any_of has.each in
          (λ is. sym (ap coded same), 0, below, refl)
      by world o (inr nulls) = (λ is. absurd (nulls.0 is), 0, below, refl)

  -- for one
  pub one_code_put : (item : Operand) (old new : Draft) → Puts question old new (FaultyOrNull question.filter ComparisonOperator.Eq left item) AsCode
      → Puts question old new (EqualCodesOrNull question.filter left (item ∷ [])) AsCode
  one_code_put item old new inner =
      puts_as question old new (FaultyOrNull question.filter ComparisonOperator.Eq left item) (EqualCodesOrNull question.filter left (item ∷ [])) AsCode AsCode inner (λ world o is has. by world o has)
    where
      of_each : (world : World) (o l : Outcome) (es : List Outcome) → EachCompared question.filter left l (item ∷ []) world es → o ≡ any_of es
          → (i : Outcome) × FaultyOrNull question.filter ComparisonOperator.Eq left item world i × ((x : Outcome) → AsCode i x → AsCode o x)
      of_each world o l [] each is = absurd each
      of_each world o l (e ∷ es) each is =
          let f = each.0 in
          let e_coded = reported_coded f.left_outcome f.right_outcome e ComparisonOperator.Eq f.given in
          let same : o ≡ e = is ∙ ap (λ (xs : List Outcome). any_of (e ∷ xs)) each.2 ∙ or_false_first e (code_in e e_coded) in
          (e, inl f, λ x form. subst (λ (p : Outcome). AsCode p x) (sym same) form)

      by : (world : World) (o : Outcome) → EqualCodesOrNull question.filter left (item ∷ []) world o
          → (i : Outcome) × FaultyOrNull question.filter ComparisonOperator.Eq left item world i × ((x : Outcome) → AsCode i x → AsCode o x)
      by world o (inl has) = of_each world o has.left_outcome has.outcomes has.each has.is
      by world o (inr nulls) = (o, inr nulls.1.0, λ x form. form)

  -- for either half
  module _ (law : IsTableOf LookUp.Or LogicalOperator.Or) (front : List Operand) (item : Operand) (rest : List Operand) where
    looked_codes : (p q x y : Outcome) → IsCoded p → IsCoded q → x ≡ coded p → y ≡ coded q → TwoLooked LookUp.Or x y (coded (connected LogicalOperator.Or p q))
    looked_codes p q x y is_p is_q one two =
        subst (λ (z : Outcome). TwoLooked LookUp.Or z y (coded (connected LogicalOperator.Or p q))) (sym one)
        (subst (λ (z : Outcome). TwoLooked LookUp.Or (coded p) z (coded (connected LogicalOperator.Or p q))) (sym two)
        (looked_connective LookUp.Or LogicalOperator.Or law p q (connected LogicalOperator.Or p q) is_p is_q (gives_connected LogicalOperator.Or p q (code_in p is_p) (code_in q is_q))))

    record Halves (world : World) (o : Outcome) : Type 0 where
      a : Outcome
      b : Outcome
      first : EqualCodesOrNull question.filter left front world a
      second : EqualCodesOrNull question.filter left (item ∷ rest) world b
      goes : (x y : Outcome) → AsCode a x → AsCode b y → (z : Outcome) × TwoLooked LookUp.Or x y z × AsCode o z

    halves : (world : World) (o : Outcome) → EqualCodesOrNull question.filter left (front ++ item ∷ rest) world o → Halves world o
    halves world o (inl has) =
        let p = parted question.filter left has.left_outcome front item rest world has.outcomes has.each in
        let fs_coded = each_coded question.filter left has.left_outcome front world p.fs p.front_each in
        let rs_coded = each_coded question.filter left has.left_outcome (item ∷ rest) world (p.r ∷ p.rs) p.rest_each in
        let one = any_coded p.fs fs_coded in
        let two = any_coded (p.r ∷ p.rs) rs_coded in
        let second_is : any_of (p.r ∷ p.rs) ≡ chained LogicalOperator.Or p.r p.rs = ap (λ (q : Outcome). chained LogicalOperator.Or q p.rs) (or_false_first p.r (code_in p.r rs_coded.0)) in
        let joined : o ≡ connected LogicalOperator.Or (any_of p.fs) (any_of (p.r ∷ p.rs)) =
        has.is ∙ ap any_of p.is ∙ chained_both LogicalOperator.Or (gives (boolean false)) p.fs p.r p.rs is_false fs_coded (code_in p.r rs_coded.0) rs_coded.1
        ∙ ap (connected LogicalOperator.Or (any_of p.fs)) (sym second_is) in
        let whole_coded : IsCoded o =
        subst IsCoded (sym has.is) (any_coded has.outcomes (each_coded question.filter left has.left_outcome (front ++ item ∷ rest) world has.outcomes has.each)) in
        record {
          a = any_of p.fs;
          b = any_of (p.r ∷ p.rs);
          first = inl (record { left_outcome = has.left_outcome; outcomes = p.fs; each = p.front_each; is = refl });
          second = inl (record { left_outcome = has.left_outcome; outcomes = p.r ∷ p.rs; each = p.rest_each; is = refl });
          goes = λ x y form other. (
            coded o,
            subst (λ (q : Outcome). TwoLooked LookUp.Or x y (coded q)) (sym joined) (looked_codes (any_of p.fs) (any_of (p.r ∷ p.rs)) x y one two (form.0 one) (other.0 two)),
            own_code o whole_coded,
          );
        }
    halves world o (inr nulls) = record {
      a = o;
      b = o;
      first = inr (nulls.0, front_all (λ (x : Operand). NullBeside question.filter left x world o) front (item ∷ rest) nulls.1);
      second = inr (nulls.0, rest_all (λ (x : Operand). NullBeside question.filter left x world o) front (item ∷ rest) nulls.1);
      goes = λ x y form other.
          let p = outcome_of_code form.1 form.2 in
          let q = outcome_of_code other.1 other.2 in
          let one : x ≡ coded p.0 = form.3 ∙ ap (λ (n : ℕ). gives (whole (pos n))) (sym p.2) in
          let two : y ≡ coded q.0 = other.3 ∙ ap (λ (n : ℕ). gives (whole (pos n))) (sym q.2) in
          let both = coded_in (connected LogicalOperator.Or p.0 q.0) (connected_code LogicalOperator.Or p.0 q.0 (code_in p.0 p.1) (code_in q.0 q.1)) in (
            coded (connected LogicalOperator.Or p.0 q.0),
            looked_codes p.0 q.0 x y p.1 q.1 one two,
            (λ is. absurd (nulls.0 is), code_of (connected LogicalOperator.Or p.0 q.0), code_below_5 (connected LogicalOperator.Or p.0 q.0) both, refl),
          );
    }

    pub both_codes_put : (old middle next new : Draft) → Grows old middle (SqlNode.LookUp LookUp.Or ∷ []) → Puts question middle next (EqualCodesOrNull question.filter left front) AsCode
        → Puts question next new (EqualCodesOrNull question.filter left (item ∷ rest)) AsCode → Puts question old new (EqualCodesOrNull question.filter left (front ++ item ∷ rest)) AsCode
    both_codes_put old middle next new grows first second =
        puts_two question (SqlNode.LookUp LookUp.Or) refl (λ x y z. TwoLooked LookUp.Or x y z) old middle next new (EqualCodesOrNull question.filter left front) (EqualCodesOrNull question.filter left (item ∷ rest))
        (EqualCodesOrNull question.filter left (front ++ item ∷ rest)) AsCode AsCode AsCode (λ asked bound a b x y z one two op. looked_two_means asked bound LookUp.Or a b x y z one two op) grows first second
        (λ world o is has. let h = halves world o has in (h.a, h.b, h.first, h.second, h.goes))
