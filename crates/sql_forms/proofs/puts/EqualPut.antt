-- Whether a value is equal to one of the items of a list, none of which is a fault.
use Rattle.sql_forms.proofs.Common.{◌≡◌, ◌⊎◌, inl, inr, ◌++◌, ◌∷◌, [], List, Bool, true, false, Option, Some, length, map, refl, sym, ap, subst, ◌∙◌, slice_get, Val, boolean, ComparisonOperator, Outcome, gives, or3, truth, BoundValue, bound_value, SqlNode, Filter, Draft, Lifted, Operand, Form, ComparisonHas, Grows, AllHave, IsLifted, IsOpened, chosen_of, EachEquals, EqualsHas, kept_form, some_of, HasValue, Puts, PutsAll, Question, World, extended, puts_as, puts_leaf, puts_two}
use Rattle.sql_outcomes.specs.TrueWhere.{IsTrueWhere}
use Rattle.sql_forms.specs.Forms.{IsInForm}
use Rattle.sql_outcomes.specs.private.ValueForms.{OrTruth}
use Rattle.sql_forms.proofs.lets.LiftedPut.{closed}
use Rattle.sql_outcomes.proofs.outcomes.LiftedValues.{source_stays}
use Rattle.sql_forms.proofs.lets.LiftedWhole.{lifted_put}
use Rattle.sql_forms.proofs.lets.OneLeft.{one_value}
use Rattle.sql_forms.proofs.puts.OrNullsPut.{or_node}
use Rattle.sql_outcomes.proofs.outcomes.Truths.{kept_or, true_where}

-- ---- whether one is true

some_joined : (xs bs : List Bool) → or3 (Some (some_of xs)) (Some (some_of bs)) ≡ Some (some_of (xs ++ bs))
some_joined [] bs = of_flag (some_of bs)
  where
    of_flag : (b : Bool) → or3 (Some false) (Some b) ≡ Some b
    of_flag true = refl
    of_flag false = refl
some_joined (true ∷ xs) bs = of_flag (some_of bs)
  where
    of_flag : (b : Bool) → or3 (Some true) (Some b) ≡ Some true
    of_flag true = refl
    of_flag false = refl
some_joined (false ∷ xs) bs = some_joined xs bs

some_alone : (b : Bool) → some_of (b ∷ []) ≡ b
some_alone true = refl
some_alone false = refl

one_of : (xs bs : List Bool) → some_of (xs ++ bs) ≡ true → (some_of xs ≡ true) ⊎ (some_of bs ≡ true)
one_of [] bs is = inr is
one_of (true ∷ xs) bs is = inl refl
one_of (false ∷ xs) bs is = one_of xs bs is

of_one : (xs bs : List Bool) → (some_of xs ≡ true) ⊎ (some_of bs ≡ true) → some_of (xs ++ bs) ≡ true
of_one [] bs (inl is) = absurd (cc)
of_one [] bs (inr is) = is
of_one (true ∷ xs) bs either = refl
of_one (false ∷ xs) bs either = of_one xs bs either

-- ---- items of a front and of the rest

record Parted (filter : Filter) (l : Val) (front rest : List Operand) (world : World) (bs : List Bool) : Type 0 where
  front_values : List Val
  front_bs : List Bool
  rest_values : List Val
  rest_bs : List Bool
  is : bs ≡ front_bs ++ rest_bs
  front_each : EachEquals filter l front world front_values front_bs
  rest_each : EachEquals filter l rest world rest_values rest_bs

parted : (filter : Filter) (l : Val) (front rest : List Operand) (world : World) (values : List Val) (bs : List Bool) → EachEquals filter l (front ++ rest) world values bs → Parted filter l front rest world bs
parted filter l [] rest world values bs each = record { front_values = []; front_bs = []; rest_values = values; rest_bs = bs; is = refl; front_each = (refl, refl); rest_each = each }
parted filter l (item ∷ front) rest world [] bs each = absurd each
parted filter l (item ∷ front) rest world (v ∷ values) [] each = absurd each
parted filter l (item ∷ front) rest world (v ∷ values) (b ∷ bs) each =
    let p = parted filter l front rest world values bs each.2 in
    record {
      front_values = v ∷ p.front_values;
      front_bs = b ∷ p.front_bs;
      rest_values = p.rest_values;
      rest_bs = p.rest_bs;
      is = ap (λ (xs : List Bool). b ∷ xs) p.is;
      front_each = (each.0, each.1, p.front_each);
      rest_each = p.rest_each;
    }

-- ---- forms

kept_boolean : (b : Bool) (o x : Outcome) → o ≡ gives (boolean b) → x ≡ gives (boolean b) → IsTrueWhere (o ≡ gives (boolean true)) x
kept_boolean b o x is same = subst (λ (p : Outcome). IsTrueWhere (o ≡ gives (boolean true)) p) (sym same) (true_where (Some b) o (sym is))

module _ (question : Question) (left : Operand) where
  -- to none
  pub none_equal : (kept : Bool) (old new : Draft) → Grows old new (SqlNode.Truth false ∷ []) → Puts question old new (EqualsHas question.filter left []) (IsInForm (kept_form kept))
  none_equal kept old new grows =
      puts_leaf question (SqlNode.Truth false) refl old new (EqualsHas question.filter left []) (IsInForm (kept_form kept)) grows
      (λ world o is has. (gives (boolean false), refl, of_kept kept o (has.is ∙ ap (λ (bs : List Bool). gives (boolean (some_of bs))) has.each.1)))
    where
      of_kept : (k : Bool) (o : Outcome) → o ≡ gives (boolean false) → IsInForm (kept_form k) o (gives (boolean false))
      of_kept true o is = kept_boolean false o (gives (boolean false)) is refl
      of_kept false o is = sym is

  -- to one
  module _ (item : Operand) where
    one_form : (F : Outcome → Outcome → Type 0) (b : Bool) (bs : List Bool) (o x : Outcome) → bs ≡ [] → o ≡ gives (boolean (some_of (b ∷ bs))) → F (gives (boolean b)) x → F o x
    one_form F b bs o x none is form =
        let same : o ≡ gives (boolean b) = is ∙ ap (λ (cs : List Bool). gives (boolean (some_of (b ∷ cs)))) none ∙ ap (λ (c : Bool). gives (boolean c)) (some_alone b) in
        subst (λ (p : Outcome). F p x) (sym same) form

    pub one_equal : (F : Outcome → Outcome → Type 0) (old new : Draft) → Puts question old new (ComparisonHas question.filter ComparisonOperator.Eq left item) (OrTruth F)
        → Puts question old new (EqualsHas question.filter left (item ∷ [])) F
    one_equal F old new put =
        puts_as question old new (ComparisonHas question.filter ComparisonOperator.Eq left item) (EqualsHas question.filter left (item ∷ [])) (OrTruth F) F put
        (λ world o is has. of_each world o has.l has.has has.values has.bs has.each has.is)
      where
        of_each : (world : World) (o : Outcome) (l : Val) → HasValue question.filter left world l → (values : List Val) (bs : List Bool) → EachEquals question.filter l (item ∷ []) world values bs
            → o ≡ gives (boolean (some_of bs)) → (i : Outcome) × ComparisonHas question.filter ComparisonOperator.Eq left item world i × ((x : Outcome) → OrTruth F i x → F o x)
        of_each world o l has [] bs each is = absurd each
        of_each world o l has (v ∷ values) [] each is = absurd each
        of_each world o l has (v ∷ values) (b ∷ bs) each is =
            (gives (boolean b), inl (l, v, has, each.0, each.1), λ x form. one_form F b bs o x each.2.1 is form)

  -- to one of either half
  pub both_equal : (kept : Bool) (front rest : List Operand) (old middle next new : Draft) → Grows old middle (SqlNode.Or ∷ []) → Puts question middle next (EqualsHas question.filter left front) (IsInForm (kept_form kept))
      → Puts question next new (EqualsHas question.filter left rest) (IsInForm (kept_form kept)) → Puts question old new (EqualsHas question.filter left (front ++ rest)) (IsInForm (kept_form kept))
  both_equal kept front rest old middle next new grows first second =
      puts_two question SqlNode.Or refl (λ x y z. (s : Option Bool) × (t : Option Bool) × (x ≡ truth s) × (y ≡ truth t) × (z ≡ truth (or3 s t))) old middle next new
      (EqualsHas question.filter left front) (EqualsHas question.filter left rest) (EqualsHas question.filter left (front ++ rest)) (IsInForm (kept_form kept)) (IsInForm (kept_form kept)) (IsInForm (kept_form kept))
      or_node grows first second
      (λ world o is has.
      let p = parted question.filter has.l front rest world has.values has.bs has.each in
      let same : o ≡ gives (boolean (some_of (p.front_bs ++ p.rest_bs))) = has.is ∙ ap (λ (bs : List Bool). gives (boolean (some_of bs))) p.is in (
        gives (boolean (some_of p.front_bs)),
        gives (boolean (some_of p.rest_bs)),
        record { l = has.l; has = has.has; values = p.front_values; bs = p.front_bs; each = p.front_each; is = refl },
        record { l = has.l; has = has.has; values = p.rest_values; bs = p.rest_bs; each = p.rest_each; is = refl },
        λ x y one two. joined kept p.front_bs p.rest_bs o x y same one two,
      ))
    where
      joined : (k : Bool) (xs bs : List Bool) (o x y : Outcome) → o ≡ gives (boolean (some_of (xs ++ bs))) → IsInForm (kept_form k) (gives (boolean (some_of xs))) x
          → IsInForm (kept_form k) (gives (boolean (some_of bs))) y
          → (z : Outcome) × ((s : Option Bool) × (t : Option Bool) × (x ≡ truth s) × (y ≡ truth t) × (z ≡ truth (or3 s t))) × IsInForm (kept_form k) o z
      joined false xs bs o x y same one two =
          (truth (or3 (Some (some_of xs)) (Some (some_of bs))), (Some (some_of xs), Some (some_of bs), one, two, refl), ap truth (some_joined xs bs) ∙ sym same)
      joined true xs bs o x y same one two =
          let k =
          kept_or (gives (boolean (some_of xs)) ≡ gives (boolean true)) (gives (boolean (some_of bs)) ≡ gives (boolean true)) (o ≡ gives (boolean true)) x y
          (λ is. of_either xs bs (one_of xs bs (cc (sym same ∙ is)))) (λ either. same ∙ ap (λ (b : Bool). gives (boolean b)) (of_one xs bs (to_either xs bs either))) one two in
          (truth (or3 k.0 k.1), (k.0, k.1, k.2, k.3, refl), k.4)
        where
          of_either : (xs bs : List Bool) → (some_of xs ≡ true) ⊎ (some_of bs ≡ true) → (gives (boolean (some_of xs)) ≡ gives (boolean true)) ⊎ (gives (boolean (some_of bs)) ≡ gives (boolean true))
          of_either xs bs (inl is) = inl (ap (λ (b : Bool). gives (boolean b)) is)
          of_either xs bs (inr is) = inr (ap (λ (b : Bool). gives (boolean b)) is)

          to_either : (xs bs : List Bool) → (gives (boolean (some_of xs)) ≡ gives (boolean true)) ⊎ (gives (boolean (some_of bs)) ≡ gives (boolean true)) → (some_of xs ≡ true) ⊎ (some_of bs ≡ true)
          to_either xs bs (inl is) = inl (cc is)
          to_either xs bs (inr is) = inr (cc is)

-- ---- over a left side that is computed once

-- an operand that is no fault is so in the body too
pub value_stays : (filter : Filter) (operand : Operand) (world : World) (more : List BoundValue) (v : Val) → HasValue filter operand world v → HasValue filter operand (extended world more) v
value_stays filter operand world more v has = record { has = source_stays filter operand.source world more (gives v) has.has; fits = has.fits }

each_stays : (filter : Filter) (l : Val) (items : List Operand) (world : World) (more : List BoundValue) (values : List Val) (bs : List Bool) → EachEquals filter l items world values bs
    → EachEquals filter l items (extended world more) values bs
each_stays filter l [] world more values bs each = each
each_stays filter l (item ∷ items) world more [] bs each = absurd each
each_stays filter l (item ∷ items) world more (v ∷ values) [] each = absurd each
each_stays filter l (item ∷ items) world more (v ∷ values) (b ∷ bs) each = (value_stays filter item world more v each.0, each.1, each_stays filter l items world more values bs each.2)

module _ (question : Question) (left first : Operand) (items : List Operand) (lifted : Lifted) (old : Draft) (is_lifted : IsLifted (left ∷ []) old.depth lifted)
    (at_first : slice_get lifted.inner.items 0 ≡ Some first) (Form : Outcome → Outcome → Type 0) (opened body new : Draft) (is_opened : IsOpened lifted old opened)
    (values : PutsAll question (closed body (length lifted.bound.items)) new (AllHave question.filter lifted.bound.items) (length lifted.bound.items))
    (idle : lifted.bound.items ≡ [] → Grows (closed body (length lifted.bound.items)) new []) where
  pub over_left_put : Puts question opened body (EqualsHas question.filter first items) Form → Puts question old new (EqualsHas question.filter left items) Form
  over_left_put put =
      lifted_put question (left ∷ []) lifted old is_lifted opened body new is_opened values idle (EqualsHas question.filter first items) (EqualsHas question.filter left items) Form Form put
      (λ world o at is has.
      let more = map bound_value (chosen_of is_lifted.choices (gives has.l ∷ [])) in
      record {
        os = gives has.l ∷ [];
        have = (has.has.has, refl);
        inner = o;
        has = record {
          l = has.l;
          has = one_value question left first lifted old is_lifted at_first world (gives has.l) at has.has.has (λ none. (has.l, refl)) has.l refl has.has.fits;
          values = has.values;
          bs = has.bs;
          each = each_stays question.filter has.l items world more has.values has.bs has.each;
          is = has.is;
        };
        goes = λ x form. form;
      })
