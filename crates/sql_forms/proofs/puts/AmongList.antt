-- SQL's own list is the list of the filter: null of null on the left, where the filter has false.
use Rattle.sql_forms.proofs.Common.{◌≡◌, ◌≢◌, ◌⊎◌, inl, inr, ◌∷◌, [], List, Bool, true, false, Option, Some, None, refl, sym, ap, subst, ◌∙◌, AllByRecursion, Val, boolean, null, ComparisonOperator, AreEqual, Filter, CompareGives, Outcome, gives, is_true, truth, SqlNode, Draft, Operand, Form, Grows, AmongHas, EachEquals, EqualsHas, IsNeverNull, some_of, Puts, Question, World, puts_as, puts_one}
use Rattle.sql_outcomes.specs.TrueWhere.{IsTrueWhere}
use Rattle.sql_forms.specs.Forms.{IsInForm}
use Rattle.sql_outcomes.specs.private.ValueForms.{Itself}
use Rattle.sql_outcomes.proofs.outcomes.Apart.{null_or_not as is_null_or}
use Rattle.sql_forms.proofs.puts.ComparisonsPut.{is_true_node}
use Rattle.sql_outcomes.proofs.outcomes.Truths.{true_where}

null_apart : (v : Val) → v ≢ null → AreEqual null v → ⊥
null_apart null other same = other refl
null_apart v other same = absurd same

no_flag : (b : Bool) (v : Val) → v ≢ null → CompareGives ComparisonOperator.Eq null v (gives (boolean b)) → b ≡ false
no_flag false v other given = refl
no_flag true v other given = absurd (null_apart v other (given.1.0 refl))

-- null is equal to no item that is never null
none_equal_null : (filter : Filter) (l : Val) (items : List Operand) (world : World) (values : List Val) (bs : List Bool) → l ≡ null → AllByRecursion (IsNeverNull filter) items
    → EachEquals filter l items world values bs → some_of bs ≡ false
none_equal_null filter l [] world values bs none given each = ap some_of each.1
none_equal_null filter l (item ∷ items) world [] bs none given each = absurd each
none_equal_null filter l (item ∷ items) world (v ∷ values) [] none given each = absurd each
none_equal_null filter l (item ∷ items) world (v ∷ values) (b ∷ bs) none given each =
    let other : v ≢ null = given.0 world v each.0 in
    let off : b ≡ false = no_flag b v other (subst (λ (w : Val). CompareGives ComparisonOperator.Eq w v (gives (boolean b))) none each.1) in
    ap (λ (c : Bool). some_of (c ∷ bs)) off ∙ none_equal_null filter l items world values bs none given.1 each.2

module _ (question : Question) (left : Operand) (items : List Operand) (given : AllByRecursion (IsNeverNull question.filter) items) where
  -- what SQL's list evaluates to
  record Among (world : World) (o : Outcome) : Type 0 where
    p : Outcome
    has : AmongHas question.filter left items world p
    t : Option Bool
    is : p ≡ truth t
    same : is_true t ≡ o
    kept : IsTrueWhere (o ≡ gives (boolean true)) p

  none_kept : (o : Outcome) → o ≡ gives (boolean false) → IsTrueWhere (o ≡ gives (boolean true)) (gives null)
  none_kept o is = (
    None,
    refl,
    (λ none. (let e : None ≡ Some true = none in absurd (cc)), λ same. (let e : gives (boolean false) ≡ gives (boolean true) = sym is ∙ same in absurd (cc))),
  )

  flag_same : (b : Bool) → is_true (Some b) ≡ gives (boolean b)
  flag_same true = refl
  flag_same false = refl

  among : (world : World) (o : Outcome) → EqualsHas question.filter left items world o → Among world o
  among world o has = by (is_null_or has.l)
    where
      by : (has.l ≡ null) ⊎ (has.l ≢ null) → Among world o
      by (inl none) =
          let off : o ≡ gives (boolean false) = has.is ∙ ap (λ (b : Bool). gives (boolean b)) (none_equal_null question.filter has.l items world has.values has.bs none given has.each) in
          record { p = gives null; has = (o, has, inl (none, refl)); t = None; is = refl; same = sym off; kept = none_kept o off }
      by (inr other) = record {
        p = o;
        has = (o, has, inr (other, refl));
        t = Some (some_of has.bs);
        is = has.is;
        same = flag_same (some_of has.bs) ∙ sym has.is;
        kept = subst (IsTrueWhere (o ≡ gives (boolean true))) (sym has.is) (true_where (Some (some_of has.bs)) o (sym has.is));
      }

  -- its value
  pub among_truth_put : (old middle new : Draft) → Grows old middle (SqlNode.IsTrue ∷ []) → Puts question middle new (AmongHas question.filter left items) Itself
      → Puts question old new (EqualsHas question.filter left items) (IsInForm Form.Truth)
  among_truth_put old middle new grows inner =
      puts_one question SqlNode.IsTrue refl (λ x y. (s : Option Bool) × (x ≡ truth s) × (y ≡ is_true s)) old middle new (AmongHas question.filter left items) (EqualsHas question.filter left items) Itself (IsInForm Form.Truth)
      is_true_node grows inner
      (λ world o is has. let a = among world o has in (a.p, a.has, λ x form. (is_true a.t, (a.t, form ∙ a.is, refl), a.same)))

  -- of a left side that is never null
  pub among_plain_put : left.range.may_be_null ≡ false → (old new : Draft) → Puts question old new (AmongHas question.filter left items) Itself → Puts question old new (EqualsHas question.filter left items) (IsInForm Form.Truth)
  among_plain_put never old new inner =
      puts_as question old new (AmongHas question.filter left items) (EqualsHas question.filter left items) Itself (IsInForm Form.Truth) inner
      (λ world o is has.
      let other : has.l ≢ null = λ none. let e : true ≡ false = sym (has.has.fits.nullable none) ∙ never in cc in
      (o, (o, has, inr (other, refl)), λ x form. form))

  -- true exactly where it is
  pub among_kept_put : (old new : Draft) → Puts question old new (AmongHas question.filter left items) Itself → Puts question old new (EqualsHas question.filter left items) (IsInForm Form.Keeps)
  among_kept_put old new inner =
      puts_as question old new (AmongHas question.filter left items) (EqualsHas question.filter left items) Itself (IsInForm Form.Keeps) inner
      (λ world o is has. let a = among world o has in (a.p, a.has, λ x form. subst (IsTrueWhere (o ≡ gives (boolean true))) (sym form) a.kept))
