-- What the functions that put comparisons return.
use Rattle.sql_forms.proofs.Common.{◌≡◌, ◌≢◌, ◌⊎◌, inl, inr, [], ◌∷◌, Result, OnOk, Bool, false, IsTrue, refl, sym, subst, Val, null, AreEqual, ComparesTrue, ComparisonOperator, SqlNode, SqlType, Draft, Operand, Kind, Form, BesideNullHas, ComparisonHas, IsGiven, StrictHas, IsComparedIn, compared_in, GrowsBy, AreAlike, ComparedHas, NullHas, Puts, Question, by_node, where_ok}
use Rattle.sql_forms.specs.Forms.{IsInForm}
use Rattle.sql_outcomes.specs.private.ValueForms.{Itself, OrTruth}
use Rattle.sql_outcomes.proofs.outcomes.ComparedValues.{IsOrder}
use Rattle.sql_forms.proofs.puts.ComparisonsPut.{Reported, beside_false, beside_not_null, beside_null, both_given, denied_put, is_true_put, kept_itself, kept_strict, left_beside, right_beside, same_put, strict_put, unequal_put}

-- equality is decided
abbrev pub EqualityDecided : Type 0
EqualityDecided = (v w : Val) → (answer : Bool) × (IsTrue answer → AreEqual v w) × (AreEqual v w → IsTrue answer)

-- what is reported false is not so
pub is_none : {B : Type 0} → (B → IsTrue false) → B → ⊥
is_none reports b = let t : IsTrue false = reports b in cc

module _ (question : Question) (left right : Operand) where
  in_type : (type : SqlType) (alike : AreAlike left.kind right.kind) → IsComparedIn left.kind type → type ≡ compared_in alike.type_of
  in_type type alike compared = subst (λ (k : Kind). IsComparedIn k type) alike.left_is compared

  pub ok_strict : {T E : Type 0} (operator : ComparisonOperator) (type : SqlType) (old middle next new : Draft) (r : Result T E) → AreAlike left.kind right.kind → IsComparedIn left.kind type
      → GrowsBy old middle (SqlNode.Compare operator type ∷ []) [] [] → Puts question middle next (ComparedHas question.filter left) Itself
      → OnOk r (Puts question next new (ComparedHas question.filter right) Itself) → OnOk r (Puts question old new (StrictHas question.filter operator left right) Itself)
  ok_strict operator type old middle next new r alike compared node first second =
      where_ok (λ (p : Puts question next new (ComparedHas question.filter right) Itself). strict_put question left right type old middle next new alike (in_type type alike compared) first p operator (by_node old middle (SqlNode.Compare operator type) refl node)) r second

  pub ok_same : {T E : Type 0} (type : SqlType) (old middle next new : Draft) (r : Result T E) → AreAlike left.kind right.kind → IsComparedIn left.kind type → EqualityDecided → GrowsBy old middle (SqlNode.Same type ∷ []) [] []
      → Puts question middle next (ComparedHas question.filter left) Itself → OnOk r (Puts question next new (ComparedHas question.filter right) Itself)
      → OnOk r (Puts question old new (ComparisonHas question.filter ComparisonOperator.Eq left right) (OrTruth Itself))
  ok_same type old middle next new r alike compared decided node first second =
      where_ok (λ (p : Puts question next new (ComparedHas question.filter right) Itself). same_put question left right type old middle next new alike (in_type type alike compared) first p decided (by_node old middle (SqlNode.Same type) refl node)) r second

  -- both are values
  pub ok_given : {T E : Type 0} (operator : ComparisonOperator) (old new : Draft) (r : Result T E) → IsGiven left → IsGiven right → OnOk r (Puts question old new (StrictHas question.filter operator left right) Itself)
      → OnOk r (Puts question old new (ComparisonHas question.filter operator left right) (OrTruth Itself))
  ok_given operator old new r here there put =
      where_ok (both_given question left right old new operator here there) r put

  -- whether it is true
  pub ok_is_true : {T E : Type 0} (operator : ComparisonOperator) (old middle new : Draft) (r : Result T E) → Reported question left right operator → GrowsBy old middle (SqlNode.IsTrue ∷ []) [] []
      → OnOk r (Puts question middle new (StrictHas question.filter operator left right) Itself) → OnOk r (Puts question old new (ComparisonHas question.filter operator left right) (OrTruth Itself))
  ok_is_true operator old middle new r reported node put =
      where_ok (is_true_put question left right old middle new operator reported (by_node old middle SqlNode.IsTrue refl node)) r put

  -- `ne` by `eq`
  pub ok_unequal : {T E : Type 0} (operator : ComparisonOperator) (old middle new : Draft) (r : Result T E) → operator ≡ ComparisonOperator.Ne → EqualityDecided → GrowsBy old middle (SqlNode.Not ∷ []) [] []
      → OnOk r (Puts question middle new (ComparisonHas question.filter ComparisonOperator.Eq left right) (OrTruth Itself)) → OnOk r (Puts question old new (ComparisonHas question.filter operator left right) (OrTruth Itself))
  ok_unequal operator old middle new r is decided node put =
      where_ok (λ (p : Puts question middle new (ComparisonHas question.filter ComparisonOperator.Eq left right) (OrTruth Itself)). subst (λ (op : ComparisonOperator). Puts question old new (ComparisonHas question.filter op left right) (OrTruth Itself)) (sym is)
      (unequal_put question left right old middle new decided (by_node old middle SqlNode.Not refl node) p)) r put

  -- ---- where it is kept, and where it is denied

  pub ok_kept_strict : {T E : Type 0} (operator : ComparisonOperator) (old new : Draft) (r : Result T E) → Reported question left right operator
      → OnOk r (Puts question old new (StrictHas question.filter operator left right) Itself) → OnOk r (Puts question old new (ComparisonHas question.filter operator left right) (OrTruth (IsInForm Form.Keeps)))
  ok_kept_strict operator old new r reported put =
      where_ok (kept_strict question left right old new operator reported) r put

  pub ok_kept : {T E : Type 0} (operator : ComparisonOperator) (old new : Draft) (r : Result T E) → OnOk r (Puts question old new (ComparisonHas question.filter operator left right) (OrTruth Itself))
      → OnOk r (Puts question old new (ComparisonHas question.filter operator left right) (OrTruth (IsInForm Form.Keeps)))
  ok_kept operator old new r put =
      where_ok (kept_itself question left right old new operator) r put

  pub ok_denied : {T E : Type 0} (operator : ComparisonOperator) (old middle new : Draft) (r : Result T E) → GrowsBy old middle (SqlNode.Not ∷ []) [] []
      → OnOk r (Puts question middle new (ComparisonHas question.filter operator left right) (OrTruth Itself)) → OnOk r (Puts question old new (ComparisonHas question.filter operator left right) (OrTruth (IsInForm Form.Denies)))
  ok_denied operator old middle new r node put =
      where_ok (denied_put question left right old middle new operator (by_node old middle SqlNode.Not refl node)) r put

  -- ---- a side of type Null

  pub ok_left_null : {T E : Type 0} (operator : ComparisonOperator) (old new : Draft) (r : Result T E) → left.kind ≡ Kind.Null → OnOk r (Puts question old new (BesideNullHas question.filter operator right) (OrTruth Itself))
      → OnOk r (Puts question old new (ComparisonHas question.filter operator left right) (OrTruth Itself))
  ok_left_null operator old new r kind put =
      where_ok (left_beside question left right operator old new kind) r put

  pub ok_right_null : {T E : Type 0} (operator : ComparisonOperator) (old new : Draft) (r : Result T E) → right.kind ≡ Kind.Null → OnOk r (Puts question old new (BesideNullHas question.filter operator left) (OrTruth Itself))
      → OnOk r (Puts question old new (ComparisonHas question.filter operator left right) (OrTruth Itself))
  ok_right_null operator old new r kind put =
      where_ok (right_beside question left right operator old new kind) r put

-- ---- beside null

pub order_of : (operator : ComparisonOperator) → (operator ≡ ComparisonOperator.Gt) ⊎ (operator ≡ ComparisonOperator.Lt) → IsOrder operator
order_of operator (inl is) = subst IsOrder (sym is) tt
order_of operator (inr is) = subst IsOrder (sym is) tt

pub true_of_nulls : (operator : ComparisonOperator) → operator ≢ ComparisonOperator.Ne → operator ≢ ComparisonOperator.Gt → operator ≢ ComparisonOperator.Lt → ComparesTrue operator null null
true_of_nulls ComparisonOperator.Eq no_ne no_gt no_lt = tt
true_of_nulls ComparisonOperator.Ne no_ne no_gt no_lt = absurd (no_ne refl)
true_of_nulls ComparisonOperator.Gt no_ne no_gt no_lt = absurd (no_gt refl)
true_of_nulls ComparisonOperator.Lt no_ne no_gt no_lt = absurd (no_lt refl)
true_of_nulls _ no_ne no_gt no_lt = inr tt

module _ (question : Question) (operand : Operand) where
  pub ok_beside_false : {T E : Type 0} (operator : ComparisonOperator) (old new : Draft) (r : Result T E) → IsOrder operator → OnOk r (GrowsBy old new (SqlNode.Truth false ∷ []) [] [])
      → OnOk r (Puts question old new (BesideNullHas question.filter operator operand) (OrTruth Itself))
  ok_beside_false operator old new r order put =
      where_ok (λ (g : GrowsBy old new (SqlNode.Truth false ∷ []) [] []). beside_false question operand operator old new order (by_node old new (SqlNode.Truth false) refl g)) r put

  pub ok_beside_not : {T E : Type 0} (operator : ComparisonOperator) (old middle new : Draft) (r : Result T E) → operator ≡ ComparisonOperator.Ne → GrowsBy old middle (SqlNode.Not ∷ []) [] []
      → OnOk r (Puts question middle new (NullHas question.filter operand) (OrTruth Itself)) → OnOk r (Puts question old new (BesideNullHas question.filter operator operand) (OrTruth Itself))
  ok_beside_not operator old middle new r is node put =
      where_ok (λ (p : Puts question middle new (NullHas question.filter operand) (OrTruth Itself)). subst (λ (op : ComparisonOperator). Puts question old new (BesideNullHas question.filter op operand) (OrTruth Itself)) (sym is)
      (beside_not_null question operand old middle new (by_node old middle SqlNode.Not refl node) p)) r put

  pub ok_beside_null : {T E : Type 0} (operator : ComparisonOperator) (old new : Draft) (r : Result T E) → operator ≢ ComparisonOperator.Ne → ComparesTrue operator null null
      → OnOk r (Puts question old new (NullHas question.filter operand) (OrTruth Itself)) → OnOk r (Puts question old new (BesideNullHas question.filter operator operand) (OrTruth Itself))
  ok_beside_null operator old new r other of_nulls put =
      where_ok (beside_null question operand operator old new other of_nulls) r put
