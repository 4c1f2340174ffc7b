-- What is put for comparisons evaluates to what these evaluate to.
use Rattle.sql_forms.proofs.Common.{◌≡◌, ◌≢◌, ◌⊎◌, inl, inr, [], ◌∷◌, Bool, false, not, Option, Some, None, IsTrue, refl, sym, subst, ◌∙◌, Val, boolean, null, CompareGives, Outcome, gives, AreEqual, ComparesTrue, not3, ComparisonOperator, StrictlyGives, is_true, truth, NodeMeans, SqlMeans, Asked, Bound, Term, no_terms, more_terms, SqlNode, SqlType, IsFault, Draft, Operand, Kind, Form, BesideNullHas, ComparisonHas, IsGiven, StrictHas, compared_in, Grows, AreAlike, IsOfKind, IsOfType, ComparedHas, Fits, HasLoosely, NullHas, as_compared, Puts, Question, World, puts_as, puts_leaf, puts_one, puts_two, Has}
use Rattle.sql_forms.specs.Forms.{IsInForm}
use Rattle.sql_outcomes.specs.private.ValueForms.{Itself, OrTruth}
use Rattle.sql_meaning.specs.SqlTypeHolds.{IsComparedAs}
use Rattle.sql_outcomes.proofs.outcomes.Comparisons.{StrictReports, null_left, null_right, strictly_given, compared_truth}
use Rattle.sql_outcomes.proofs.outcomes.Nullable.{equality_of}
use Rattle.sql_forms.proofs.puts.OperandsPut.{fault_form, fault_itself, given_form, given_itself, loosely, compared_typed, null_value}
use Rattle.sql_outcomes.proofs.outcomes.Operators.{compare_means, is_true_means, not_means, same_means}
use Rattle.sql_outcomes.proofs.outcomes.ComparedValues.{IsOrder, beside_is_false, beside_is_not, beside_is_null, denied_where, equal_compared, given_value, kept_where, not_truth, null_equality, strict_compared}

-- ---- nodes

pub not_node : (asked : Asked) (bound : Bound) (a : Term) (x y : Outcome) → SqlMeans asked bound a x → (t : Option Bool) × (x ≡ truth t) × (y ≡ truth (not3 t))
    → NodeMeans asked bound SqlNode.Not (more_terms a no_terms) y
not_node asked bound a x y term op =
    subst (NodeMeans asked bound SqlNode.Not (more_terms a no_terms)) (sym op.2) (not_means asked bound a op.0 (subst (SqlMeans asked bound a) op.1 term))

pub is_true_node : (asked : Asked) (bound : Bound) (a : Term) (x y : Outcome) → SqlMeans asked bound a x → (t : Option Bool) × (x ≡ truth t) × (y ≡ is_true t)
    → NodeMeans asked bound SqlNode.IsTrue (more_terms a no_terms) y
is_true_node asked bound a x y term op =
    subst (NodeMeans asked bound SqlNode.IsTrue (more_terms a no_terms)) (sym op.2) (is_true_means asked bound a op.0 (subst (SqlMeans asked bound a) op.1 term))

-- the opposite of the truth value that something else evaluates to
pub negated_puts : (question : Question) (old middle new : Draft) (Inner Outer : Has) (F G : Outcome → Outcome → Type 0) → Grows old middle (SqlNode.Not ∷ []) → Puts question middle new Inner F
    → ((world : World) (o : Outcome) → Outer world o → (i : Outcome) × Inner world i × ((x : Outcome) → F i x → (t : Option Bool) × (x ≡ truth t) × G o (truth (not3 t)))) → Puts question old new Outer G
negated_puts question old middle new Inner Outer F G grows inner turn =
    puts_one question SqlNode.Not refl (λ x y. (t : Option Bool) × (x ≡ truth t) × (y ≡ truth (not3 t))) old middle new Inner Outer F G not_node grows inner
    (λ world o is has.
    let n = turn world o has in
    (n.0, n.1, λ x form. let t = n.2 x form in (truth (not3 t.0), (t.0, t.1, refl), t.2)))

-- a fault's form is that of its opposite too
fault_turned : (Form : Outcome → Outcome → Type 0) (o x : Outcome) → IsFault o → OrTruth Itself o x → (t : Option Bool) × (x ≡ truth t) × OrTruth Form o (truth (not3 t))
fault_turned Form o x fault form = let t = fault_itself o x fault form in (t.0, t.1, fault_form Form o (not3 t.0) (truth (not3 t.0)) fault refl)

pub null_strict : (operator : ComparisonOperator) (l r : Val) → (l ≡ null) ⊎ (r ≡ null) → StrictlyGives operator l r (gives null)
null_strict operator l r (inl is) = subst (λ (v : Val). StrictlyGives operator v r (gives null)) (sym is) (null_left operator r)
null_strict operator l r (inr is) = subst (λ (v : Val). StrictlyGives operator l v (gives null)) (sym is) (null_right operator l)

module _ (question : Question) (left right : Operand) where
  module _ (type : SqlType) (old middle next new : Draft) (alike : AreAlike left.kind right.kind) (type_is : type ≡ compared_in alike.type_of)
      (left_put : Puts question middle next (ComparedHas question.filter left) Itself) (right_put : Puts question next new (ComparedHas question.filter right) Itself) where
    of_left : (v : Val) → IsOfKind left.kind v → IsOfType alike.type_of v
    of_left v kind = subst (λ (k : Kind). IsOfKind k v) alike.left_is kind

    of_right : (v : Val) → IsOfKind right.kind v → IsOfType alike.type_of v
    of_right v kind = subst (λ (k : Kind). IsOfKind k v) alike.right_is kind

    typed : (v : Val) → IsOfType alike.type_of v → IsComparedAs type (as_compared v)
    typed v of_type = subst (λ (t : SqlType). IsComparedAs t (as_compared v)) (sym type_is) (compared_typed alike.type_of v of_type)

    pub strict_put : (operator : ComparisonOperator) → Grows old middle (SqlNode.Compare operator type ∷ []) → Puts question old new (StrictHas question.filter operator left right) Itself
    strict_put operator grows =
        puts_two question (SqlNode.Compare operator type) refl (λ x y z. (l : Val) × (r : Val) × (x ≡ gives l) × (y ≡ gives r) × IsComparedAs type l × IsComparedAs type r × StrictlyGives operator l r z) old middle next new
        (ComparedHas question.filter left) (ComparedHas question.filter right) (StrictHas question.filter operator left right) Itself Itself Itself
        (λ asked bound a b x y z first second op. compare_means asked bound operator type a b op.0 op.1 z op.4 op.5 (subst (SqlMeans asked bound a) op.2 first) (subst (SqlMeans asked bound b) op.3 second) op.6)
        grows left_put right_put
        (λ world o is has. (
          gives (as_compared has.0),
          gives (as_compared has.1),
          (has.0, has.2, refl),
          (has.1, has.3, refl),
          λ x y first second. (
            o,
            (as_compared has.0, as_compared has.1, first, second, typed has.0 (of_left has.0 has.2.kind), typed has.1 (of_right has.1 has.3.kind), strict_compared alike.type_of has.0 has.1 o (of_left has.0 has.2.kind) (of_right has.1 has.3.kind) operator has.4),
            refl,
          ),
        ))

    -- two values with what equality makes of them, in the form that is wanted
    record Sides (world : World) (o : Outcome) : Type 0 where
      l : Val
      r : Val
      left_has : HasLoosely question.filter left world l
      right_has : HasLoosely question.filter right world r
      x : Outcome
      given : CompareGives ComparisonOperator.Eq l r x
      form : OrTruth Itself o x

    sides : ((v w : Val) → (answer : Bool) × (IsTrue answer → AreEqual v w) × (AreEqual v w → IsTrue answer))
        → (world : World) (o : Outcome) → ComparisonHas question.filter ComparisonOperator.Eq left right world o → Sides world o
    sides decided world o (inl given) =
        let b = compared_truth ComparisonOperator.Eq given.0 given.1 o given.4 in
        record {
          l = given.0;
          r = given.1;
          left_has = loosely given.2;
          right_has = loosely given.3;
          x = o;
          given = given.4;
          form = given_form Itself o (boolean b.0) o b.1 refl;
        }
    sides decided world o (inr fault) =
        let d = decided fault.1.0 fault.1.1 in
        record {
          l = fault.1.0;
          r = fault.1.1;
          left_has = fault.1.2;
          right_has = fault.1.3;
          x = gives (boolean d.0);
          given = (
            null_equality alike.type_of fault.1.0 fault.1.1 (of_left fault.1.0 fault.1.2.kind) (of_right fault.1.1 fault.1.3.kind) fault.1.4,
            (d.1, d.2),
          );
          form = fault_form Itself o (Some d.0) (gives (boolean d.0)) fault.0 refl;
        }

    pub same_put : ((v w : Val) → (answer : Bool) × (IsTrue answer → AreEqual v w) × (AreEqual v w → IsTrue answer))
        → Grows old middle (SqlNode.Same type ∷ []) → Puts question old new (ComparisonHas question.filter ComparisonOperator.Eq left right) (OrTruth Itself)
    same_put decided grows =
        puts_two question (SqlNode.Same type) refl (λ x y z. (l : Val) × (r : Val) × (x ≡ gives l) × (y ≡ gives r) × IsComparedAs type l × IsComparedAs type r × CompareGives ComparisonOperator.Eq l r z) old middle next new
        (ComparedHas question.filter left) (ComparedHas question.filter right) (ComparisonHas question.filter ComparisonOperator.Eq left right) Itself Itself (OrTruth Itself)
        (λ asked bound a b x y z first second op. same_means asked bound type a b op.0 op.1 z op.4 op.5 (subst (SqlMeans asked bound a) op.2 first) (subst (SqlMeans asked bound b) op.3 second) op.6)
        grows left_put right_put
        (λ world o is has.
        let s = sides decided world o has in (
          gives (as_compared s.l),
          gives (as_compared s.r),
          (s.l, s.left_has, refl),
          (s.r, s.right_has, refl),
          λ x y first second. (
            s.x,
            (as_compared s.l, as_compared s.r, first, second, typed s.l (of_left s.l s.left_has.kind), typed s.r (of_right s.r s.right_has.kind), equal_compared alike.type_of s.l s.r s.x (of_left s.l s.left_has.kind) (of_right s.r s.right_has.kind) s.given),
            s.form,
          ),
        ))

  -- a comparison of SQL that reports what that of the filter evaluates to
  abbrev pub Reported : ComparisonOperator → Type 0
  Reported operator = (l r : Val) (o : Outcome) → Fits left l → Fits right r → CompareGives operator l r o → StrictReports operator l r o

  -- what that of SQL evaluates to, and whether it is true
  record Strict (operator : ComparisonOperator) (world : World) (o : Outcome) : Type 0 where
    strict : Option Bool
    has : StrictHas question.filter operator left right world (truth strict)
    is_same : ((b : Bool) × (o ≡ gives (boolean b)) × (is_true strict ≡ o)) ⊎ IsFault o

  strict_of : (operator : ComparisonOperator) → Reported operator → (world : World) (o : Outcome) → ComparisonHas question.filter operator left right world o → Strict operator world o
  strict_of operator reported world o (inl given) =
      let s = reported given.0 given.1 o given.2.fits given.3.fits given.4 in
      let b = compared_truth operator given.0 given.1 o given.4 in
      record {
        strict = s.strict;
        has = (given.0, given.1, loosely given.2, loosely given.3, s.gives_strict);
        is_same = inl (b.0, b.1, s.is_same);
      }
  strict_of operator reported world o (inr fault) = record {
    strict = None;
    has = (fault.1.0, fault.1.1, fault.1.2, fault.1.3, null_strict operator fault.1.0 fault.1.1 fault.1.4);
    is_same = inr fault.0;
  }

  is_true_form : (o : Outcome) (s : Option Bool) → ((b : Bool) × (o ≡ gives (boolean b)) × (is_true s ≡ o)) ⊎ IsFault o → OrTruth Itself o (is_true s)
  is_true_form o s (inl given) = given_form Itself o (boolean given.0) (is_true s) given.1 given.2
  is_true_form o (Some b) (inr fault) = fault_form Itself o (Some b) (gives (boolean b)) fault refl
  is_true_form o None (inr fault) = fault_form Itself o (Some false) (gives (boolean false)) fault refl

  -- of two values the comparison of SQL is that of the filter; with null for a fault it is null
  both_form : (operator : ComparisonOperator) (o x : Outcome) (s : Option Bool) → x ≡ truth s → ((b : Bool) × (o ≡ gives (boolean b)) × (truth s ≡ o)) ⊎ IsFault o → OrTruth Itself o x
  both_form operator o x s same (inl given) = given_form Itself o (boolean given.0) x given.1 (same ∙ given.2)
  both_form operator o x s same (inr fault) = fault_form Itself o s x fault same

  kept_form : (o x : Outcome) (s : Option Bool) → x ≡ truth s → ((b : Bool) × (o ≡ gives (boolean b)) × (is_true s ≡ o)) ⊎ IsFault o → OrTruth (IsInForm Form.Keeps) o x
  kept_form o x s same (inl given) = given_form (IsInForm Form.Keeps) o (boolean given.0) x given.1 (kept_where s o x same given.2)
  kept_form o x s same (inr fault) = fault_form (IsInForm Form.Keeps) o s x fault same

  module _ (old new : Draft) where
    both_reported : (operator : ComparisonOperator) → IsGiven left → IsGiven right → (world : World) (o : Outcome) → ComparisonHas question.filter operator left right world o
        → (s : Option Bool) × StrictHas question.filter operator left right world (truth s) × (((b : Bool) × (o ≡ gives (boolean b)) × (truth s ≡ o)) ⊎ IsFault o)
    both_reported operator here there world o (inl given) =
        let b = compared_truth operator given.0 given.1 o given.4 in
        let strict = strictly_given operator given.0 given.1 o (given_value left given.0 here given.2.fits) (given_value right given.1 there given.3.fits) given.4 in
        (Some b.0, (given.0, given.1, loosely given.2, loosely given.3, subst (StrictlyGives operator given.0 given.1) b.1 strict), inl (b.0, b.1, sym b.1))
    both_reported operator here there world o (inr fault) =
        (None, (fault.1.0, fault.1.1, fault.1.2, fault.1.3, null_strict operator fault.1.0 fault.1.1 fault.1.4), inr fault.0)

    pub both_given : (operator : ComparisonOperator) → IsGiven left → IsGiven right → Puts question old new (StrictHas question.filter operator left right) Itself
        → Puts question old new (ComparisonHas question.filter operator left right) (OrTruth Itself)
    both_given operator here there strict =
        puts_as question old new (StrictHas question.filter operator left right) (ComparisonHas question.filter operator left right) Itself (OrTruth Itself) strict
        (λ world o is has.
        let b = both_reported operator here there world o has in
        (truth b.0, b.1, λ x same. both_form operator o x b.0 same b.2))

    -- where it is kept
    pub kept_strict : (operator : ComparisonOperator) → Reported operator → Puts question old new (StrictHas question.filter operator left right) Itself
        → Puts question old new (ComparisonHas question.filter operator left right) (OrTruth (IsInForm Form.Keeps))
    kept_strict operator reported strict =
        puts_as question old new (StrictHas question.filter operator left right) (ComparisonHas question.filter operator left right) Itself (OrTruth (IsInForm Form.Keeps)) strict
        (λ world o is has.
        let s = strict_of operator reported world o has in
        (truth s.strict, s.has, λ x same. kept_form o x s.strict same s.is_same))

    kept_again : (operator : ComparisonOperator) (world : World) (o x : Outcome) → ComparisonHas question.filter operator left right world o → OrTruth Itself o x → OrTruth (IsInForm Form.Keeps) o x
    kept_again operator world o x (inl given) form =
        let b = compared_truth operator given.0 given.1 o given.4 in
        let same = given_itself o (boolean b.0) x b.1 form in
        kept_form o x (Some b.0) same (inl (b.0, b.1, sym b.1))
    kept_again operator world o x (inr fault) form = let t = fault_itself o x fault.0 form in fault_form (IsInForm Form.Keeps) o t.0 x fault.0 t.1

    pub kept_itself : (operator : ComparisonOperator) → Puts question old new (ComparisonHas question.filter operator left right) (OrTruth Itself)
        → Puts question old new (ComparisonHas question.filter operator left right) (OrTruth (IsInForm Form.Keeps))
    kept_itself operator inner =
        puts_as question old new (ComparisonHas question.filter operator left right) (ComparisonHas question.filter operator left right) (OrTruth Itself) (OrTruth (IsInForm Form.Keeps)) inner
        (λ world o is has. (o, has, λ x form. kept_again operator world o x has form))

  module _ (old middle new : Draft) where
    -- whether it is true, of one that reports what that of the filter evaluates to
    pub is_true_put : (operator : ComparisonOperator) → Reported operator → Grows old middle (SqlNode.IsTrue ∷ []) → Puts question middle new (StrictHas question.filter operator left right) Itself
        → Puts question old new (ComparisonHas question.filter operator left right) (OrTruth Itself)
    is_true_put operator reported grows strict =
        puts_one question SqlNode.IsTrue refl (λ x y. (t : Option Bool) × (x ≡ truth t) × (y ≡ is_true t)) old middle new (StrictHas question.filter operator left right)
        (ComparisonHas question.filter operator left right) Itself (OrTruth Itself) is_true_node grows strict
        (λ world o is has.
        let s = strict_of operator reported world o has in
        (truth s.strict, s.has, λ x same. (is_true s.strict, (s.strict, same, refl), is_true_form o s.strict s.is_same)))

    -- `ne` by `eq`: the outcome of that, and what its negation is
    unequal_of : ((v w : Val) → (answer : Bool) × (IsTrue answer → AreEqual v w) × (AreEqual v w → IsTrue answer)) → (world : World) (o : Outcome)
        → ComparisonHas question.filter ComparisonOperator.Ne left right world o
        → (i : Outcome) × ComparisonHas question.filter ComparisonOperator.Eq left right world i
        × ((x : Outcome) → OrTruth Itself i x → (t : Option Bool) × (x ≡ truth t) × OrTruth Itself o (truth (not3 t)))
    unequal_of decided world o (inl given) =
        let e = equality_of decided given.0 given.1 o given.4 in (
          gives (boolean e.answer),
          inl (given.0, given.1, given.2, given.3, e.given),
          λ x same. (Some e.answer, same, given_form Itself o (boolean (not e.answer)) (truth (not3 (Some e.answer))) e.is (not_truth e.answer ∙ sym e.is)),
        )
    unequal_of decided world o (inr fault) = (o, inr fault, λ x form. fault_turned Itself o x fault.0 form)

    pub unequal_put : ((v w : Val) → (answer : Bool) × (IsTrue answer → AreEqual v w) × (AreEqual v w → IsTrue answer))
        → Grows old middle (SqlNode.Not ∷ []) → Puts question middle new (ComparisonHas question.filter ComparisonOperator.Eq left right) (OrTruth Itself)
        → Puts question old new (ComparisonHas question.filter ComparisonOperator.Ne left right) (OrTruth Itself)
    unequal_put decided grows equal =
        negated_puts question old middle new (ComparisonHas question.filter ComparisonOperator.Eq left right) (ComparisonHas question.filter ComparisonOperator.Ne left right) (OrTruth Itself) (OrTruth Itself)
        grows equal (unequal_of decided)

    -- true where the comparison is false
    denied_of : (operator : ComparisonOperator) (world : World) (o x : Outcome) → ComparisonHas question.filter operator left right world o → OrTruth Itself o x
        → (t : Option Bool) × (x ≡ truth t) × OrTruth (IsInForm Form.Denies) o (truth (not3 t))
    denied_of operator world o x (inl given) form =
        let b = compared_truth operator given.0 given.1 o given.4 in (
          Some b.0,
          given_itself o (boolean b.0) x b.1 form,
          given_form (IsInForm Form.Denies) o (boolean b.0) (truth (not3 (Some b.0))) b.1 (denied_where b.0 o (truth (not3 (Some b.0))) b.1 refl),
        )
    denied_of operator world o x (inr fault) form = fault_turned (IsInForm Form.Denies) o x fault.0 form

    pub denied_put : (operator : ComparisonOperator) → Grows old middle (SqlNode.Not ∷ []) → Puts question middle new (ComparisonHas question.filter operator left right) (OrTruth Itself)
        → Puts question old new (ComparisonHas question.filter operator left right) (OrTruth (IsInForm Form.Denies))
    denied_put operator grows inner =
        negated_puts question old middle new (ComparisonHas question.filter operator left right) (ComparisonHas question.filter operator left right) (OrTruth Itself) (OrTruth (IsInForm Form.Denies))
        grows inner (λ world o has. (o, has, λ x form. denied_of operator world o x has form))

-- ---- beside null

module _ (question : Question) (operand : Operand) where
  false_form : (operator : ComparisonOperator) → IsOrder operator → (world : World) (o : Outcome) → BesideNullHas question.filter operator operand world o → OrTruth Itself o (gives (boolean false))
  false_form operator order world o (inl given) =
      let is = beside_is_false given.0 o operator order given.2 in given_form Itself o (boolean false) (gives (boolean false)) is (sym is)
  false_form operator order world o (inr fault) = fault_form Itself o (Some false) (gives (boolean false)) fault.0 refl

  pub beside_false : (operator : ComparisonOperator) (old new : Draft) → IsOrder operator → Grows old new (SqlNode.Truth false ∷ [])
      → Puts question old new (BesideNullHas question.filter operator operand) (OrTruth Itself)
  beside_false operator old new order grows =
      puts_leaf question (SqlNode.Truth false) refl old new (BesideNullHas question.filter operator operand) (OrTruth Itself) grows
      (λ world o is has. (gives (boolean false), refl, false_form operator order world o has))

  null_of_beside : (operator : ComparisonOperator) → operator ≢ ComparisonOperator.Ne → ComparesTrue operator null null → (world : World) (o : Outcome)
      → BesideNullHas question.filter operator operand world o → NullHas question.filter operand world o
  null_of_beside operator other of_nulls world o (inl given) = inl (given.0, given.1, beside_is_null given.0 o operator other of_nulls given.2)
  null_of_beside operator other of_nulls world o (inr fault) = inr fault

  pub beside_null : (operator : ComparisonOperator) (old new : Draft) → operator ≢ ComparisonOperator.Ne → ComparesTrue operator null null
      → Puts question old new (NullHas question.filter operand) (OrTruth Itself) → Puts question old new (BesideNullHas question.filter operator operand) (OrTruth Itself)
  beside_null operator old new other of_nulls inner =
      puts_as question old new (NullHas question.filter operand) (BesideNullHas question.filter operator operand) (OrTruth Itself) (OrTruth Itself) inner
      (λ world o is has. (o, null_of_beside operator other of_nulls world o has, λ x form. form))

  not_null_of : (world : World) (o : Outcome) → BesideNullHas question.filter ComparisonOperator.Ne operand world o
      → (i : Outcome) × NullHas question.filter operand world i
      × ((x : Outcome) → OrTruth Itself i x → (t : Option Bool) × (x ≡ truth t) × OrTruth Itself o (truth (not3 t)))
  not_null_of world o (inl given) =
      let n = beside_is_not given.0 o given.2 in (
        gives (boolean n.0),
        inl (given.0, given.1, n.1),
        λ x same. (Some n.0, same, given_form Itself o (boolean (not n.0)) (truth (not3 (Some n.0))) n.2 (not_truth n.0 ∙ sym n.2)),
      )
  not_null_of world o (inr fault) = (o, inr fault, λ x form. fault_turned Itself o x fault.0 form)

  pub beside_not_null : (old middle new : Draft) → Grows old middle (SqlNode.Not ∷ []) → Puts question middle new (NullHas question.filter operand) (OrTruth Itself)
      → Puts question old new (BesideNullHas question.filter ComparisonOperator.Ne operand) (OrTruth Itself)
  beside_not_null old middle new grows inner =
      negated_puts question old middle new (NullHas question.filter operand) (BesideNullHas question.filter ComparisonOperator.Ne operand) (OrTruth Itself) (OrTruth Itself) grows inner not_null_of

-- a side of type Null has null
module _ (question : Question) (left right : Operand) (operator : ComparisonOperator) (old new : Draft) where
  left_null : left.kind ≡ Kind.Null → (world : World) (o : Outcome) → ComparisonHas question.filter operator left right world o → BesideNullHas question.filter operator right world o
  left_null kind world o (inl given) = inl (given.1, given.3, inl (subst (λ (v : Val). CompareGives operator v given.1 o) (null_value left given.0 kind given.2.fits) given.4))
  left_null kind world o (inr fault) = inr (fault.0, fault.1.1, fault.1.3)

  pub left_beside : left.kind ≡ Kind.Null → Puts question old new (BesideNullHas question.filter operator right) (OrTruth Itself)
      → Puts question old new (ComparisonHas question.filter operator left right) (OrTruth Itself)
  left_beside kind inner =
      puts_as question old new (BesideNullHas question.filter operator right) (ComparisonHas question.filter operator left right) (OrTruth Itself) (OrTruth Itself) inner
      (λ world o is has. (o, left_null kind world o has, λ x form. form))

  right_null : right.kind ≡ Kind.Null → (world : World) (o : Outcome) → ComparisonHas question.filter operator left right world o → BesideNullHas question.filter operator left world o
  right_null kind world o (inl given) = inl (given.0, given.2, inr (subst (λ (v : Val). CompareGives operator given.0 v o) (null_value right given.1 kind given.3.fits) given.4))
  right_null kind world o (inr fault) = inr (fault.0, fault.1.0, fault.1.2)

  pub right_beside : right.kind ≡ Kind.Null → Puts question old new (BesideNullHas question.filter operator left) (OrTruth Itself)
      → Puts question old new (ComparisonHas question.filter operator left right) (OrTruth Itself)
  right_beside kind inner =
      puts_as question old new (BesideNullHas question.filter operator left) (ComparisonHas question.filter operator left right) (OrTruth Itself) (OrTruth Itself) inner
      (λ world o is has. (o, right_null kind world o has, λ x form. form))
