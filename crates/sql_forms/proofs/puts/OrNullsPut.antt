-- A comparison that is true of two nulls: what is put for it where both sides may be null.
use Rattle.sql_forms.proofs.Common.{◌≡◌, ◌≢◌, inl, inr, [], ◌∷◌, Bool, false, Option, Some, None, refl, sym, subst, ◌∙◌, boolean, null, Outcome, gives, ComparesTrue, and3, or3, ComparisonOperator, is_true, truth, NodeMeans, SqlMeans, Asked, Bound, Term, no_terms, more_terms, SqlNode, Draft, Operand, ComparisonHas, StrictHas, Grows, NullHas, Has, Puts, Question, World, puts_one, puts_two}
use Rattle.sql_outcomes.specs.private.ValueForms.{Itself, OrTruth}
use Rattle.sql_outcomes.proofs.outcomes.Comparisons.{compared_truth}
use Rattle.sql_forms.proofs.puts.ComparisonsPut.{is_true_node, null_strict}
use Rattle.sql_outcomes.proofs.outcomes.Nullable.{or_nulls, true_of, is_true_of}
use Rattle.sql_forms.proofs.puts.OperandsPut.{fault_form, fault_itself, given_form, loosely}
use Rattle.sql_outcomes.proofs.outcomes.Operators.{and_means, or_means}

-- joined by `AND` and by `OR`
pub and_node : (asked : Asked) (bound : Bound) (a b : Term) (x y z : Outcome) → SqlMeans asked bound a x → SqlMeans asked bound b y
    → (s : Option Bool) × (t : Option Bool) × (x ≡ truth s) × (y ≡ truth t) × (z ≡ truth (and3 s t)) → NodeMeans asked bound SqlNode.And (more_terms a (more_terms b no_terms)) z
and_node asked bound a b x y z first second op =
    subst (NodeMeans asked bound SqlNode.And (more_terms a (more_terms b no_terms))) (sym op.4)
    (and_means asked bound a b op.0 op.1 (subst (SqlMeans asked bound a) op.2 first) (subst (SqlMeans asked bound b) op.3 second))

pub or_node : (asked : Asked) (bound : Bound) (a b : Term) (x y z : Outcome) → SqlMeans asked bound a x → SqlMeans asked bound b y
    → (s : Option Bool) × (t : Option Bool) × (x ≡ truth s) × (y ≡ truth t) × (z ≡ truth (or3 s t)) → NodeMeans asked bound SqlNode.Or (more_terms a (more_terms b no_terms)) z
or_node asked bound a b x y z first second op =
    subst (NodeMeans asked bound SqlNode.Or (more_terms a (more_terms b no_terms))) (sym op.4)
    (or_means asked bound a b op.0 op.1 (subst (SqlMeans asked bound a) op.2 first) (subst (SqlMeans asked bound b) op.3 second))

module _ (question : Question) (left right : Operand) (operator : ComparisonOperator) where
  -- whether the comparison of SQL is true
  abbrev TrueHas : Has
  TrueHas world o = (s : Option Bool) × StrictHas question.filter operator left right world (truth s) × (o ≡ is_true s)

  true_put : (old middle new : Draft) → Grows old middle (SqlNode.IsTrue ∷ []) → Puts question middle new (StrictHas question.filter operator left right) Itself → Puts question old new TrueHas Itself
  true_put old middle new grows strict =
      puts_one question SqlNode.IsTrue refl (λ x y. (t : Option Bool) × (x ≡ truth t) × (y ≡ is_true t)) old middle new (StrictHas question.filter operator left right) TrueHas Itself Itself is_true_node grows strict
      (λ world o is has. (truth has.0, has.1, λ x same. (is_true has.0, (has.0, same, refl), sym has.2)))

  -- whether both are null
  record BothHave (world : World) (o : Outcome) : Type 0 where
    p : Outcome
    q : Outcome
    left_has : NullHas question.filter left world p
    right_has : NullHas question.filter right world q
    goes : (x y : Outcome) → OrTruth Itself p x → OrTruth Itself q y
        → (s : Option Bool) × (t : Option Bool) × (x ≡ truth s) × (y ≡ truth t) × OrTruth Itself o (truth (and3 s t))

  both_put : (old middle next new : Draft) → Grows old middle (SqlNode.And ∷ []) → Puts question middle next (NullHas question.filter left) (OrTruth Itself)
      → Puts question next new (NullHas question.filter right) (OrTruth Itself) → Puts question old new BothHave (OrTruth Itself)
  both_put old middle next new grows first second =
      puts_two question SqlNode.And refl (λ x y z. (s : Option Bool) × (t : Option Bool) × (x ≡ truth s) × (y ≡ truth t) × (z ≡ truth (and3 s t))) old middle next new
      (NullHas question.filter left) (NullHas question.filter right) BothHave (OrTruth Itself) (OrTruth Itself) (OrTruth Itself) and_node grows first second
      (λ world o is has. (
        has.p,
        has.q,
        has.left_has,
        has.right_has,
        λ x y one two.
            let g = has.goes x y one two in
            (truth (and3 g.0 g.1), (g.0, g.1, g.2, g.3, refl), g.4),
      ))

  -- what comes of each part
  record Parts (world : World) (o : Outcome) : Type 0 where
    strict : Option Bool
    strict_has : StrictHas question.filter operator left right world (truth strict)
    nulls : Outcome
    nulls_have : BothHave world nulls
    goes : (y : Outcome) → OrTruth Itself nulls y → (t : Option Bool) × (y ≡ truth t) × OrTruth Itself o (truth (or3 (Some (true_of strict)) t))

  parts : operator ≢ ComparisonOperator.Ne → ComparesTrue operator null null → (world : World) (o : Outcome) → ComparisonHas question.filter operator left right world o → Parts world o
  parts other of_nulls world o (inl given) =
      let n = or_nulls operator given.0 given.1 o other of_nulls given.4 in
      let b = compared_truth operator given.0 given.1 o given.4 in
      let nulls = truth (and3 (Some n.left_null) (Some n.right_null)) in
      record {
        strict = n.strict;
        strict_has = (given.0, given.1, loosely given.2, loosely given.3, n.strict_given);
        nulls = nulls;
        nulls_have = record {
          p = gives (boolean n.left_null);
          q = gives (boolean n.right_null);
          left_has = inl (given.0, given.2, n.left_given);
          right_has = inl (given.1, given.3, n.right_given);
          goes = λ x y one two. (Some n.left_null, Some n.right_null, one, two, refl);
        };
        goes = λ y form. (
          and3 (Some n.left_null) (Some n.right_null),
          form,
          given_form Itself o (boolean b.0) (truth (or3 (Some (true_of n.strict)) (and3 (Some n.left_null) (Some n.right_null)))) b.1 (sym n.is),
        );
      }
  parts other of_nulls world o (inr fault) = record {
    strict = None;
    strict_has = (fault.1.0, fault.1.1, fault.1.2, fault.1.3, null_strict operator fault.1.0 fault.1.1 fault.1.4);
    nulls = o;
    nulls_have = record {
      p = o;
      q = o;
      left_has = inr (fault.0, fault.1.0, fault.1.2);
      right_has = inr (fault.0, fault.1.1, fault.1.3);
      goes = λ x y one two.
          let s = fault_itself o x fault.0 one in
          let t = fault_itself o y fault.0 two in
          (s.0, t.0, s.1, t.1, fault_form Itself o (and3 s.0 t.0) (truth (and3 s.0 t.0)) fault.0 refl);
    };
    goes = λ y form.
        let t = fault_itself o y fault.0 form in
        (t.0, t.1, fault_form Itself o (or3 (Some false) t.0) (truth (or3 (Some false) t.0)) fault.0 refl);
  }

  pub or_nulls_put : (old first second third fourth fifth new : Draft) → operator ≢ ComparisonOperator.Ne → ComparesTrue operator null null → Grows old first (SqlNode.Or ∷ [])
      → Grows first second (SqlNode.IsTrue ∷ []) → Puts question second third (StrictHas question.filter operator left right) Itself → Grows third fourth (SqlNode.And ∷ [])
      → Puts question fourth fifth (NullHas question.filter left) (OrTruth Itself) → Puts question fifth new (NullHas question.filter right) (OrTruth Itself)
      → Puts question old new (ComparisonHas question.filter operator left right) (OrTruth Itself)
  or_nulls_put old first second third fourth fifth new other of_nulls or_grows is_true_grows strict and_grows left_null right_null =
      puts_two question SqlNode.Or refl (λ x y z. (s : Option Bool) × (t : Option Bool) × (x ≡ truth s) × (y ≡ truth t) × (z ≡ truth (or3 s t))) old first third new
      TrueHas BothHave (ComparisonHas question.filter operator left right) Itself (OrTruth Itself) (OrTruth Itself) or_node or_grows (true_put first second third is_true_grows strict)
      (both_put third fourth fifth new and_grows left_null right_null)
      (λ world o is has.
      let p = parts other of_nulls world o has in (
        is_true p.strict,
        p.nulls,
        (p.strict, p.strict_has, refl),
        p.nulls_have,
        λ x y one two.
            let g = p.goes y two in
            (truth (or3 (Some (true_of p.strict)) g.0), (Some (true_of p.strict), g.0, one ∙ is_true_of p.strict, g.1, refl), g.2),
      ))
