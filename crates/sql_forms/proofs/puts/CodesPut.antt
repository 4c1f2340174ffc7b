-- Comparisons of truth values by their codes.
use Rattle.sql_forms.proofs.Common.{◌≡◌, [], ◌∷◌, Bool, None, refl, sym, ap, subst, ◌∙◌, true, false, Val, boolean, null, Filter, CompareGives, After, Then, Outcome, gives, ComparisonOperator, IsCoded, OneLooked, TwoLooked, IsTableBesideNull, IsTableOfComparison, LookUp, SqlNode, SqlType, Draft, Operand, Kind, CodeHas, FaultyHave, HasOrCode, NoTruth, Grows, IsOfKind, IsOfType, Fits, carrier_of, Puts, Question, World, puts_one, puts_two, carrier_in}
use Rattle.sql_outcomes.proofs.outcomes.CodeTables.{coded, looked_after_null, looked_beside_null, looked_comparison, compares_two, Coded}
use Rattle.sql_outcomes.proofs.outcomes.Operators.{looked_means, looked_two_means}
use Rattle.sql_forms.proofs.puts.OperandsPut.{null_value}

coded_value : (v : Val) → IsOfType SqlType.Truth v → IsCoded (gives v)
coded_value null is = tt
coded_value (boolean b) is = tt
coded_value v is = absurd is

-- a truth value, null or a fault has a code
pub truth_coded : (operand : Operand) (o : Outcome) → operand.kind ≡ Kind.Value SqlType.Truth → ((v : Val) → o ≡ gives v → Fits operand v) → IsCoded o
truth_coded operand (gives v) kind fits = coded_value v (subst (λ (k : Kind). IsOfKind k v) kind (fits v refl).kind)
truth_coded operand _ kind fits = tt

then_after : (lo ro o : Outcome) (operator : ComparisonOperator) → Then lo (λ l. Then ro (CompareGives operator l)) o → Then lo (λ l. After (λ r. r ≡ ro) (CompareGives operator l)) o
then_after (gives l) ro o operator given = (ro, (refl, given))
then_after _ ro o operator given = given

code_has : (filter : Filter) (operand : Operand) (world : World) (o : Outcome) → operand.kind ≡ Kind.Value SqlType.Truth → HasOrCode filter operand.kind operand.source world o → CodeHas filter operand.source world o
code_has filter operand world o kind has = subst (λ (k : Kind). HasOrCode filter k operand.source world o) kind has

-- of type Null, it is no truth value, and carries no fault
null_plain : (operand : Operand) → operand.kind ≡ Kind.Null → NoTruth operand
null_plain operand kind truth = let e : Kind.Null ≡ Kind.Value SqlType.Truth = sym kind ∙ truth in absurd (cc)

null_uncarried : (operand : Operand) → operand.kind ≡ Kind.Null → carrier_in operand ≡ None
null_uncarried operand kind = subst (λ (k : Kind). carrier_of operand.range.may_fault k ≡ None) (sym kind) (by operand.range.may_fault)
  where
    by : (may : Bool) → carrier_of may Kind.Null ≡ None
    by true = refl
    by false = refl

module _ (question : Question) (operator : ComparisonOperator) (left right : Operand) (table : LookUp) where
  module _ (old middle next new : Draft) where
    pub truths_put : IsTableOfComparison table operator → left.kind ≡ Kind.Value SqlType.Truth → right.kind ≡ Kind.Value SqlType.Truth → Grows old middle (SqlNode.LookUp table ∷ [])
        → Puts question middle next (CodeHas question.filter left.source) Coded → Puts question next new (CodeHas question.filter right.source) Coded
        → Puts question old new (FaultyHave question.filter operator left right) Coded
    truths_put law left_truth right_truth grows first second =
        puts_two question (SqlNode.LookUp table) (compares_two table operator law) (λ x y z. TwoLooked table x y z) old middle next new (CodeHas question.filter left.source) (CodeHas question.filter right.source)
        (FaultyHave question.filter operator left right) Coded Coded Coded (λ asked bound a b x y z one two op. looked_two_means asked bound table a b x y z one two op) grows first second
        (λ world o is has. (
          has.left_outcome,
          has.right_outcome,
          code_has question.filter left world has.left_outcome left_truth has.left_has,
          code_has question.filter right world has.right_outcome right_truth has.right_has,
          λ x y one two. (
            coded o,
            subst (λ (z : Outcome). TwoLooked table z y (coded o)) (sym one)
                (subst (λ (z : Outcome). TwoLooked table (coded has.left_outcome) z (coded o)) (sym two)
                (looked_comparison table operator law has.left_outcome has.right_outcome o (truth_coded left has.left_outcome left_truth has.left_fits) (truth_coded right has.right_outcome right_truth has.right_fits)
                (then_after has.left_outcome has.right_outcome o operator has.given))),
            refl,
          ),
        ))

  -- beside null, which evaluates to no fault
  module _ (old middle new : Draft) where
    left_of_null : (lo o : Outcome) → Then lo (λ l. Then (gives null) (CompareGives operator l)) o → Then lo (λ l. CompareGives operator l null) o
    left_of_null (gives l) o given = given
    left_of_null _ o given = given

    pub truth_before_null : IsTableBesideNull table operator → left.kind ≡ Kind.Value SqlType.Truth → right.kind ≡ Kind.Null → Grows old middle (SqlNode.LookUp table ∷ [])
        → Puts question middle new (CodeHas question.filter left.source) Coded → Puts question old new (FaultyHave question.filter operator left right) Coded
    truth_before_null law truth kind grows inner =
        puts_one question (SqlNode.LookUp table) law.of_one (OneLooked table) old middle new (CodeHas question.filter left.source) (FaultyHave question.filter operator left right) Coded Coded
        (λ asked bound a x y one op. looked_means asked bound table a x y one op) grows inner
        (λ world o is has.
        let v = has.right_plain (null_plain right kind) (null_uncarried right kind) in
        let none : has.right_outcome ≡ gives null = v.1 ∙ ap gives (null_value right v.0 kind (has.right_fits v.0 v.1)) in
        let given = left_of_null has.left_outcome o (subst (λ (r : Outcome). Then has.left_outcome (λ l. Then r (CompareGives operator l)) o) none has.given) in (
          has.left_outcome,
          code_has question.filter left world has.left_outcome truth has.left_has,
          λ x one. (
            coded o,
            subst (λ (z : Outcome). OneLooked table z (coded o)) (sym one) (looked_beside_null table operator law has.left_outcome o (truth_coded left has.left_outcome truth has.left_fits) given),
            refl,
          ),
        ))

    pub truth_after_null : IsTableBesideNull table operator → left.kind ≡ Kind.Null → right.kind ≡ Kind.Value SqlType.Truth → Grows old middle (SqlNode.LookUp table ∷ [])
        → Puts question middle new (CodeHas question.filter right.source) Coded → Puts question old new (FaultyHave question.filter operator left right) Coded
    truth_after_null law kind truth grows inner =
        puts_one question (SqlNode.LookUp table) law.of_one (OneLooked table) old middle new (CodeHas question.filter right.source) (FaultyHave question.filter operator left right) Coded Coded
        (λ asked bound a x y one op. looked_means asked bound table a x y one op) grows inner
        (λ world o is has.
        let v = has.left_plain (null_plain left kind) (null_uncarried left kind) in
        let none : has.left_outcome ≡ gives null = v.1 ∙ ap gives (null_value left v.0 kind (has.left_fits v.0 v.1)) in
        let given : Then has.right_outcome (CompareGives operator null) o = subst (λ (l : Outcome). Then l (λ w. Then has.right_outcome (CompareGives operator w)) o) none has.given in (
          has.right_outcome,
          code_has question.filter right world has.right_outcome truth has.right_has,
          λ x one. (
            coded o,
            subst (λ (z : Outcome). OneLooked table z (coded o)) (sym one) (looked_after_null table operator law has.right_outcome o (truth_coded right has.right_outcome truth has.right_fits) given),
            refl,
          ),
        ))
