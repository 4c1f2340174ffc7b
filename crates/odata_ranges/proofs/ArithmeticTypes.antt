-- Arithmetic by the type of its node.
use Rattle.odata_ranges.proofs.Common.{◌≡◌, true, sym, subst, Val, null, whole, PrimitiveType, null_type, ArithmeticOperator, CalculationGives, Outcome, expr_type, EdmType, ValueType, CalculatesWithin, IsWithin, Range, CoversFaults, HoldsArithmetic}

pub in_number_type : (operator : ArithmeticOperator) (type : EdmType) (p : PrimitiveType) (left right base result : Range) → type ≡ EdmType.Single (ValueType.Prim p)
    → CalculatesWithin operator p left right base → CoversFaults result left right → ((o : Outcome) → IsWithin base o → IsWithin result o)
    → HoldsArithmetic operator type left right result
in_number_type operator type p left right base result is within faults wider = record {
  faults = faults;
  values = λ schema v w o of_v of_w given.
      wider o (within v w o of_v of_w (subst (λ (t : EdmType). CalculationGives operator (expr_type schema t) v w o) is given));
}

null_given : (operator : ArithmeticOperator) (result : Range) (v w : Val) (o : Outcome) → result.may_be_null ≡ true → CalculationGives operator null_type v w o → IsWithin result o
null_given operator result null null o may given = subst (IsWithin result) (sym given) may
null_given operator result null (whole b) o may given = subst (IsWithin result) (sym given) may
null_given operator result (whole a) null o may given = subst (IsWithin result) (sym given) may
null_given operator result _ _ o may given = absurd given

pub in_null_type : (operator : ArithmeticOperator) (type : EdmType) (left right result : Range) → type ≡ EdmType.Null → CoversFaults result left right → result.may_be_null ≡ true
    → HoldsArithmetic operator type left right result
in_null_type operator type left right result is faults may = record {
  faults = faults;
  values = λ schema v w o of_v of_w given. null_given operator result v w o may (subst (λ (t : EdmType). CalculationGives operator (expr_type schema t) v w o) is given);
}
