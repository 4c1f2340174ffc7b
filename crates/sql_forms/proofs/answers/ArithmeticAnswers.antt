-- What the functions that put arithmetic return.
use Rattle.sql_forms.proofs.Common.{◌≡◌, [], ◌∷◌, Result, OnOk, Bool, true, false, refl, sym, subst, ◌∙◌, pos, PrimitiveType, overflow, divides_by_zero, IsDividing, Overflow, DivideByZero, ArithmeticOperator, ComparisonOperator, HoldsNumber, Digit, Carrier, SqlNode, SqlType, Draft, Operand, CheckedHas, DivisorHas, WideHas, ZeroHas, Grows, GrowsBy, OperandHas, Puts, Question, by_node, where_ok}
use Rattle.sql_outcomes.specs.private.ValueForms.{Itself}
use Rattle.sql_forms.proofs.puts.ArithmeticPut.{BoundedHas, bounded_put, divisor_put, fault_put, wide_put, zero_asked}
use Rattle.sql_forms.proofs.puts.CalculatedPut.{divided_put, undivided_put}
use Rattle.sql_outcomes.proofs.nodes.Checked.{Divides}

module _ (question : Question) where
  pub ok_is_zero : {T E : Type 0} (operand : Operand) (old middle next new : Draft) (r : Result T E) → GrowsBy old middle (SqlNode.Compare ComparisonOperator.Eq SqlType.Whole ∷ []) [] []
      → Puts question middle next (OperandHas question.filter operand) Itself → OnOk r (GrowsBy next new (SqlNode.Number Digit.Zero ∷ []) [] [])
      → OnOk r (Puts question old new (ZeroHas question.filter operand) Itself)
  ok_is_zero operand old middle next new r node put number =
      where_ok (λ (g : GrowsBy next new (SqlNode.Number Digit.Zero ∷ []) [] []). zero_asked question operand old middle next new (by_node old middle (SqlNode.Compare ComparisonOperator.Eq SqlType.Whole) refl node) put (by_node next new (SqlNode.Number Digit.Zero) refl g)) r number

  module _ (operator : ArithmeticOperator) (left right : Operand) where
    -- no divisor is 0
    pub ok_wide : {T E : Type 0} (by_zero : Bool) (old middle next new : Draft) (r : Result T E) → by_zero ≡ false → GrowsBy old middle (SqlNode.Wide operator ∷ []) [] []
        → Puts question middle next (OperandHas question.filter left) Itself → OnOk r (Puts question next new (OperandHas question.filter right) Itself)
        → OnOk r (Puts question old new (WideHas question.filter operator left (DivisorHas by_zero question.filter right)) Itself)
    ok_wide by_zero old middle next new r is node put other =
        where_ok (λ (p : Puts question next new (OperandHas question.filter right) Itself). subst (λ (b : Bool). Puts question old new (WideHas question.filter operator left (DivisorHas b question.filter right)) Itself) (sym is)
        (wide_put question operator left (DivisorHas false question.filter right) old middle next new (by_node old middle (SqlNode.Wide operator) refl node) put p)) r other

    -- one may be
    pub ok_wide_zero : {T E : Type 0} (by_zero : Bool) (old first second third fourth fifth new : Draft) (r : Result T E) → by_zero ≡ true → GrowsBy old first (SqlNode.Wide operator ∷ []) [] []
        → Puts question first second (OperandHas question.filter left) Itself → GrowsBy second third (SqlNode.Case ∷ []) [] [] → Puts question third fourth (ZeroHas question.filter right) Itself
        → GrowsBy fourth fifth (SqlNode.Null SqlType.Whole ∷ []) [] [] → OnOk r (Puts question fifth new (OperandHas question.filter right) Itself)
        → OnOk r (Puts question old new (WideHas question.filter operator left (DivisorHas by_zero question.filter right)) Itself)
    ok_wide_zero by_zero old first second third fourth fifth new r is node put case_node zero none other =
        where_ok (λ (p : Puts question fifth new (OperandHas question.filter right) Itself). subst (λ (b : Bool). Puts question old new (WideHas question.filter operator left (DivisorHas b question.filter right)) Itself) (sym is)
        (wide_put question operator left (DivisorHas true question.filter right) old first second new (by_node old first (SqlNode.Wide operator) refl node) put
        (divisor_put question right SqlType.Whole second third fourth fifth new (by_node second third SqlNode.Case refl case_node) zero (by_node fourth fifth (SqlNode.Null SqlType.Whole) refl none) p))) r other

    -- ---- the result within its type

    module _ (known : Divides) (type : PrimitiveType) (by_zero : Bool) where
      bounded : (old first second third fourth fifth new : Draft) → GrowsBy old first (SqlNode.Case ∷ []) [] [] → GrowsBy first second (SqlNode.Not ∷ []) [] []
          → GrowsBy second third (SqlNode.Within type ∷ []) [] [] → Puts question third fourth (WideHas question.filter operator left (DivisorHas by_zero question.filter right)) Itself
          → Grows fourth fifth (SqlNode.Fault Carrier.Number Overflow ∷ []) → Puts question fifth new (WideHas question.filter operator left (DivisorHas by_zero question.filter right)) Itself
          → Puts question old new (BoundedHas question type (WideHas question.filter operator left (DivisorHas by_zero question.filter right))) Itself
      bounded old first second third fourth fifth new case_node not_node within_node wide fault again =
          bounded_put question type (WideHas question.filter operator left (DivisorHas by_zero question.filter right)) old first second third fourth fifth new (by_node old first SqlNode.Case refl case_node)
          (by_node first second SqlNode.Not refl not_node) (by_node second third (SqlNode.Within type) refl within_node) wide (fault_put question Overflow overflow fourth fifth fault refl) again

      pub ok_undivided : {T E : Type 0} (old first second third fourth fifth new : Draft) (r : Result T E) → by_zero ≡ false → (IsDividing operator → HoldsNumber right.range (pos 0) → by_zero ≡ true)
          → GrowsBy old first (SqlNode.Case ∷ []) [] [] → GrowsBy first second (SqlNode.Not ∷ []) [] [] → GrowsBy second third (SqlNode.Within type ∷ []) [] []
          → Puts question third fourth (WideHas question.filter operator left (DivisorHas by_zero question.filter right)) Itself → Grows fourth fifth (SqlNode.Fault Carrier.Number Overflow ∷ [])
          → OnOk r (Puts question fifth new (WideHas question.filter operator left (DivisorHas by_zero question.filter right)) Itself)
          → OnOk r (Puts question old new (CheckedHas question.filter operator type left right) Itself)
      ok_undivided old first second third fourth fifth new r is reports case_node not_node within_node wide fault again =
          where_ok (λ (p : Puts question fifth new (WideHas question.filter operator left (DivisorHas by_zero question.filter right)) Itself). undivided_put known question operator type left right old new (λ divides zero. let both : false ≡ true = sym is ∙ reports divides zero in cc)
          (subst (λ (b : Bool). Puts question old new (BoundedHas question type (WideHas question.filter operator left (DivisorHas b question.filter right))) Itself) is
          (bounded old first second third fourth fifth new case_node not_node within_node wide fault p))) r again

      pub ok_divided : {T E : Type 0} (d0 d1 d2 d3 d4 d5 d6 d7 d8 d9 d10 d11 d12 new : Draft) (r : Result T E) → by_zero ≡ true → IsDividing operator
          → GrowsBy d0 d1 (SqlNode.Case ∷ []) [] [] → GrowsBy d1 d2 (SqlNode.And ∷ []) [] [] → Puts question d2 d3 (ZeroHas question.filter right) Itself → GrowsBy d3 d4 (SqlNode.Not ∷ []) [] []
          → GrowsBy d4 d5 (SqlNode.IsNull ∷ []) [] [] → Puts question d5 d6 (OperandHas question.filter left) Itself → Grows d6 d7 (SqlNode.Fault Carrier.Number DivideByZero ∷ [])
          → GrowsBy d7 d8 (SqlNode.Case ∷ []) [] [] → GrowsBy d8 d9 (SqlNode.Not ∷ []) [] [] → GrowsBy d9 d10 (SqlNode.Within type ∷ []) [] []
          → Puts question d10 d11 (WideHas question.filter operator left (DivisorHas by_zero question.filter right)) Itself → Grows d11 d12 (SqlNode.Fault Carrier.Number Overflow ∷ [])
          → OnOk r (Puts question d12 new (WideHas question.filter operator left (DivisorHas by_zero question.filter right)) Itself)
          → OnOk r (Puts question d0 new (CheckedHas question.filter operator type left right) Itself)
      ok_divided d0 d1 d2 d3 d4 d5 d6 d7 d8 d9 d10 d11 d12 new r is divides case_0 and_1 zero not_3 null_4 put fault_6 case_7 not_8 within_9 wide fault_11 again =
          where_ok (λ (p : Puts question d12 new (WideHas question.filter operator left (DivisorHas by_zero question.filter right)) Itself). divided_put known question operator type left right d0 d1 d2 d3 d4 d5 d6 d7 divides (by_node d0 d1 SqlNode.Case refl case_0) (by_node d1 d2 SqlNode.And refl and_1) zero (by_node d3 d4 SqlNode.Not refl not_3)
          (by_node d4 d5 SqlNode.IsNull refl null_4) put (fault_put question DivideByZero divides_by_zero d6 d7 fault_6 refl) new
          (subst (λ (b : Bool). Puts question d7 new (BoundedHas question type (WideHas question.filter operator left (DivisorHas b question.filter right))) Itself) is
          (bounded d7 d8 d9 d10 d11 d12 new case_7 not_8 within_9 wide fault_11 p))) r again
