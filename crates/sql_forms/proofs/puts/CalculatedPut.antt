-- What is put for arithmetic that may leave its type or divide by 0 evaluates to what the operator makes.
use Rattle.sql_forms.proofs.Common.{◌≡◌, [], ◌∷◌, ℤ, pos, Bool, true, false, Option, Some, None, is_some, refl, sym, ap, subst, ◌∙◌, FitsSigned, w64, Val, PrimitiveType, number_val, Outcome, gives, divides_by_zero, IsDividing, and3, not3, ArithmeticOperator, HoldsNumber, ChoiceGives, GivesIsNull, truth, SqlMeans, SqlNode, Draft, Operand, CheckedHas, DivisorHas, IsFitted, IsNumberIn, WideHas, ZeroHas, Grows, OperandHas, Has, Puts, Question, puts_as, puts_one, puts_three, puts_two}
use Rattle.sql_outcomes.specs.private.ValueForms.{Itself}
use Rattle.sql_forms.proofs.puts.ArithmeticPut.{BoundedHas, case_node}
use Rattle.sql_outcomes.proofs.outcomes.FaultConditions.{Is}
use Rattle.sql_outcomes.proofs.nodes.Checked.{Divides, parts, parts_free}
use Rattle.sql_forms.proofs.puts.ComparisonsPut.{not_node}
use Rattle.sql_outcomes.proofs.outcomes.Operators.{is_null_means}
use Rattle.sql_forms.proofs.puts.OrNullsPut.{and_node}

-- whether a number is null, and whether it is not
null_given : (m : Option ℤ) → GivesIsNull (number_val m) (truth (not3 (Some (is_some m))))
null_given None = refl
null_given (Some n) = refl

twice : (b : Bool) → not3 (not3 (Some b)) ≡ Some b
twice true = refl
twice false = refl

fitted : (m : Option ℤ) → IsFitted m → (x : ℤ) → m ≡ Some x → FitsSigned w64 x
fitted m fits x is = subst IsFitted is fits

module _ (known : Divides) (question : Question) (operator : ArithmeticOperator) (type : PrimitiveType) (left right : Operand) where
  -- ---- where a divisor may be 0

  -- whether the operand is null, and whether it is not
  abbrev NullNumberHas : Has
  NullNumberHas world o =
      (m : Option ℤ) × OperandHas question.filter left world (gives (number_val m)) × (o ≡ truth (not3 (Some (is_some m))))

  abbrev GivenNumberHas : Has
  GivenNumberHas world o =
      (m : Option ℤ) × OperandHas question.filter left world (gives (number_val m)) × (o ≡ truth (Some (is_some m)))

  -- whether the divisor is 0 and the other operand is not null
  abbrev FaultHas : Has
  FaultHas world o =
      (zero : Option Bool) × (m : Option ℤ) × ZeroHas question.filter right world (truth zero) × OperandHas question.filter left world (gives (number_val m))
      × (o ≡ truth (and3 zero (Some (is_some m))))

  null_put : (old middle new : Draft) → Grows old middle (SqlNode.IsNull ∷ []) → Puts question middle new (OperandHas question.filter left) Itself → Puts question old new NullNumberHas Itself
  null_put old middle new grows put =
      puts_one question SqlNode.IsNull refl (λ x y. (v : Val) × (x ≡ gives v) × GivesIsNull v y) old middle new (OperandHas question.filter left) NullNumberHas Itself Itself (λ asked bound a x y first op. is_null_means asked bound a op.0 y (subst (SqlMeans asked bound a) op.1 first) op.2) grows put
      (λ world o is has. (gives (number_val has.0), has.1, λ x same. (truth (not3 (Some (is_some has.0))), (number_val has.0, same, null_given has.0), sym has.2)))

  given_put : (old middle new : Draft) → Grows old middle (SqlNode.Not ∷ []) → Puts question middle new NullNumberHas Itself → Puts question old new GivenNumberHas Itself
  given_put old middle new grows put =
      puts_one question SqlNode.Not refl (λ x y. (t : Option Bool) × (x ≡ truth t) × (y ≡ truth (not3 t))) old middle new NullNumberHas GivenNumberHas Itself Itself not_node grows put
      (λ world o is has. (
        truth (not3 (Some (is_some has.0))),
        (has.0, has.1, refl),
        λ x same. (truth (not3 (not3 (Some (is_some has.0)))), (not3 (Some (is_some has.0)), same, refl), ap truth (twice (is_some has.0)) ∙ sym has.2),
      ))

  fault_asked : (old middle next new : Draft) → Grows old middle (SqlNode.And ∷ []) → Puts question middle next (ZeroHas question.filter right) Itself → Puts question next new GivenNumberHas Itself
      → Puts question old new FaultHas Itself
  fault_asked old middle next new grows zero given =
      puts_two question SqlNode.And refl (λ x y z. (s : Option Bool) × (t : Option Bool) × (x ≡ truth s) × (y ≡ truth t) × (z ≡ truth (and3 s t))) old middle next new
      (ZeroHas question.filter right) GivenNumberHas FaultHas Itself Itself Itself and_node grows zero given
      (λ world o is has. (
        truth has.0,
        truth (Some (is_some has.1)),
        has.2,
        (has.1, has.3, refl),
        λ x y one two. (truth (and3 has.0 (Some (is_some has.1))), (has.0, Some (is_some has.1), one, two, refl), sym has.4),
      ))

  pub divided_put : (d0 d1 d2 d3 d4 d5 d6 d7 : Draft) → IsDividing operator → Grows d0 d1 (SqlNode.Case ∷ []) → Grows d1 d2 (SqlNode.And ∷ []) → Puts question d2 d3 (ZeroHas question.filter right) Itself
      → Grows d3 d4 (SqlNode.Not ∷ []) → Grows d4 d5 (SqlNode.IsNull ∷ []) → Puts question d5 d6 (OperandHas question.filter left) Itself → Puts question d6 d7 (Is divides_by_zero) Itself → (new : Draft)
      → Puts question d7 new (BoundedHas question type (WideHas question.filter operator left (DivisorHas true question.filter right))) Itself
      → Puts question d0 new (CheckedHas question.filter operator type left right) Itself
  divided_put d0 d1 d2 d3 d4 d5 d6 d7 divides case_grows and_grows zero not_grows null_grows put fault new bounded =
      puts_three question SqlNode.Case refl (λ x y z w. (t : Option Bool) × (x ≡ truth t) × ChoiceGives t y z w) d0 d1 d6 d7 new FaultHas (Is divides_by_zero)
      (BoundedHas question type (WideHas question.filter operator left (DivisorHas true question.filter right))) (CheckedHas question.filter operator type left right) Itself Itself Itself Itself
      case_node case_grows (fault_asked d1 d2 d3 d6 and_grows zero (given_put d3 d4 d6 not_grows (null_put d4 d5 d6 null_grows put))) fault bounded
      (λ world o is has.
      let p = parts known operator type has.first has.second o divides (fitted has.first has.left_fits) (fitted has.second has.right_fits) has.comes in
      let t = and3 p.is_zero (Some (is_some has.first)) in (
        truth t,
        divides_by_zero,
        p.inner,
        (p.is_zero, has.first, (has.second, has.right_has, p.zero_given), has.left_has, refl),
        refl,
        (p.wide, p.inside, (has.first, p.divisor, has.left_has, (has.second, p.is_zero, has.right_has, p.zero_given, p.divisor_given), p.wide_given), p.inside_given, p.inner_given),
        λ x y z one two three. (
          o,
          (t, one, subst (λ (q : Outcome). ChoiceGives t q z o) (sym two) (subst (λ (q : Outcome). ChoiceGives t divides_by_zero q o) (sym three) p.outer_given)),
          refl,
        ),
      ))

  -- ---- where none is

  pub undivided_put : (old new : Draft) → (IsDividing operator → HoldsNumber right.range (pos 0) → ⊥)
      → Puts question old new (BoundedHas question type (WideHas question.filter operator left (DivisorHas false question.filter right))) Itself
      → Puts question old new (CheckedHas question.filter operator type left right) Itself
  undivided_put old new never bounded =
      puts_as question old new (BoundedHas question type (WideHas question.filter operator left (DivisorHas false question.filter right))) (CheckedHas question.filter operator type left right) Itself Itself bounded
      (λ world o is has.
      let p =
      parts_free known operator type has.first has.second o
      (λ y at divides zero. never divides (subst (HoldsNumber right.range) zero (subst (IsNumberIn right.range) at has.within)))
      (fitted has.first has.left_fits) (fitted has.second has.right_fits) has.comes in (
        o,
        (p.wide, p.inside, (has.first, has.second, has.left_has, has.right_has, p.wide_given), p.inside_given, p.inner_given),
        λ x same. same,
      ))
