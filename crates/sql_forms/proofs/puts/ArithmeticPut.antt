-- What is put for arithmetic that may leave its type or divide by 0.
use Rattle.sql_forms.proofs.puts.OperandsPut.{number_typed}
use Rattle.sql_forms.proofs.Common.{IsOfType, ◌≡◌, [], ◌∷◌, ℤ, pos, Bool, Option, refl, sym, subst, ◌∙◌, Val, null, whole, PrimitiveType, number_val, Outcome, gives, overflow, divides_by_zero, not3, ArithFault, Overflow, DivideByZero, ArithmeticOperator, ComparisonOperator, outcome_of_fault, BothNumbers, ChoiceGives, GivesInRange, GivesWhole, StrictlyGives, truth, NodeMeans, SqlMeans, Asked, Bound, Term, no_terms, more_terms, Digit, Carrier, SqlNode, SqlType, Draft, Operand, UnlessZeroHas, WideHas, ZeroHas, Grows, OperandHas, Has, Puts, Question, puts_leaf, puts_one, puts_three, puts_two}
use Rattle.sql_outcomes.specs.private.ValueForms.{Itself}
use Rattle.sql_forms.proofs.puts.ComparisonsPut.{not_node}
use Rattle.sql_outcomes.proofs.outcomes.Operators.{case_means, compare_means, wide_means, within_means}
use Rattle.sql_outcomes.proofs.outcomes.FaultConditions.{Is}

pub case_node : (asked : Asked) (bound : Bound) (a b c : Term) (x y z w : Outcome) → SqlMeans asked bound a x → SqlMeans asked bound b y → SqlMeans asked bound c z
    → (t : Option Bool) × (x ≡ truth t) × ChoiceGives t y z w → NodeMeans asked bound SqlNode.Case (more_terms a (more_terms b (more_terms c no_terms))) w
case_node asked bound a b c x y z w first second third op = case_means asked bound a b c op.0 y z w (subst (SqlMeans asked bound a) op.1 first) second third op.2

wide_node : (operator : ArithmeticOperator) (asked : Asked) (bound : Bound) (a b : Term) (x y z : Outcome) → SqlMeans asked bound a x → SqlMeans asked bound b y
    → (m : Option ℤ) × (n : Option ℤ) × (x ≡ gives (number_val m)) × (y ≡ gives (number_val n)) × BothNumbers m n (GivesWhole operator) z
    → NodeMeans asked bound (SqlNode.Wide operator) (more_terms a (more_terms b no_terms)) z
wide_node operator asked bound a b x y z first second op =
    wide_means asked bound operator a b op.0 op.1 z (subst (SqlMeans asked bound a) op.2 first) (subst (SqlMeans asked bound b) op.3 second) op.4

within_node : (type : PrimitiveType) (asked : Asked) (bound : Bound) (a : Term) (x y : Outcome) → SqlMeans asked bound a x → (n : Option ℤ) × (x ≡ gives (number_val n)) × GivesInRange type n y
    → NodeMeans asked bound (SqlNode.Within type) (more_terms a no_terms) y
within_node type asked bound a x y first op = within_means asked bound type a op.0 y (subst (SqlMeans asked bound a) op.1 first) op.2

zero_node : (asked : Asked) (bound : Bound) (a b : Term) (x y z : Outcome) → SqlMeans asked bound a x → SqlMeans asked bound b y
    → (l : Val) × (r : Val) × (x ≡ gives l) × (y ≡ gives r) × IsOfType SqlType.Whole l × IsOfType SqlType.Whole r × StrictlyGives ComparisonOperator.Eq l r z
    → NodeMeans asked bound (SqlNode.Compare ComparisonOperator.Eq SqlType.Whole) (more_terms a (more_terms b no_terms)) z
zero_node asked bound a b x y z first second op =
    compare_means asked bound ComparisonOperator.Eq SqlType.Whole a b op.0 op.1 z op.4 op.5 (subst (SqlMeans asked bound a) op.2 first) (subst (SqlMeans asked bound b) op.3 second) op.6

module _ (question : Question) where
  pub fault_put : (fault : ArithFault) (p : Outcome) (old new : Draft) → Grows old new (SqlNode.Fault Carrier.Number fault ∷ []) → outcome_of_fault fault ≡ p → Puts question old new (Is p) Itself
  fault_put Overflow p old new grows is = puts_leaf question (SqlNode.Fault Carrier.Number Overflow) refl old new (Is p) Itself grows (λ world o w has. (overflow, refl, is ∙ sym has))
  fault_put DivideByZero p old new grows is = puts_leaf question (SqlNode.Fault Carrier.Number DivideByZero) refl old new (Is p) Itself grows (λ world o w has. (divides_by_zero, refl, is ∙ sym has))

  -- ---- a number that may leave its type

  -- a number or null of any size, whether it lies within the type, and what comes of that
  abbrev pub BoundedHas : PrimitiveType → Has → Has
  BoundedHas type Wide world o =
      (n : Option ℤ) × (inside : Option Bool) × Wide world (gives (number_val n)) × GivesInRange type n (truth inside) × ChoiceGives (not3 inside) overflow (gives (number_val n)) o

  -- whether it lies within
  abbrev InsideHas : PrimitiveType → Has → Has
  InsideHas type Wide world o = (n : Option ℤ) × Wide world (gives (number_val n)) × GivesInRange type n o

  pub bounded_put : (type : PrimitiveType) (Wide : Has) (old first second third fourth fifth new : Draft) → Grows old first (SqlNode.Case ∷ []) → Grows first second (SqlNode.Not ∷ [])
      → Grows second third (SqlNode.Within type ∷ []) → Puts question third fourth Wide Itself → Puts question fourth fifth (Is overflow) Itself → Puts question fifth new Wide Itself
      → Puts question old new (BoundedHas type Wide) Itself
  bounded_put type Wide old first second third fourth fifth new case_grows not_grows within_grows wide fault again =
      puts_three question SqlNode.Case refl (λ x y z w. (t : Option Bool) × (x ≡ truth t) × ChoiceGives t y z w) old first fourth fifth new OutsideHas (Is overflow) Wide (BoundedHas type Wide) Itself Itself Itself Itself
      case_node case_grows outside fault again
      (λ world o is has. (
        truth (not3 has.1),
        overflow,
        gives (number_val has.0),
        (has.1, (has.0, has.2, has.3), refl),
        refl,
        has.2,
        λ x y z one two three. (
          o,
          (not3 has.1, one, subst (λ (q : Outcome). ChoiceGives (not3 has.1) q z o) (sym two) (subst (λ (q : Outcome). ChoiceGives (not3 has.1) overflow q o) (sym three) has.4)),
          refl,
        ),
      ))
    where
      OutsideHas : Has
      OutsideHas = λ world o. (inside : Option Bool) × InsideHas type Wide world (truth inside) × (o ≡ truth (not3 inside))

      inside : Puts question second fourth (InsideHas type Wide) Itself
      inside =
          puts_one question (SqlNode.Within type) refl (λ x y. (n : Option ℤ) × (x ≡ gives (number_val n)) × GivesInRange type n y) second third fourth Wide (InsideHas type Wide) Itself Itself (within_node type) within_grows wide
          (λ world o is has. (gives (number_val has.0), has.1, λ x same. (o, (has.0, same, has.2), refl)))

      outside : Puts question first fourth OutsideHas Itself
      outside =
          puts_one question SqlNode.Not refl (λ x y. (t : Option Bool) × (x ≡ truth t) × (y ≡ truth (not3 t))) first second fourth (InsideHas type Wide) OutsideHas Itself Itself not_node not_grows inside
          (λ world o is has. (truth has.0, has.1, λ x same. (truth (not3 has.0), (has.0, same, refl), sym has.2)))

  -- ---- a divisor that may be 0

  pub zero_asked : (operand : Operand) (old middle next new : Draft) → Grows old middle (SqlNode.Compare ComparisonOperator.Eq SqlType.Whole ∷ [])
      → Puts question middle next (OperandHas question.filter operand) Itself → Grows next new (SqlNode.Number Digit.Zero ∷ []) → Puts question old new (ZeroHas question.filter operand) Itself
  zero_asked operand old middle next new grows put number =
      puts_two question (SqlNode.Compare ComparisonOperator.Eq SqlType.Whole) refl (λ x y z. (l : Val) × (r : Val) × (x ≡ gives l) × (y ≡ gives r) × IsOfType SqlType.Whole l × IsOfType SqlType.Whole r × StrictlyGives ComparisonOperator.Eq l r z) old middle next new
      (OperandHas question.filter operand) (Is (gives (whole (pos 0)))) (ZeroHas question.filter operand) Itself Itself Itself zero_node grows put
      (puts_leaf question (SqlNode.Number Digit.Zero) refl next new (Is (gives (whole (pos 0)))) Itself number (λ world o is has. (gives (whole (pos 0)), refl, sym has)))
      (λ world o is has. (
        gives (number_val has.0),
        gives (whole (pos 0)),
        has.1,
        refl,
        λ x y one two. (o, (number_val has.0, whole (pos 0), one, two, number_typed has.0, tt, has.2), refl),
      ))

  pub divisor_put : (operand : Operand) (type : SqlType) (old first second third new : Draft) → Grows old first (SqlNode.Case ∷ []) → Puts question first second (ZeroHas question.filter operand) Itself
      → Grows second third (SqlNode.Null type ∷ []) → Puts question third new (OperandHas question.filter operand) Itself → Puts question old new (UnlessZeroHas question.filter operand) Itself
  divisor_put operand type old first second third new grows zero none put =
      puts_three question SqlNode.Case refl (λ x y z w. (t : Option Bool) × (x ≡ truth t) × ChoiceGives t y z w) old first second third new (ZeroHas question.filter operand) (Is (gives null)) (OperandHas question.filter operand)
      (UnlessZeroHas question.filter operand) Itself Itself Itself Itself case_node grows zero
      (puts_leaf question (SqlNode.Null type) refl second third (Is (gives null)) Itself none (λ world o is has. (gives null, refl, sym has))) put
      (λ world o is has. (
        truth has.1,
        gives null,
        gives (number_val has.0),
        (has.0, has.2, has.3),
        refl,
        has.2,
        λ x y z one two three. (
          o,
          (has.1, one, subst (λ (q : Outcome). ChoiceGives has.1 q z o) (sym two) (subst (λ (q : Outcome). ChoiceGives has.1 (gives null) q o) (sym three) has.4)),
          refl,
        ),
      ))

  -- ---- the number that the operator makes

  pub wide_put : (operator : ArithmeticOperator) (left : Operand) (Divisor : Has) (old middle next new : Draft) → Grows old middle (SqlNode.Wide operator ∷ [])
      → Puts question middle next (OperandHas question.filter left) Itself → Puts question next new Divisor Itself → Puts question old new (WideHas question.filter operator left Divisor) Itself
  wide_put operator left Divisor old middle next new grows put divisor =
      puts_two question (SqlNode.Wide operator) refl
      (λ x y z. (m : Option ℤ) × (n : Option ℤ) × (x ≡ gives (number_val m)) × (y ≡ gives (number_val n)) × BothNumbers m n (GivesWhole operator) z) old middle next new
      (OperandHas question.filter left) Divisor (WideHas question.filter operator left Divisor) Itself Itself Itself (wide_node operator) grows put divisor
      (λ world o is has. (
        gives (number_val has.0),
        gives (number_val has.1),
        has.2,
        has.3,
        λ x y one two. (o, (has.0, has.1, one, two, has.4), refl),
      ))
