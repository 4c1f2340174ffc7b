-- Arithmetic that evaluates to no fault.
use Rattle.sql_forms.proofs.Common.{◌≡◌, [], ◌∷◌, ℤ, Option, Some, None, Result, Ok, Err, refl, ap, subst, ◌∙◌, whole, PrimitiveType, ComputesTo, number_outcome, number_val, Outcome, GivesSome, gives, ArithmeticGives, ArithFault, Overflow, DivideByZero, ArithmeticOperator, NeverFaults, BothNumbers, GivesWithin64, NodeMeans, SqlMeans, Asked, Bound, Term, no_terms, more_terms, SqlNode, Draft, Operand, CheckedHas, IsFitted, IsNumberIn, PlainHas, Grows, OperandHas, Puts, Question, World, puts_two}
use Rattle.sql_outcomes.specs.private.ValueForms.{Itself}
use Rattle.sql_outcomes.proofs.outcomes.Apart.{no_number}
use Rattle.sql_outcomes.proofs.outcomes.Operators.{plain_means}
use Rattle.sql_outcomes.proofs.nodes.ArithmeticNodes.{number_fits}

plain_node : (operator : ArithmeticOperator) (asked : Asked) (bound : Bound) (a b : Term) (x y z : Outcome) → SqlMeans asked bound a x → SqlMeans asked bound b y
    → (m : Option ℤ) × (n : Option ℤ) × (x ≡ gives (number_val m)) × (y ≡ gives (number_val n)) × BothNumbers m n (GivesWithin64 operator) z
    → NodeMeans asked bound (SqlNode.Plain operator) (more_terms a (more_terms b no_terms)) z
plain_node operator asked bound a b x y z first second op =
    plain_means asked bound operator a b op.0 op.1 z (subst (SqlMeans asked bound a) op.2 first) (subst (SqlMeans asked bound b) op.3 second) op.4

module _ (question : Question) (operator : ArithmeticOperator) (type : PrimitiveType) (left right : Operand) where
  -- a number within its type, where no fault comes
  of_answer : (x y : ℤ) (r : Outcome) (answer : Result (Option ℤ) ArithFault) → ArithmeticGives operator type (Some x) (Some y) answer → r ≡ number_outcome answer
      → GivesSome (λ v. Unit {0}) r → GivesWithin64 operator x y r
  of_answer x y r (Ok (Some m)) given is some =
      let value : m ≡ given.0 = cc given.2.0 in
      (given.0, given.1, number_fits type given.0 given.2.1, is ∙ ap (λ (z : ℤ). gives (whole z)) value)
  of_answer x y r (Ok None) given is some = absurd (no_number given.0 given.2.0)
  of_answer x y r (Err Overflow) given is some = absurd (subst (GivesSome (λ v. Unit {0})) is some)
  of_answer x y r (Err DivideByZero) given is some = absurd (subst (GivesSome (λ v. Unit {0})) is some)

  both : NeverFaults operator type left.range right.range → (m k : Option ℤ) (r : Outcome) → IsNumberIn left.range m → IsNumberIn right.range k → ComputesTo operator type m k r
      → BothNumbers m k (GivesWithin64 operator) r
  both never None k r m_within k_within comes = comes.2 ∙ ap number_outcome comes.1
  both never (Some x) None r m_within k_within comes = comes.2 ∙ ap number_outcome comes.1
  both never (Some x) (Some y) r m_within k_within comes = of_answer x y r comes.0 comes.1 comes.2 (never (whole x) (whole y) r m_within k_within comes)

  pub plain_of : (first second : Operand) → NeverFaults operator type left.range right.range → (world : World) (m k : Option ℤ) (r : Outcome) → OperandHas question.filter first world (gives (number_val m))
      → OperandHas question.filter second world (gives (number_val k)) → IsFitted m → IsFitted k → IsNumberIn left.range m → IsNumberIn right.range k → IsNumberIn second.range k
      → ComputesTo operator type m k r → PlainHas question.filter operator first second world r
  plain_of first second never world m k r left_has right_has m_fits k_fits m_within k_within within comes = (m, k, left_has, right_has, both never m k r m_within k_within comes)

  pub checked_of : (first second : Operand) (world : World) (m k : Option ℤ) (r : Outcome) → OperandHas question.filter first world (gives (number_val m))
      → OperandHas question.filter second world (gives (number_val k)) → IsFitted m → IsFitted k → IsNumberIn left.range m → IsNumberIn right.range k → IsNumberIn second.range k
      → ComputesTo operator type m k r → CheckedHas question.filter operator type first second world r
  checked_of first second world m k r left_has right_has m_fits k_fits m_within k_within within comes = record {
    first = m;
    second = k;
    left_has = left_has;
    right_has = right_has;
    left_fits = m_fits;
    right_fits = k_fits;
    within = within;
    comes = comes;
  }

module _ (question : Question) where
  pub plain_put : (operator : ArithmeticOperator) (left right : Operand) (old middle next new : Draft) → Grows old middle (SqlNode.Plain operator ∷ [])
      → Puts question middle next (OperandHas question.filter left) Itself → Puts question next new (OperandHas question.filter right) Itself → Puts question old new (PlainHas question.filter operator left right) Itself
  plain_put operator left right old middle next new grows first second =
      puts_two question (SqlNode.Plain operator) refl
      (λ x y z. (m : Option ℤ) × (n : Option ℤ) × (x ≡ gives (number_val m)) × (y ≡ gives (number_val n)) × BothNumbers m n (GivesWithin64 operator) z) old middle next new
      (OperandHas question.filter left) (OperandHas question.filter right) (PlainHas question.filter operator left right) Itself Itself Itself (plain_node operator) grows first second
      (λ world o is has. (
        gives (number_val has.0),
        gives (number_val has.1),
        has.2,
        has.3,
        λ x y one two. (o, (has.0, has.1, one, two, has.4), refl),
      ))
