-- The condition that is true exactly where a filter evaluates to a fault: its code is at least 3.
use Rattle.sql_outcomes.proofs.Common.{null, IsOfType, ◌≡◌, ◌⊎◌, ◌↔◌, inl, inr, [], ◌∷◌, ℤ, pos, ◌<ℤ◌, Bool, true, false, Some, refl, sym, subst, arith, ints, Val, boolean, whole, Outcome, gives, ComparisonOperator, code_of, StrictlyGives, SqlMeans, Digit, SqlNode, SqlType, IsFault, Draft, Grows, Has, IsWorldOf, Puts, Question, World, puts_leaf, puts_two}
use Rattle.sql_outcomes.specs.TrueWhere.{IsTrueWhere}
use Rattle.sql_outcomes.specs.private.ValueForms.{Itself}
use Rattle.sql_outcomes.proofs.outcomes.Apart.{false_true, no_truth}
use Rattle.sql_outcomes.proofs.outcomes.ChainValues.{Code, is_by_zero, is_false, is_null, is_overflow, is_true}
use Rattle.sql_outcomes.proofs.outcomes.CodeTables.{Coded}
use Rattle.sql_outcomes.proofs.outcomes.Operators.{compare_means}

-- an outcome that is that one
abbrev pub Is : Outcome → Has
Is p world o = o ≡ p

below_3 : (c : ℤ) → c <ℤ pos 3 → (pos 3 <ℤ c) ⊎ (c ≡ pos 3) → ⊥
below_3 c below (inl above) = omega (arith, ints, below, above)
below_3 c below (inr same) = omega (arith, ints, below, same)

-- the code of the outcome, as a value
abbrev pub coded_val : Outcome → Val
coded_val o = whole (pos (code_of o))

-- whether the code of the outcome is at least 3
pub record AtLeast3 (o : Outcome) : Type 0 where
  pub answer : Bool
  pub given : StrictlyGives ComparisonOperator.Ge (coded_val o) (whole (pos 3)) (gives (boolean answer))
  pub reports : (Some answer ≡ Some true) ↔ IsFault o

less_than_3 : (o : Outcome) → (IsFault o → ⊥) → pos (code_of o) <ℤ pos 3 → AtLeast3 o
less_than_3 o none below = record {
  answer = false;
  given = (tt, (λ is. absurd (no_truth is), λ fact. absurd (below_3 (pos (code_of o)) below fact)));
  reports = (λ is. absurd (false_true is), λ fault. absurd (none fault));
}

pub at_least_3 : (o : Outcome) → Code o → AtLeast3 o
at_least_3 _ is_false = less_than_3 (gives (boolean false)) (λ fault. fault) (omega (arith, ints))
at_least_3 _ is_true = less_than_3 (gives (boolean true)) (λ fault. fault) (omega (arith, ints))
at_least_3 _ is_null = less_than_3 (gives null) (λ fault. fault) (omega (arith, ints))
at_least_3 _ is_overflow = record { answer = true; given = (tt, (λ is. inr refl, λ fact. refl)); reports = (λ is. tt, λ fault. refl) }
at_least_3 _ is_by_zero = record { answer = true; given = (tt, (λ is. inl (omega (arith, ints)), λ fact. refl)); reports = (λ is. tt, λ fault. refl) }

-- that of a filter's node
pub fault_condition : (question : Question) (Node : Has) (old middle next new : Draft) → Grows old middle (SqlNode.Compare ComparisonOperator.Ge SqlType.Whole ∷ []) → Puts question middle next Node Coded
    → Grows next new (SqlNode.Number Digit.Three ∷ []) → ((world : World) (o : Outcome) → IsWorldOf question new world → Node world o → Code o) → Puts question old new Node (λ o x. IsTrueWhere (IsFault o) x)
fault_condition question Node old middle next new grows code number codes =
    puts_two question (SqlNode.Compare ComparisonOperator.Ge SqlType.Whole) refl (λ x y z. (l : Val) × (r : Val) × (x ≡ gives l) × (y ≡ gives r) × IsOfType SqlType.Whole l × IsOfType SqlType.Whole r × StrictlyGives ComparisonOperator.Ge l r z) old middle next new Node
    (Is (gives (whole (pos 3)))) Node Coded Itself (λ o x. IsTrueWhere (IsFault o) x)
    (λ asked bound a b x y z first second op. compare_means asked bound ComparisonOperator.Ge SqlType.Whole a b op.0 op.1 z op.4 op.5 (subst (SqlMeans asked bound a) op.2 first) (subst (SqlMeans asked bound b) op.3 second) op.6)
    grows code (puts_leaf question (SqlNode.Number Digit.Three) refl next new (Is (gives (whole (pos 3)))) Itself number (λ world o is has. (gives (whole (pos 3)), refl, sym has)))
    (λ world o is has.
    let a = at_least_3 o (codes world o is has) in (
      o,
      gives (whole (pos 3)),
      has,
      refl,
      λ x y one two. (gives (boolean a.answer), (coded_val o, whole (pos 3), one, two, tt, tt, a.given), (Some a.answer, refl, a.reports)),
    ))
