-- Conditions that ask for one code: that of true, and that of false.
use Rattle.sql_forms.proofs.Common.{IsOfType, ◌≡◌, ◌↔◌, [], ◌∷◌, ℤ, pos, Bool, true, false, Some, refl, sym, subst, Val, boolean, whole, Outcome, gives, overflow, divides_by_zero, null, code_of, ComparisonOperator, StrictlyGives, SqlMeans, SqlNode, SqlType, Draft, Form, Grows, Has, IsWorldOf, Puts, Question, World, puts_leaf, puts_two}
use Rattle.sql_outcomes.specs.TrueWhere.{IsTrueWhere}
use Rattle.sql_forms.specs.Forms.{IsInForm}
use Rattle.sql_forms.specs.private.AskedForms.{IsAskedCode, asked_digit, asked_number}
use Rattle.sql_outcomes.specs.private.ValueForms.{Itself}
use Rattle.sql_outcomes.proofs.outcomes.Apart.{false_true, no_truth}
use Rattle.sql_outcomes.proofs.outcomes.FaultConditions.{Is, coded_val}
use Rattle.sql_outcomes.proofs.outcomes.ChainValues.{Code, is_by_zero, is_false, is_null, is_overflow, is_true}
use Rattle.sql_outcomes.proofs.outcomes.CodeTables.{Coded}
use Rattle.sql_outcomes.proofs.outcomes.Operators.{compare_means}

-- whether the code of the outcome is the number, where the fact holds
pub record HasCode (n : ℤ) (Fact : Type 0) (o : Outcome) : Type 0 where
  pub answer : Bool
  pub given : StrictlyGives ComparisonOperator.Eq (coded_val o) (whole n) (gives (boolean answer))
  pub reports : (Some answer ≡ Some true) ↔ Fact

-- a code that is another number, where the fact does not hold
no_code : (n : ℤ) (Fact : Type 0) (o : Outcome) → (pos (code_of o) ≡ n → ⊥) → (Fact → ⊥) → HasCode n Fact o
no_code n Fact o other none = record {
  answer = false;
  given = (tt, (λ is. absurd (no_truth is), λ same. absurd (other same)));
  reports = (λ is. absurd (false_true is), λ fact. absurd (none fact));
}

true_code : (o : Outcome) → Code o → HasCode (pos 1) (o ≡ gives (boolean true)) o
true_code _ is_true = record { answer = true; given = (tt, (λ is. refl, λ same. refl)); reports = (λ is. refl, λ fact. refl) }
true_code _ is_false = no_code (pos 1) (gives (boolean false) ≡ gives (boolean true)) (gives (boolean false)) (λ same. let e : pos 0 ≡ pos 1 = same in cc) (λ fact. cc)
true_code _ is_null = no_code (pos 1) (gives null ≡ gives (boolean true)) (gives null) (λ same. let e : pos 2 ≡ pos 1 = same in cc) (λ fact. cc)
true_code _ is_overflow = no_code (pos 1) (overflow ≡ gives (boolean true)) overflow (λ same. let e : pos 3 ≡ pos 1 = same in cc) (λ fact. cc)
true_code _ is_by_zero = no_code (pos 1) (divides_by_zero ≡ gives (boolean true)) divides_by_zero (λ same. let e : pos 4 ≡ pos 1 = same in cc) (λ fact. cc)

false_code : (o : Outcome) → Code o → HasCode (pos 0) (o ≡ gives (boolean false)) o
false_code _ is_false = record { answer = true; given = (tt, (λ is. refl, λ same. refl)); reports = (λ is. refl, λ fact. refl) }
false_code _ is_true = no_code (pos 0) (gives (boolean true) ≡ gives (boolean false)) (gives (boolean true)) (λ same. let e : pos 1 ≡ pos 0 = same in cc) (λ fact. cc)
false_code _ is_null = no_code (pos 0) (gives null ≡ gives (boolean false)) (gives null) (λ same. let e : pos 2 ≡ pos 0 = same in cc) (λ fact. cc)
false_code _ is_overflow = no_code (pos 0) (overflow ≡ gives (boolean false)) overflow (λ same. let e : pos 3 ≡ pos 0 = same in cc) (λ fact. cc)
false_code _ is_by_zero = no_code (pos 0) (divides_by_zero ≡ gives (boolean false)) divides_by_zero (λ same. let e : pos 4 ≡ pos 0 = same in cc) (λ fact. cc)

abbrev Fact : Form → Outcome → Type 0
Fact Form.Denies o = o ≡ gives (boolean false)
Fact form o = o ≡ gives (boolean true)

code_of_form : (form : Form) → IsAskedCode form → (o : Outcome) → Code o → HasCode (asked_number form) (Fact form o) o
code_of_form Form.Keeps is o code = true_code o code
code_of_form Form.Denies is o code = false_code o code
code_of_form form is o code = absurd is

in_form : (form : Form) → IsAskedCode form → (o x : Outcome) → IsTrueWhere (Fact form o) x → IsInForm form o x
in_form Form.Keeps is o x where_so = where_so
in_form Form.Denies is o x where_so = where_so
in_form form is o x where_so = absurd is

-- a node is true, or false, where its code is the one that the form asks for
pub code_condition : (question : Question) (form : Form) → IsAskedCode form → (Node : Has) (old middle next new : Draft) → Grows old middle (SqlNode.Compare ComparisonOperator.Eq SqlType.Whole ∷ [])
    → Puts question middle next Node Coded → Grows next new (SqlNode.Number (asked_digit form) ∷ []) → ((world : World) (o : Outcome) → IsWorldOf question new world → Node world o → Code o)
    → Puts question old new Node (IsInForm form)
code_condition question form asked_form Node old middle next new grows code number codes =
    puts_two question (SqlNode.Compare ComparisonOperator.Eq SqlType.Whole) refl (λ x y z. (l : Val) × (r : Val) × (x ≡ gives l) × (y ≡ gives r) × IsOfType SqlType.Whole l × IsOfType SqlType.Whole r × StrictlyGives ComparisonOperator.Eq l r z) old middle next new Node
    (Is (gives (whole (asked_number form)))) Node Coded Itself (IsInForm form)
    (λ asked bound a b x y z first second op. compare_means asked bound ComparisonOperator.Eq SqlType.Whole a b op.0 op.1 z op.4 op.5 (subst (SqlMeans asked bound a) op.2 first) (subst (SqlMeans asked bound b) op.3 second) op.6)
    grows code
    (puts_leaf question (SqlNode.Number (asked_digit form)) refl next new (Is (gives (whole (asked_number form)))) Itself number (λ world o is has. (gives (whole (asked_number form)), refl, sym has)))
    (λ world o is has.
    let h = code_of_form form asked_form o (codes world o is has) in (
      o,
      gives (whole (asked_number form)),
      has,
      refl,
      λ x y one two. (
        gives (boolean h.answer),
        (coded_val o, whole (asked_number form), one, two, tt, tt, h.given),
        in_form form asked_form o (gives (boolean h.answer)) (Some h.answer, refl, h.reports),
      ),
    ))
