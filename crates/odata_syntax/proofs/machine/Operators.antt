-- The words after an operand, in one list: what each of them passes, every operator passes.
use Rattle.std.proofs.Common.{◌≡◌, refl, subst, sym, ◌∙◌, ℕ, List, [], ◌∷◌, Bool, true, false, cond, Option, Some, None, ◌⊎◌, inl, inr}
use Rattle.std.specs.Prelude.{codes}
use Rattle.std.specs.List.{list_all}
use Rattle.std.proofs.lemmas.Bool.{and_parts}
use Rattle.std.proofs.lemmas.Option.{same_Some}
use Rattle.odata_syntax.specs.declared.binary_operator.BinaryOperator.{BinaryOperator}
use Rattle.odata_syntax.specs.declared.binary_operator.LogicalOperator.{LogicalOperator}
use Rattle.odata_syntax.specs.declared.binary_operator.ComparisonOperator.{ComparisonOperator}
use Rattle.odata_syntax.specs.declared.binary_operator.ArithmeticOperator.{ArithmeticOperator}
use Rattle.odata_syntax.specs.declared.parser.next_operator.Next.{Next}
use Rattle.odata_syntax.specs.Lexeme.{operator_word, same_word}
use Rattle.odata_syntax.specs.private.Machine.{word_next}

unfoldable pub operators : List Next
operators =
    Next.Operator (BinaryOperator.Logical LogicalOperator.Or) ∷ Next.Operator (BinaryOperator.Logical LogicalOperator.And) ∷ Next.Operator (BinaryOperator.Comparison ComparisonOperator.Eq)
    ∷ Next.Operator (BinaryOperator.Comparison ComparisonOperator.Ne) ∷ Next.Operator (BinaryOperator.Comparison ComparisonOperator.Gt) ∷ Next.Operator (BinaryOperator.Comparison ComparisonOperator.Ge)
    ∷ Next.Operator (BinaryOperator.Comparison ComparisonOperator.Lt) ∷ Next.Operator (BinaryOperator.Comparison ComparisonOperator.Le) ∷ Next.Operator (BinaryOperator.Arithmetic ArithmeticOperator.Add)
    ∷ Next.Operator (BinaryOperator.Arithmetic ArithmeticOperator.Sub) ∷ Next.Operator (BinaryOperator.Arithmetic ArithmeticOperator.Mul) ∷ Next.Operator (BinaryOperator.Arithmetic ArithmeticOperator.Div)
    ∷ Next.Operator (BinaryOperator.Arithmetic ArithmeticOperator.Mod) ∷ Next.Has ∷ Next.In ∷ []

-- the word that says what stands after an operand
unfoldable pub next_word : Next → List ℕ
next_word (Next.Operator operator) = operator_word operator
next_word Next.Has = codes "has"
next_word Next.In = codes "in"
next_word Next.Close = []
next_word Next.Comma = []

-- the first whose word it is
unfoldable pub first_next : List Next → List ℕ → Option Next
first_next [] text = None
first_next (x ∷ xs) text = cond (same_word text (next_word x)) (Some x) (first_next xs text)

first_or_later : (b : Bool) (x y : Next) (later : Option Next) → cond b (Some x) later ≡ Some y → ((b ≡ true) × (x ≡ y)) ⊎ (later ≡ Some y)
first_or_later true x y later e = inl (refl, same_Some x y e)
first_or_later false x y later e = inr e

first_says : (xs : List Next) (text : List ℕ) (y : Next) → first_next xs text ≡ Some y → same_word text (next_word y) ≡ true
unfolding first_next
first_says [] text y e = absurd (cc)
first_says (x ∷ xs) text y e =
    elim (first_or_later (same_word text (next_word x)) x y (first_next xs text) e) [
      | inl here ↦ subst (λ (k : Next). same_word text (next_word k) ≡ true) here.1 here.0
      | inr later ↦ first_says xs text y later
    ]

first_passes : (test : Next → Bool) (xs : List Next) (text : List ℕ) (y : Next) → list_all test xs ≡ true → first_next xs text ≡ Some y → test y ≡ true
unfolding first_next
first_passes test [] text y all e = absurd (cc)
first_passes test (x ∷ xs) text y all e =
    let parts = and_parts (test x) (list_all test xs) all in
    elim (first_or_later (same_word text (next_word x)) x y (first_next xs text) e) [
      | inl here ↦ subst (λ (k : Next). test k ≡ true) here.1 parts.0
      | inr later ↦ first_passes test xs text y parts.1 later
    ]

pub word_next-first : (text : List ℕ) → word_next text ≡ first_next operators text
unfolding word_next first_next operators next_word
word_next-first text = refl

pub word_next_says : (text : List ℕ) (next : Next) → word_next text ≡ Some next → same_word text (next_word next) ≡ true
word_next_says text next e = first_says operators text next (sym (word_next-first text) ∙ e)

-- what each word passes, the one that is found passes
pub word_passes : (test : Next → Bool) → list_all test operators ≡ true → (text : List ℕ) (next : Next) → word_next text ≡ Some next → test next ≡ true
word_passes test all text next e = first_passes test operators text next all (sym (word_next-first text) ∙ e)

pub operator_next : (operator : BinaryOperator) → word_next (operator_word operator) ≡ Some (Next.Operator operator)
unfolding word_next
operator_next (BinaryOperator.Logical LogicalOperator.Or) = refl
operator_next (BinaryOperator.Logical LogicalOperator.And) = refl
operator_next (BinaryOperator.Comparison ComparisonOperator.Eq) = refl
operator_next (BinaryOperator.Comparison ComparisonOperator.Ne) = refl
operator_next (BinaryOperator.Comparison ComparisonOperator.Gt) = refl
operator_next (BinaryOperator.Comparison ComparisonOperator.Ge) = refl
operator_next (BinaryOperator.Comparison ComparisonOperator.Lt) = refl
operator_next (BinaryOperator.Comparison ComparisonOperator.Le) = refl
operator_next (BinaryOperator.Arithmetic ArithmeticOperator.Add) = refl
operator_next (BinaryOperator.Arithmetic ArithmeticOperator.Sub) = refl
operator_next (BinaryOperator.Arithmetic ArithmeticOperator.Mul) = refl
operator_next (BinaryOperator.Arithmetic ArithmeticOperator.Div) = refl
operator_next (BinaryOperator.Arithmetic ArithmeticOperator.Mod) = refl

-- and every operator
pub operator_passes : (test : Next → Bool) → list_all test operators ≡ true → (operator : BinaryOperator) → test (Next.Operator operator) ≡ true
operator_passes test all operator = word_passes test all (operator_word operator) (Next.Operator operator) (operator_next operator)
