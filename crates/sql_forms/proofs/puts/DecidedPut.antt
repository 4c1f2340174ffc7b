-- Chains put in parts: a front and the rest, joined by a node, and chains that are asked by their code.
use Rattle.sql_forms.proofs.Common.{◌≡◌, ◌<◌, ◌++◌, ◌∷◌, ◌∙◌, [], ℕ, suc, List, Some, length, refl, sym, ap, subst, append-nil, arith, slice_get, AllByRecursion, Range, ComparisonOperator, LogicalOperator, SqlNode, SqlType, Draft, Form, ChainHas, IsJoin, IsOfBoth, IsOfValues, Grows, AreRanges, IsFaultless, OfPlace, Puts, Question}
use Rattle.sql_forms.specs.Forms.{IsInForm}
use Rattle.sql_forms.specs.private.AskedForms.{IsAskedCode, asked_digit}
use Rattle.sql_outcomes.proofs.outcomes.ChainValues.{Code, chained_code, code_in}
use Rattle.sql_forms.proofs.puts.ChainsPut.{TableLaws, Valued, faultless_valued, joined_put, single_chain}
use Rattle.sql_forms.proofs.puts.CodeConditions.{code_condition}
use Rattle.sql_outcomes.proofs.outcomes.Elements.{none_left}

-- ---- lists of indices

-- what holds of each by its index
pub all_by_index : (P : ℕ → Type 0) (xs : List ℕ) → ((k x : ℕ) → k < length xs → slice_get xs k ≡ Some x → P x) → AllByRecursion P xs
all_by_index P [] each = tt
all_by_index P (x ∷ xs) each = (each 0 x (omega arith) refl, all_by_index P xs (λ k y below at. each (suc k) y (omega (arith, below)) at))

pub without_rest : (xs ys whole : List ℕ) → whole ≡ xs ++ ys → length ys ≡ 0 → whole ≡ xs
without_rest xs ys whole is none = is ∙ ap (λ (zs : List ℕ). xs ++ zs) (none_left ys none) ∙ append-nil xs

pub without_front : (xs ys whole : List ℕ) → whole ≡ xs ++ ys → length xs ≡ 0 → whole ≡ ys
without_front xs ys whole is none = is ∙ ap (λ (zs : List ℕ). zs ++ ys) (none_left xs none)

-- ---- forms

-- ---- what is put

module _ (question : Question) (ranges : List Range) (are : AreRanges question ranges) (laws : TableLaws) (form : Form) (join : SqlNode) (c : LogicalOperator) (is_join : IsJoin form join c) where
  valued : (places : List ℕ) → AllByRecursion (IsFaultless ranges) places → Valued question laws form join c is_join places
  valued places faultless = λ world first more seen have.
      let all = faultless_valued question ranges are places faultless world (first ∷ more) seen have in
      (all.0, all.1)

  -- a front of terms that evaluate to no fault, and the rest
  pub lists_put : (front rest : List ℕ) (old middle next new : Draft) → 0 < length front → 0 < length rest → (IsOfValues form join → AllByRecursion (IsFaultless ranges) front)
      → (IsOfBoth form → AllByRecursion (IsFaultless ranges) rest) → Grows old middle (join ∷ []) → Puts question middle next (ChainHas question.filter c front) (IsInForm form)
      → Puts question next new (ChainHas question.filter c rest) (IsInForm form) → Puts question old new (ChainHas question.filter c (front ++ rest)) (IsInForm form)
  lists_put [] rest old middle next new some more front_plain rest_plain grows first second = absurd (omega (arith, some))
  lists_put (p ∷ front) [] old middle next new some more front_plain rest_plain grows first second = absurd (omega (arith, more))
  lists_put (p ∷ front) (q ∷ rest) old middle next new some more front_plain rest_plain grows first second =
      joined_put question laws form join c is_join p front q rest old middle next new (λ of_values. valued (p ∷ front) (front_plain of_values)) (λ of_both. valued (q ∷ rest) (rest_plain of_both)) grows first second

-- a chain that is asked by its code
pub undecided_put : (question : Question) (form : Form) (c : LogicalOperator) → IsAskedCode form → (terms : List ℕ) (old middle next new : Draft)
    → Grows old middle (SqlNode.Compare ComparisonOperator.Eq SqlType.Whole ∷ []) → Puts question middle next (ChainHas question.filter c terms) (IsInForm Form.Code)
    → Grows next new (SqlNode.Number (asked_digit form) ∷ []) → Puts question old new (ChainHas question.filter c terms) (IsInForm form)
undecided_put question form c asked terms old middle next new grows code number =
    code_condition question form asked (ChainHas question.filter c terms) old middle next new grows code number
    (λ world o is has. subst Code (sym has.is) (chained_code c has.first has.rest (code_in has.first has.coded.0) has.coded.1))

-- a chain whose one term is put
pub alone_put : (question : Question) (form : Form) (c : LogicalOperator) (terms : List ℕ) (place : ℕ) (old new : Draft) → terms ≡ place ∷ [] → Puts question old new (OfPlace question.filter place) (IsInForm form)
    → Puts question old new (ChainHas question.filter c terms) (IsInForm form)
alone_put question form c terms place old new is inner =
    subst (λ (ts : List ℕ). Puts question old new (ChainHas question.filter c ts) (IsInForm form)) (sym is) (single_chain question form c place old new inner)
