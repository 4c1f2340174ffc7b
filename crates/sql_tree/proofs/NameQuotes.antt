-- Names with doubled quotes.
use Rattle.std.proofs.Common.{◌≡◌, ◌≢◌, inl, inr, ℕ, suc, ◌<◌, List, [], ◌∷◌, ◌++◌, length, get_or, arith, refl, sym, ◌∙◌, ap, append_assoc}
use Rattle.std.proofs.lemmas.Bool.Decides.{eqb_tells}
use Rattle.sql_tree.specs.QuotedName.{name_quote, with_doubled_name_quotes}

-- a name without quotes is not changed
pub plain_name : (name : List ℕ) → ((i : ℕ) → i < length name → get_or name i 0 ≢ name_quote) → with_doubled_name_quotes name ≡ name
plain_name [] plain = refl
plain_name (c ∷ cs) plain =
    elim (eqb_tells c 34) [
      | inl same ↦ absurd (plain 0 (omega arith) same.1)
      | inr other ↦ rw other.0 (ap (λ (xs : List ℕ). c ∷ xs) (plain_name cs (λ i below. plain (suc i) (omega arith))))
    ]

pub name_append : (xs ys : List ℕ)
    → with_doubled_name_quotes (xs ++ ys) ≡ with_doubled_name_quotes xs ++ with_doubled_name_quotes ys
name_append [] ys = refl
name_append (c ∷ cs) ys =
    elim (eqb_tells c 34) [
      | inl same ↦ rw (same.0, name_append cs ys) refl
      | inr other ↦ rw (other.0, name_append cs ys) refl
    ]

-- one more quote is written
pub one_quoted : (all written piece behind rest next last : List ℕ) → ((i : ℕ) → i < length piece → get_or piece i 0 ≢ name_quote)
    → rest ≡ piece ++ (34 ∷ behind) → all ≡ written ++ with_doubled_name_quotes rest → next ≡ written ++ piece → last ≡ next ++ (34 ∷ 34 ∷ [])
    → all ≡ last ++ with_doubled_name_quotes behind
one_quoted all written piece behind rest next last plain cut same is_next is_last =
    let e : with_doubled_name_quotes rest ≡ piece ++ (34 ∷ 34 ∷ with_doubled_name_quotes behind) =
    ap with_doubled_name_quotes cut ∙ name_append piece (34 ∷ behind)
    ∙ ap (λ (xs : List ℕ). xs ++ (34 ∷ 34 ∷ with_doubled_name_quotes behind)) (plain_name piece plain) in
    same ∙ ap (λ (xs : List ℕ). written ++ xs) e
    ∙ sym (ap (λ (xs : List ℕ). xs ++ with_doubled_name_quotes behind) (is_last ∙ ap (λ (xs : List ℕ). xs ++ (34 ∷ 34 ∷ [])) is_next) ∙ simp append_assoc)

-- the rest and the last quote are written
pub last_quoted : (all written rest next last : List ℕ) → ((i : ℕ) → i < length rest → get_or rest i 0 ≢ name_quote)
    → all ≡ written ++ with_doubled_name_quotes rest → next ≡ written ++ rest → last ≡ next ++ (34 ∷ []) → last ≡ all ++ (34 ∷ [])
last_quoted all written rest next last plain same is_next is_last =
    is_last ∙ ap (λ (xs : List ℕ). xs ++ (34 ∷ [])) (is_next ∙ ap (λ (xs : List ℕ). written ++ xs) (sym (plain_name rest plain)) ∙ sym same)
