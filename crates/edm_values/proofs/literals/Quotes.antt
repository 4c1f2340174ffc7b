-- Texts with doubled quotes.
use Rattle.std.proofs.Common.{◌≡◌, ◌≢◌, inl, inr, ℕ, suc, ◌<◌, List, [], ◌∷◌, ◌++◌, length, get_or, arith, refl, sym, ◌∙◌, ap, append_assoc, append-nil, Option, Some, None, IfSome, IfNone, Bor}
use Rattle.std.specs.Option.{MatchOption}
use Rattle.std.proofs.lemmas.Bool.Decides.{eqb_tells}
use Rattle.std.proofs.lemmas.List.{same_from_push}
use Rattle.edm_values.specs.StringLiteral.{quote, with_doubled_quotes, StringValue}

-- a text without quotes is not changed
pub with_doubled_quotes-plain : (text : List ℕ) → ((i : ℕ) → i < length text → get_or text i 0 ≢ quote) → with_doubled_quotes text ≡ text
with_doubled_quotes-plain [] plain = refl
with_doubled_quotes-plain (c ∷ cs) plain =
    elim (eqb_tells c 39) [
      | inl same ↦ absurd (plain 0 (omega arith) same.1)
      | inr other ↦ rw other.0 (ap (λ (xs : List ℕ). c ∷ xs) (with_doubled_quotes-plain cs (λ i below. plain (suc i) (omega arith))))
    ]

pub with_doubled_quotes-append : (xs ys : List ℕ) → with_doubled_quotes (xs ++ ys) ≡ with_doubled_quotes xs ++ with_doubled_quotes ys
with_doubled_quotes-append [] ys = refl
with_doubled_quotes-append (c ∷ cs) ys =
    elim (eqb_tells c 39) [
      | inl same ↦ rw (same.0, with_doubled_quotes-append cs ys) refl
      | inr other ↦ rw (other.0, with_doubled_quotes-append cs ys) refl
    ]

-- a quote that is not doubled stands in no such text
pub odd_quote : (piece behind text : List ℕ) → ((i : ℕ) → i < length piece → get_or piece i 0 ≢ quote)
    → ((rest : List ℕ) → behind ≢ quote ∷ rest) → piece ++ (quote ∷ behind) ≡ with_doubled_quotes text → ⊥
odd_quote [] behind [] plain single same = cc
odd_quote [] behind (t ∷ ts) plain single same =
    elim (eqb_tells t 39) [
      | inl is_quote ↦ let same' = rw is_quote.0 at same in let e : behind ≡ 39 ∷ with_doubled_quotes ts = cc in single (with_doubled_quotes ts) e
      | inr other ↦ let same' = rw other.0 at same in let e : t ≡ 39 = cc in other.1 e
    ]
odd_quote (c ∷ cs) behind [] plain single same = cc
odd_quote (c ∷ cs) behind (t ∷ ts) plain single same =
    elim (eqb_tells t 39) [
      | inl is_quote ↦ let same' = rw is_quote.0 at same in let e : c ≡ 39 = cc in absurd (plain 0 (omega arith) e)
      | inr other ↦
          let same' = rw other.0 at same in
          let e : cs ++ (39 ∷ behind) ≡ with_doubled_quotes ts = cc in
          odd_quote cs behind ts (λ i below. plain (suc i) (omega arith)) single e
    ]

-- what follows the doubled form of a beginning is the doubled form of the rest
pub doubled_front : (front rest text : List ℕ) → with_doubled_quotes front ++ rest ≡ with_doubled_quotes text → (back : List ℕ) × (rest ≡ with_doubled_quotes back) × (text ≡ front ++ back)
doubled_front [] rest text same = (text, same, refl)
doubled_front (c ∷ cs) rest [] same =
    elim (eqb_tells c 39) [
      | inl is_quote ↦ let same' = rw is_quote.0 at same in cc
      | inr other ↦ let same' = rw other.0 at same in cc
    ]
doubled_front (c ∷ cs) rest (t ∷ ts) same =
    elim (eqb_tells c 39) [
      | inl is_quote ↦
          let here = rw is_quote.0 at same in
          elim (eqb_tells t 39) [
            | inl also ↦
                let both = rw also.0 at here in
                let e : with_doubled_quotes cs ++ rest ≡ with_doubled_quotes ts = cc in
                let found = doubled_front cs rest ts e in
                let first : t ≡ c = omega arith in
                (found.0, found.1, cc)
            | inr not_quote ↦ let both = rw not_quote.0 at here in let e : t ≡ 39 = cc in absurd (not_quote.1 e)
          ]
      | inr other ↦
          let here = rw other.0 at same in
          elim (eqb_tells t 39) [
            | inl is_quote ↦ let both = rw is_quote.0 at here in let e : c ≡ 39 = cc in absurd (other.1 e)
            | inr not_quote ↦
                let both = rw not_quote.0 at here in
                let e : with_doubled_quotes cs ++ rest ≡ with_doubled_quotes ts = cc in
                let first : t ≡ c = cc in
                let found = doubled_front cs rest ts e in
                (found.0, found.1, cc)
          ]
    ]

nothing_doubled : (text : List ℕ) → [] ≡ with_doubled_quotes text → text ≡ []
nothing_doubled [] same = refl
nothing_doubled (t ∷ ts) same =
    elim (eqb_tells t 39) [
      | inl is_quote ↦ let same' = rw is_quote.0 at same in cc
      | inr other ↦ let same' = rw other.0 at same in cc
    ]

-- each text has one doubled form, and that is of one text
pub doubled_same : (xs ys : List ℕ) → with_doubled_quotes xs ≡ with_doubled_quotes ys → xs ≡ ys
doubled_same xs ys same =
    let found = doubled_front xs [] ys (append-nil (with_doubled_quotes xs) ∙ same) in
    sym (found.2 ∙ ap (λ (back : List ℕ). xs ++ back) (nothing_doubled found.0 found.1) ∙ append-nil xs)

-- what stands between two quotes, from what the two calls that strip them give
pub between-some : (r : Option (Bor (List ℕ))) (text stripped : List ℕ) → text ≡ 39 ∷ stripped
    → MatchOption r ((front : List ℕ) → stripped ≢ front ++ 39 ∷ []) (λ x. stripped ≡ x.now ++ 39 ∷ [])
    → IfSome r (λ inner. text ≡ 39 ∷ (inner.now ++ 39 ∷ []))
between-some (Some x) text stripped begins ends = begins ∙ ap (λ (xs : List ℕ). 39 ∷ xs) ends
between-some None text stripped begins ends = tt

pub between-none : (r : Option (Bor (List ℕ))) (text stripped : List ℕ) → text ≡ 39 ∷ stripped
    → MatchOption r ((front : List ℕ) → stripped ≢ front ++ 39 ∷ []) (λ x. stripped ≡ x.now ++ 39 ∷ [])
    → IfNone r ((inner : List ℕ) → ¬ (text ≡ 39 ∷ (inner ++ 39 ∷ [])))
between-none (Some x) text stripped begins ends = tt
between-none None text stripped begins ends = λ inner same. let e : stripped ≡ inner ++ 39 ∷ [] = cc in ends inner e

-- a piece without quotes and a doubled quote go over from what is left to what is read
pub one_more : (inner value piece rest : List ℕ) → ((i : ℕ) → i < length piece → get_or piece i 0 ≢ quote)
    → inner ≡ with_doubled_quotes value ++ (piece ++ (39 ∷ 39 ∷ rest)) → inner ≡ with_doubled_quotes ((value ++ piece) ++ (39 ∷ [])) ++ rest
one_more inner value piece rest plain same =
    same ∙ sym (ap (λ (xs : List ℕ). xs ++ rest) (with_doubled_quotes-append (value ++ piece) (39 ∷ []))
    ∙ ap (λ (xs : List ℕ). (xs ++ (39 ∷ 39 ∷ [])) ++ rest) (with_doubled_quotes-append value piece ∙ ap (λ (xs : List ℕ). with_doubled_quotes value ++ xs) (with_doubled_quotes-plain piece plain))
    ∙ simp append_assoc)

-- a spelling has one value
pub StringValue-same : (spelling value other : List ℕ) → StringValue spelling value → StringValue spelling other → value ≡ other
StringValue-same spelling value other first second =
    let e : with_doubled_quotes value ++ (39 ∷ []) ≡ with_doubled_quotes other ++ (39 ∷ []) = cc in
    doubled_same value other (same_from_push (with_doubled_quotes value) (with_doubled_quotes other) 39 39 e).0

-- a piece without quotes and a doubled quote go over from what is left to what is written
pub one_quoted : (all written piece behind rest next last : List ℕ) → ((i : ℕ) → i < length piece → get_or piece i 0 ≢ quote)
    → rest ≡ piece ++ (39 ∷ behind) → all ≡ written ++ with_doubled_quotes rest → next ≡ written ++ piece → last ≡ next ++ (39 ∷ 39 ∷ [])
    → all ≡ last ++ with_doubled_quotes behind
one_quoted all written piece behind rest next last plain cut same is_next is_last =
    let e : with_doubled_quotes rest ≡ piece ++ (39 ∷ 39 ∷ with_doubled_quotes behind) =
    ap with_doubled_quotes cut ∙ with_doubled_quotes-append piece (39 ∷ behind) ∙ ap (λ (xs : List ℕ). xs ++ (39 ∷ 39 ∷ with_doubled_quotes behind)) (with_doubled_quotes-plain piece plain) in
    same ∙ ap (λ (xs : List ℕ). written ++ xs) e
    ∙ sym (ap (λ (xs : List ℕ). xs ++ with_doubled_quotes behind) (is_last ∙ ap (λ (xs : List ℕ). xs ++ (39 ∷ 39 ∷ [])) is_next) ∙ simp append_assoc)

pub last_quoted : (all written rest next last : List ℕ) → ((i : ℕ) → i < length rest → get_or rest i 0 ≢ quote)
    → all ≡ written ++ with_doubled_quotes rest → next ≡ written ++ rest → last ≡ next ++ (39 ∷ []) → last ≡ all ++ (39 ∷ [])
last_quoted all written rest next last plain same is_next is_last =
    is_last ∙ ap (λ (xs : List ℕ). xs ++ (39 ∷ [])) (is_next ∙ ap (λ (xs : List ℕ). written ++ xs) (sym (with_doubled_quotes-plain rest plain)) ∙ sym same)
