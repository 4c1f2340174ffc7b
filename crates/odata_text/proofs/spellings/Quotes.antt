-- Texts between quotes, read byte by byte.
use Rattle.std.proofs.lemmas.Bool.Decides.{eqb_tells}
use Rattle.odata_text.proofs.Common.{cond-false, Quoted, ◌==◌, fold_stays, ◌≡◌, inl, inr, ⊎_elim, ℕ, ◌+◌, ◌<◌, ◌≤◌, List, [], ◌∷◌, ◌++◌, length, get_or, take, drop, arith, refl, sym, ◌∙◌, ap, fold, cases_lt, fold_more, IsReach, quoted_after, with_doubled_quotes, IsStringSpelling, Before, Closed, Over, Open}
use Rattle.odata_text.specs.private.Lengths.{quoted_of}
use Rattle.odata_text.proofs.spellings.Sequences.{fold-take}

never_closes : (xs : List ℕ) → fold quoted_after Over xs ≡ Closed → ⊥
never_closes xs closed = let stuck : Over ≡ Closed = sym (fold_stays quoted_after Over (λ b. refl) xs) ∙ closed in cc

-- doubled quotes leave a text open
pub open-with_doubled_quotes : (value more : List ℕ) → fold quoted_after Open (with_doubled_quotes value ++ more) ≡ fold quoted_after Open more
open-with_doubled_quotes [] more = refl
open-with_doubled_quotes (c ∷ cs) more =
    elim (eqb_tells c 39) [
      | inl same ↦ rw same.0 (open-with_doubled_quotes cs more)
      | inr other ↦ rw other.0 (ap (λ (q : Quoted). fold quoted_after q (with_doubled_quotes cs ++ more)) (cond-false (c == 39) Closed Open other.0) ∙ open-with_doubled_quotes cs more)
    ]

closed-from_spelling : (xs : List ℕ) → IsStringSpelling xs → quoted_of xs ≡ Closed
closed-from_spelling xs spelled = ap quoted_of spelled.1 ∙ open-with_doubled_quotes spelled.0 (39 ∷ [])

-- what closes an open text is a value with its quotes doubled, and a quote
closing_quote : (xs : List ℕ) → fold quoted_after Open xs ≡ Closed → (value : List ℕ) × (xs ≡ with_doubled_quotes value ++ 39 ∷ [])
closing_quote [] closed = cc
closing_quote (b ∷ []) closed =
    elim (eqb_tells b 39) [
      | inl same ↦ ([], ap (λ (c : ℕ). c ∷ []) same.1)
      | inr other ↦ let stuck = rw other.0 at closed in cc
    ]
closing_quote (b ∷ c ∷ rest) closed =
    elim (eqb_tells b 39) [
      | inl same ↦ elim (eqb_tells c 39) [
        | inl twice ↦
            let found = closing_quote rest (rw (same.0, twice.0) at closed) in
            let first : b ≡ 39 = same.1 in
            let second : c ≡ 39 = twice.1 in
            let tail = found.1 in
            (39 ∷ found.0, cc)
        | inr over ↦ absurd (never_closes rest (rw (same.0, over.0) at closed))
      ]
      | inr other ↦
          let found = closing_quote (c ∷ rest) (rw other.0 at closed) in
          (b ∷ found.0, rw other.0 (ap (λ (ys : List ℕ). b ∷ ys) found.1))
    ]

pub spelling-from_closed : (xs : List ℕ) → quoted_of xs ≡ Closed → IsStringSpelling xs
spelling-from_closed [] closed = cc
spelling-from_closed (b ∷ bs) closed =
    elim (eqb_tells b 39) [
      | inl same ↦
          let found = closing_quote bs (rw same.0 at closed) in
          let first : b ≡ 39 = same.1 in
          let tail = found.1 in
          (found.0, cc)
      | inr other ↦ absurd (never_closes bs (rw other.0 at closed))
    ]

-- i bytes have been read, and n of them are the longest spelling so far
pub record IsQuotedSoFar (rest : List ℕ) (i : ℕ) (quoted : Quoted) (n : ℕ) : Type 0 where
  pub state : quoted ≡ quoted_of (take i rest)
  pub within : n ≤ i
  pub found : 0 < n → quoted_of (take n rest) ≡ Closed
  pub reaches : (m : ℕ) → m ≤ i → quoted_of (take m rest) ≡ Closed → m ≤ n

pub quoted_so_far-none : (rest : List ℕ) → IsQuotedSoFar rest 0 Before 0
quoted_so_far-none rest = record { state = refl; within = omega arith; found = λ positive. absurd (omega arith); reaches = λ m inside closed. inside }

step : (rest : List ℕ) (i : ℕ) (quoted : Quoted) (n : ℕ) → i < length rest → IsQuotedSoFar rest i quoted n → quoted_after quoted (get_or rest i 0) ≡ quoted_of (take (i + 1) rest)
step rest i quoted n inside so_far = ap (λ (q : Quoted). quoted_after q (get_or rest i 0)) so_far.state ∙ sym (fold_more quoted_after Before rest i 0 inside)

pub quoted_so_far-closed : (rest : List ℕ) (i : ℕ) (quoted next : Quoted) (n : ℕ) → i < length rest → IsQuotedSoFar rest i quoted n
    → next ≡ quoted_after quoted (get_or rest i 0) → next ≡ Closed → IsQuotedSoFar rest (i + 1) next (i + 1)
quoted_so_far-closed rest i quoted next n inside so_far is closed =
    let state = is ∙ step rest i quoted n inside so_far in
    record { state = state; within = omega arith; found = λ positive. sym state ∙ closed; reaches = λ m within spelled. within }

pub quoted_so_far-open : (rest : List ℕ) (i : ℕ) (quoted next : Quoted) (n : ℕ) → i < length rest → IsQuotedSoFar rest i quoted n
    → next ≡ quoted_after quoted (get_or rest i 0) → (next ≡ Closed → ⊥) → IsQuotedSoFar rest (i + 1) next n
quoted_so_far-open rest i quoted next n inside so_far is open' =
    let state = is ∙ step rest i quoted n inside so_far in
    let was = so_far.within in
    record {
      state = state;
      within = omega arith;
      found = so_far.found;
      reaches = λ m within spelled. ⊎_elim
          (λ earlier. so_far.reaches m (omega arith) spelled)
          (λ later. let here : m ≡ i + 1 = omega arith in absurd (open' (state ∙ sym (ap (λ (k : ℕ). quoted_of (take k rest)) here) ∙ spelled)))
          (cases_lt m (i + 1));
    }

pub quoted_so_far-end : (rest : List ℕ) (quoted : Quoted) (n : ℕ) → IsQuotedSoFar rest (length rest) quoted n → IsReach IsStringSpelling n rest
quoted_so_far-end rest quoted n so_far = record {
  within = so_far.within;
  found = λ positive. spelling-from_closed (take n rest) (so_far.found positive);
  reaches = λ m inside spelled. so_far.reaches m inside (closed-from_spelling (take m rest) spelled);
}

pub quoted_so_far-over : (rest : List ℕ) (i : ℕ) (quoted next : Quoted) (n : ℕ) → i < length rest → IsQuotedSoFar rest i quoted n
    → next ≡ quoted_after quoted (get_or rest i 0) → next ≡ Over → IsReach IsStringSpelling n rest
quoted_so_far-over rest i quoted next n inside so_far is over =
    let state = is ∙ step rest i quoted n inside so_far in
    let was = so_far.within in
    record {
      within = omega arith;
      found = λ positive. spelling-from_closed (take n rest) (so_far.found positive);
      reaches = λ m within spelled. let closed = closed-from_spelling (take m rest) spelled in ⊎_elim
          (λ earlier. so_far.reaches m (omega arith) closed)
          (λ later. absurd (never_closes (drop (i + 1) (take m rest)) (sym (fold-take quoted_after Before rest (i + 1) m later ∙ ap (λ (q : Quoted). fold quoted_after q (drop (i + 1) (take m rest))) (sym state ∙ over)) ∙ closed)))
          (cases_lt m (i + 1));
    }
