-- Where the first line of a byte list ends.
use Rattle.std.proofs.Common.{◌≡◌, ◌≢◌, ◌==◌, ℕ, zero, suc, ◌+◌, ◌<◌, ◌≤◌, All, List, [], ◌∷◌, length, take, drop, slice_index, true, false, inl, inr, refl, ap, ◌∙◌, arith, add-one}
use Rattle.std.proofs.lemmas.List.{get_or_default}
use Rattle.std.proofs.lemmas.Bool.{cases_Bool}
use Rattle.line_filter.specs.Lines.{lines_of, with_first}

-- no byte before the offset is an LF
abbrev pub NoneBelow : List ℕ → ℕ → Type 0
NoneBelow bs k = (j : ℕ) → j < k → (slice_index bs j == 10) ≡ true → ⊥

pub not_first : (b : ℕ) (bs : List ℕ) (k : ℕ) → NoneBelow (b ∷ bs) (suc k) → (b == 10) ≡ false
not_first b bs k none = elim (cases_Bool (b == 10)) [ inl h ↦ absurd (none 0 (omega arith) h) | inr h ↦ h ]

pub later : (b : ℕ) (bs : List ℕ) (k : ℕ) → NoneBelow (b ∷ bs) (suc k) → NoneBelow bs k
later b bs k none j below is = none (suc j) (omega arith) is

pub lines_of-line : (bs : List ℕ) (k : ℕ) → k < length bs → NoneBelow bs k → (slice_index bs k == 10) ≡ true → lines_of bs ≡ take k bs ∷ lines_of (drop (k + 1) bs)
lines_of-line [] k within none is = absurd (omega arith)
lines_of-line (b ∷ bs) zero within none is = let here : (b == 10) ≡ true = is in rw here refl
lines_of-line (b ∷ bs) (suc k) within none is =
    let no = not_first b bs k none in
    let rest : lines_of bs ≡ take k bs ∷ lines_of (drop (suc k) bs) = rw add-one at (lines_of-line bs k (omega arith) (later b bs k none) is) in
    rw (no, add-one) (ap (with_first b) rest)

pub lines_of-last : (bs : List ℕ) → 0 < length bs → NoneBelow bs (length bs) → lines_of bs ≡ bs ∷ []
lines_of-last [] some none = absurd (omega arith)
lines_of-last (b ∷ []) some none = let no = not_first b [] 0 none in rw no refl
lines_of-last (b ∷ c ∷ bs) some none =
    let no = not_first b (c ∷ bs) (suc (length bs)) none in
    rw no (ap (with_first b) (lines_of-last (c ∷ bs) (omega arith) (later b (c ∷ bs) (suc (length bs)) none)))

-- where no byte is an LF
pub all_from : (bs : List ℕ) → ((k : ℕ) → 0 ≤ k → k < length bs → (slice_index bs k == 10) ≡ true → ⊥) → All (λ b. b ≢ 10) bs
all_from bs none k d within is =
    let here : slice_index bs k ≡ 10 = get_or_default bs k 0 d within ∙ is in
    none k (omega arith) within (rw here refl)
