-- How many LFs come before a line.
use Rattle.std.proofs.Common.{◌≡◌, ◌≢◌, ◌==◌, ℕ, ◌+◌, Bool, true, false, cond, List, [], ◌∷◌, ◌++◌, length, inl, inr, refl, sym, ap, ◌∙◌, subst, arith, append-nil}
use Rattle.std.specs.Prelude.{count_by, All}
use Rattle.std.proofs.lemmas.Bool.{cases_Bool}
use Rattle.std.proofs.lemmas.Bool.Decides.{eqb_tells}
use Rattle.std.proofs.lemmas.List.Elements.{All-head, All-tail}
use Rattle.std.proofs.lemmas.List.Sums.{sum_by-append, sum_by-cons}
use Rattle.line_filter.specs.Lines.{lines_of, text_of_line, text_of_lines, with_first}
use Rattle.filter_runs.specs.DeviceFaults.{line_after}

abbrev one : ℕ → ℕ
one b = cond (b == 10) 1 0

abbrev feeds : List ℕ → ℕ
feeds bytes = count_by (λ b. b == 10) bytes

first_other : (b : ℕ) (bs : List ℕ) → (b == 10) ≡ false → feeds bs ≡ 0 → feeds (b ∷ bs) ≡ 0
first_other b bs differs none =
    let all : feeds (b ∷ bs) ≡ one b + feeds bs = sum_by-cons one b bs in
    let zero : one b ≡ 0 = ap (λ (t : Bool). cond {A = ℕ} t 1 0) differs in omega (arith, all, zero, none)

other : (b : ℕ) → b ≢ 10 → (b == 10) ≡ false
other b apart = elim (eqb_tells b 10) [ inl is ↦ absurd (apart is.1) | inr differs ↦ differs.0 ]

without_feeds : (bs : List ℕ) → All (λ b. b ≢ 10) bs → feeds bs ≡ 0
without_feeds [] all = refl
without_feeds (b ∷ bs) all = first_other b bs (other b (All-head (λ b. b ≢ 10) b bs all)) (without_feeds bs (All-tail (λ b. b ≢ 10) b bs all))

-- no line has one
abbrev NoneHas : List (List ℕ) → Type 0
NoneHas [] = Unit {0}
NoneHas (line ∷ lines) = (feeds line ≡ 0) × NoneHas lines

with_first_none : (b : ℕ) (lines : List (List ℕ)) → (b == 10) ≡ false → NoneHas lines → NoneHas (with_first b lines)
with_first_none b [] differs all = (first_other b [] differs refl, tt)
with_first_none b (line ∷ lines) differs all = (first_other b line differs all.0, all.1)

none_has : (bs : List ℕ) → NoneHas (lines_of bs)
none_has [] = tt
none_has (b ∷ bs) = elim (cases_Bool (b == 10)) [
  | inl is ↦ rw is (refl, none_has bs)
  | inr differs ↦ rw differs (with_first_none b (lines_of bs) differs (none_has bs))
]

none_before : (before lines : List (List ℕ)) → NoneHas (before ++ lines) → NoneHas before
none_before [] lines all = tt
none_before (line ∷ before) lines all = (all.0, none_before before lines all.1)

feeds_of_lines : (lines : List (List ℕ)) → NoneHas lines → feeds (text_of_lines lines) ≡ length lines
feeds_of_lines [] all = refl
feeds_of_lines (line ∷ lines) all =
    let whole : feeds (text_of_line line ++ text_of_lines lines) ≡ feeds (text_of_line line) + feeds (text_of_lines lines) = sum_by-append one (text_of_line line) (text_of_lines lines) in
    let first : feeds (line ++ 10 ∷ []) ≡ feeds line + feeds (10 ∷ []) = sum_by-append one line (10 ∷ []) in
    let last : feeds (10 ∷ []) ≡ 1 = refl in
    let rest = feeds_of_lines lines all.1 in
    let here = all.0 in omega (arith, whole, first, last, rest, here)

-- the line after whole ones and the beginning of the next
pub line_after_lines : (bytes begun : List ℕ) (before : List (List ℕ)) (lines : List (List ℕ)) → bytes ≡ text_of_lines before ++ (begun ++ []) → lines_of bytes ≡ before ++ lines → All (λ b. b ≢ 10) begun
    → line_after bytes ≡ length before + 1
line_after_lines bytes begun before lines came split unended =
    let all : NoneHas (before ++ lines) = subst NoneHas split (none_has bytes) in
    let text : bytes ≡ text_of_lines before ++ begun = came ∙ ap (λ (l : List ℕ). text_of_lines before ++ l) (append-nil begun) in
    let counted : feeds bytes ≡ feeds (text_of_lines before) + feeds begun = ap feeds text ∙ sum_by-append one (text_of_lines before) begun in
    let whole = feeds_of_lines before (none_before before lines all) in
    let none = without_feeds begun unended in omega (arith, counted, whole, none)
