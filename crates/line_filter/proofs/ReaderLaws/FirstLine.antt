-- The first line of bytes of which a beginning is held.
use Rattle.std.proofs.Common.{◌≡◌, ◌≢◌, ◌==◌, ℕ, zero, suc, ◌+◌, ◌<◌, ◌≤◌, All, List, [], ◌∷◌, ◌++◌, length, take, drop, true, inl, inr, refl, sym, ap, ◌∙◌, subst, arith, append_assoc, length-append, take-append-drop}
use Rattle.std.specs.Prelude.{slice_index}
use Rattle.std.proofs.lemmas.List.{get_or_append_left, take-append-le, drop-append-le, drop_more}
use Rattle.std.proofs.lemmas.Bool.{eqb-true}
use Rattle.memchr.specs.Find.{Nowhere, NoneBefore, Passes, is_byte}
use Rattle.line_filter.specs.Lines.{lines_of, with_first, longest_line}
use Rattle.line_filter.specs.LineSource.{IsFirstLine}
use Rattle.line_filter.specs.private.Giving.{IsLongBy}
use Rattle.line_filter.proofs.LineLaws.Split.{NoneBelow, not_first, later, lines_of-line, lines_of-last}

-- what follows the bytes that are held puts no LF among them
none_below : (ws more : List ℕ) (n : ℕ) → n ≤ length ws → Nowhere (Passes (is_byte 10) ws) 0 n → NoneBelow (ws ++ more) n
none_below ws more n within none j below is =
    let same : slice_index (ws ++ more) j ≡ slice_index ws j = get_or_append_left ws more 0 j (omega arith) in
    none j (omega arith) below (subst (λ (k : ℕ). (k == 10) ≡ true) same is)

-- a first byte begins a line
with_first_some : (b : ℕ) (lines : List (List ℕ)) → (l : List ℕ) × (ls : List (List ℕ)) × (with_first b lines ≡ (b ∷ l) ∷ ls)
with_first_some b [] = ([], [], refl)
with_first_some b (line ∷ lines) = (line, lines, refl)

-- the first line is as long as no LF has come
begins_long : (bs : List ℕ) (k : ℕ) → k < length bs → NoneBelow bs (suc k) → (l : List ℕ) × (ls : List (List ℕ)) × (lines_of bs ≡ l ∷ ls) × (k < length l)
begins_long [] k within none = absurd (omega arith)
begins_long (b ∷ bs) zero within none =
    let no = not_first b bs 0 none in
    let (l, ls, e) = with_first_some b (lines_of bs) in
    (b ∷ l, ls, rw no e, omega arith)
begins_long (b ∷ bs) (suc k) within none =
    let no = not_first b bs (suc k) none in
    let (l, ls, e, far) = begins_long bs k (omega arith) (later b bs (suc k) none) in
    (b ∷ l, ls, rw (no, e) refl, omega arith)

long_past : (ws more : List ℕ) (n k : ℕ) → n ≤ length ws → k < n → Nowhere (Passes (is_byte 10) ws) 0 n
    → (l : List ℕ) × (ls : List (List ℕ)) × (lines_of (ws ++ more) ≡ l ∷ ls) × (k < length l)
long_past ws more n k within far none =
    begins_long (ws ++ more) k (omega (arith, length-append ws more)) (λ j below. none_below ws more n within none j (omega arith))

-- more bytes than a line may have, and no LF among them
pub long_by : (ws : List ℕ) (n : ℕ) → n ≤ length ws → longest_line < n → Nowhere (Passes (is_byte 10) ws) 0 n → IsLongBy ws
long_by ws n within far none more = long_past ws more n longest_line within far none

-- what stands before an LF and after it
pub whole_by_feed : (ws more : List ℕ) (n : ℕ) → n < length ws → Passes (is_byte 10) ws n → ws ++ more ≡ take n ws ++ 10 ∷ (drop (n + 1) ws ++ more)
whole_by_feed ws more n within is =
    let feed : slice_index ws n ≡ 10 = eqb-true _ _ is in
    let split : ws ≡ take n ws ++ 10 ∷ drop (n + 1) ws =
    sym (take-append-drop n ws) ∙ ap (λ l. take n ws ++ l) (drop_more ws n 0 within ∙ ap (λ b. b ∷ drop (n + 1) ws) feed) in
    ap (λ l. l ++ more) split ∙ append_assoc (take n ws) (10 ∷ drop (n + 1) ws) more

-- the first LF ends the first line
pub first_by_feed : (ws more : List ℕ) (n : ℕ) → NoneBefore (Passes (is_byte 10) ws) 0 (length ws) n → Passes (is_byte 10) ws n → IsFirstLine (ws ++ more) (take n ws) (drop (n + 1) ws ++ more)
first_by_feed ws more n found is =
    let high = found.high in
    let long : n < length (ws ++ more) = omega (arith, length-append ws more) in
    let here : slice_index (ws ++ more) n ≡ slice_index ws n = get_or_append_left ws more 0 n high in
    let front : take n (ws ++ more) ≡ take n ws = take-append-le n ws more (omega arith) in
    let rest : drop (n + 1) (ws ++ more) ≡ drop (n + 1) ws ++ more = drop-append-le (n + 1) ws more (omega arith) in
    record {
      first = lines_of-line (ws ++ more) n long (none_below ws more n (omega arith) found.before) (ap (λ (k : ℕ). k == 10) here ∙ is)
          ∙ ap (λ l. l ∷ lines_of (drop (n + 1) (ws ++ more))) front ∙ ap (λ l. take n ws ∷ lines_of l) rest;
      whole = inl (whole_by_feed ws more n high is);
    }

-- where nothing follows, bytes without LF are a line
pub first_at_end : (ws : List ℕ) → 0 < length ws → All (λ b. b ≢ 10) ws → IsFirstLine ws ws []
first_at_end ws some none = record {
  first = lines_of-last ws some (λ j below is. none j 0 below (eqb-true _ _ is));
  whole = inr (refl, refl);
}
