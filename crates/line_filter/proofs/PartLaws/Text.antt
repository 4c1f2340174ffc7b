-- The lines of the text that a part gives.
use Rattle.std.proofs.Common.{◌≡◌, ℕ, zero, suc, ◌+◌, ◌-◌, ◌==◌, ◌<◌, ◌≤◌, true, false, List, [], ◌∷◌, length, drop, ⊎_elim, refl, sym, ap, ◌∙◌, arith}
use Rattle.std.proofs.lemmas.Bool.{cases_Bool, cases_lt, cond-false, cond-true}
use Rattle.std.specs.Io.BufRead.{drop_through}
use Rattle.line_filter.specs.Lines.{lines_of, with_first}
use Rattle.line_filter.specs.Parts.{lines_begun, lines_within}
use Rattle.line_filter.specs.private.PartText.{text_within, through_line}
use Rattle.line_filter.proofs.PartLaws.Begun.{begun_before, begun_from, begun_here, none_begun, none_between}

-- a first byte, by whether it is an LF
feed_first : (b : ℕ) (bs : List ℕ) → (b == 10) ≡ true → lines_of (b ∷ bs) ≡ [] ∷ lines_of bs
feed_first b bs is = cond-true (b == 10) ([] ∷ lines_of bs) (with_first b (lines_of bs)) is

no_feed_first : (b : ℕ) (bs : List ℕ) → (b == 10) ≡ false → lines_of (b ∷ bs) ≡ with_first b (lines_of bs)
no_feed_first b bs apart = cond-false (b == 10) ([] ∷ lines_of bs) (with_first b (lines_of bs)) apart

-- the same lines, from an offset that is written otherwise
begun_at : (from to m n : ℕ) (ls : List (List ℕ)) → m ≡ n → lines_begun from to m ls ≡ lines_begun from to n ls
begun_at from to m n ls same = ap (λ (k : ℕ). lines_begun from to k ls) same

-- within bounds that are written otherwise
begun_bounds : (a b s t offset : ℕ) (ls : List (List ℕ)) → a ≡ b → s ≡ t → lines_begun a s offset ls ≡ lines_begun b t offset ls
begun_bounds a b s t offset ls low high = ap (λ (k : ℕ). lines_begun k s offset ls) low ∙ ap (λ (k : ℕ). lines_begun b k offset ls) high

-- one byte more before lines, of which the first begins within both bounds
grown_first : (b offset s t : ℕ) (ls : List (List ℕ)) → offset < s → offset + 1 < t
    → ((l : List ℕ) (rest : List (List ℕ)) → lines_begun 0 s (offset + 1 + length l + 1) rest ≡ lines_begun 0 t (offset + 1 + length l + 1) rest)
    → lines_begun 0 s offset (with_first b ls) ≡ with_first b (lines_begun 0 t (offset + 1) ls)
grown_first b offset s t [] first second same = begun_here 0 s offset (b ∷ []) [] (omega arith) first
grown_first b offset s t (l ∷ ls) first second same =
    begun_here 0 s offset (b ∷ l) ls (omega arith) first
    ∙ ap (λ (x : List (List ℕ)). (b ∷ l) ∷ x) (begun_at 0 s (offset + length (b ∷ l) + 1) (offset + 1 + length l + 1) ls (omega arith) ∙ same l ls)
    ∙ sym (ap (with_first b) (begun_here 0 t (offset + 1) l ls (omega arith) second))

-- the lines that begin before an offset are those of the text through the line there
pub begun_through : (last offset : ℕ) (bs : List ℕ) → lines_begun 0 (offset + last + 1) offset (lines_of bs) ≡ lines_of (through_line bs last)
begun_through last offset [] = refl
begun_through zero offset (b ∷ bs) =
    let to = offset + 0 + 1 in
    let feed : (b == 10) ≡ true → lines_begun 0 to offset (lines_of (b ∷ bs)) ≡ lines_of (through_line (b ∷ bs) zero) =
    λ is.
    ap (lines_begun 0 to offset) (feed_first b bs is) ∙ begun_here 0 to offset [] (lines_of bs) (omega arith) (omega arith)
    ∙ ap (λ (x : List (List ℕ)). [] ∷ x) (none_begun 0 to (offset + 0 + 1) (lines_of bs) (omega arith))
    ∙ sym (ap lines_of (cond-true (b == 10) (b ∷ []) (b ∷ through_line bs zero) is) ∙ feed_first b [] is) in
    let other : (b == 10) ≡ false → lines_begun 0 to offset (lines_of (b ∷ bs)) ≡ lines_of (through_line (b ∷ bs) zero) =
    λ apart.
    let past : (l : List ℕ) (rest : List (List ℕ)) → lines_begun 0 to (offset + 1 + length l + 1) rest ≡ lines_begun 0 (offset + 1 + 0 + 1) (offset + 1 + length l + 1) rest =
    λ l rest. none_begun 0 to (offset + 1 + length l + 1) rest (omega arith) ∙ sym (none_begun 0 (offset + 1 + 0 + 1) (offset + 1 + length l + 1) rest (omega arith)) in
    ap (lines_begun 0 to offset) (no_feed_first b bs apart)
    ∙ grown_first b offset to (offset + 1 + 0 + 1) (lines_of bs) (omega arith) (omega arith) past
    ∙ ap (with_first b) (begun_through zero (offset + 1) bs)
    ∙ sym (ap lines_of (cond-false (b == 10) (b ∷ []) (b ∷ through_line bs zero) apart) ∙ no_feed_first b (through_line bs zero) apart) in
    ⊎_elim feed other (cases_Bool (b == 10))
begun_through (suc last) offset (b ∷ bs) =
    let to = offset + suc last + 1 in
    let same : to ≡ offset + 1 + last + 1 = omega arith in
    let rest = begun_through last (offset + 1) bs in
    let feed : (b == 10) ≡ true → lines_begun 0 to offset (lines_of (b ∷ bs)) ≡ lines_of (b ∷ through_line bs last) =
    λ is.
    ap (lines_begun 0 to offset) (feed_first b bs is) ∙ begun_here 0 to offset [] (lines_of bs) (omega arith) (omega arith)
    ∙ ap (λ (x : List (List ℕ)). [] ∷ x) (begun_at 0 to (offset + 0 + 1) (offset + 1) (lines_of bs) (omega arith)
    ∙ begun_bounds 0 0 to (offset + 1 + last + 1) (offset + 1) (lines_of bs) refl same ∙ rest)
    ∙ sym (feed_first b (through_line bs last) is) in
    let other : (b == 10) ≡ false → lines_begun 0 to offset (lines_of (b ∷ bs)) ≡ lines_of (b ∷ through_line bs last) =
    λ apart.
    ap (lines_begun 0 to offset) (no_feed_first b bs apart)
    ∙ grown_first b offset to (offset + 1 + last + 1) (lines_of bs) (omega arith) (omega arith) (λ l ls. begun_bounds 0 0 to (offset + 1 + last + 1) (offset + 1 + length l + 1) ls refl same)
    ∙ ap (with_first b) rest ∙ sym (no_feed_first b (through_line bs last) apart) in
    ⊎_elim feed other (cases_Bool (b == 10))

-- one byte more before lines that all begin before the part, or are those that begin later too
grown_before : (b offset a c to : ℕ) (ls : List (List ℕ)) → offset < a → offset + 1 < c → a ≤ offset + 2 → c ≤ offset + 2 → lines_begun a to offset (with_first b ls) ≡ lines_begun c to (offset + 1) ls
grown_before b offset a c to [] early earlier low lower = begun_before a to offset (b ∷ []) [] early
grown_before b offset a c to (l ∷ ls) early earlier low lower =
    begun_before a to offset (b ∷ l) ls early ∙ begun_at a to (offset + length (b ∷ l) + 1) (offset + 1 + length l + 1) ls (omega arith)
    ∙ begun_from a c to (offset + 1 + length l + 1) ls (omega arith) (omega arith) ∙ sym (begun_before c to (offset + 1) l ls earlier)

grown_early : (b offset from to : ℕ) (ls : List (List ℕ)) → offset + 1 < from → lines_begun from to offset (with_first b ls) ≡ lines_begun from to (offset + 1) ls
grown_early b offset from to [] early = begun_before from to offset (b ∷ []) [] (omega arith)
grown_early b offset from to (l ∷ ls) early =
    begun_before from to offset (b ∷ l) ls (omega arith) ∙ begun_at from to (offset + length (b ∷ l) + 1) (offset + 1 + length l + 1) ls (omega arith)
    ∙ sym (begun_before from to (offset + 1) l ls early)

-- a byte before the part
early_byte : (b offset from to : ℕ) (bs : List ℕ) → offset + 1 < from → lines_begun from to offset (lines_of (b ∷ bs)) ≡ lines_begun from to (offset + 1) (lines_of bs)
early_byte b offset from to bs early =
    ⊎_elim
    (λ is.
    ap (lines_begun from to offset) (feed_first b bs is) ∙ begun_before from to offset [] (lines_of bs) (omega arith)
    ∙ begun_at from to (offset + 0 + 1) (offset + 1) (lines_of bs) (omega arith))
    (λ apart. ap (lines_begun from to offset) (no_feed_first b bs apart) ∙ grown_early b offset from to (lines_of bs) early) (cases_Bool (b == 10))

-- The lines that begin after the line that has a byte, up to so many bytes further, are those of the text between.
pub begun_between : (start offset count : ℕ) (bs : List ℕ)
    → lines_begun (offset + start + 1) (offset + start + 1 + count) offset (lines_of bs) ≡ lines_of (drop_through 10 (through_line (drop start bs) count))
begun_between zero offset count [] = refl
begun_between (suc start) offset count [] = refl
begun_between (suc start) offset count (b ∷ bs) =
    let from = offset + suc start + 1 in
    early_byte b offset from (from + count) bs (omega arith)
    ∙ begun_bounds from (offset + 1 + start + 1) (from + count) (offset + 1 + start + 1 + count) (offset + 1) (lines_of bs) (omega arith) (omega arith) ∙ begun_between start (offset + 1) count bs
begun_between zero offset zero (b ∷ bs) =
    let from = offset + 0 + 1 in
    let none = none_between from (from + 0) offset (lines_of (b ∷ bs)) (omega arith) in
    let after : lines_of (drop_through 10 (through_line bs zero)) ≡ [] =
    sym (begun_between zero (offset + 1) zero bs) ∙ none_between (offset + 1 + 0 + 1) (offset + 1 + 0 + 1 + 0) (offset + 1) (lines_of bs) (omega arith) in
    let feed : (b == 10) ≡ true → lines_of (drop_through 10 (through_line (b ∷ bs) zero)) ≡ [] =
    λ is. ap (λ x. lines_of (drop_through 10 x)) (cond-true (b == 10) (b ∷ []) (b ∷ through_line bs zero) is) ∙ ap lines_of (cond-true (b == 10) [] (drop_through 10 []) is) in
    let other : (b == 10) ≡ false → lines_of (drop_through 10 (through_line (b ∷ bs) zero)) ≡ [] =
    λ apart.
    ap (λ x. lines_of (drop_through 10 x)) (cond-false (b == 10) (b ∷ []) (b ∷ through_line bs zero) apart)
    ∙ ap lines_of (cond-false (b == 10) (through_line bs zero) (drop_through 10 (through_line bs zero)) apart) ∙ after in
    none ∙ sym (⊎_elim feed other (cases_Bool (b == 10)))
begun_between zero offset (suc count) (b ∷ bs) =
    let from = offset + 0 + 1 in
    let to = from + suc count in
    let text = through_line bs count in
    let feed : (b == 10) ≡ true → lines_begun from to offset (lines_of (b ∷ bs)) ≡ lines_of (drop_through 10 (b ∷ text)) =
    λ is.
    ap (lines_begun from to offset) (feed_first b bs is) ∙ begun_before from to offset [] (lines_of bs) (omega arith)
    ∙ begun_at from to (offset + 0 + 1) (offset + 1) (lines_of bs) (omega arith)
    ∙ begun_from from 0 to (offset + 1) (lines_of bs) (omega arith) (omega arith)
    ∙ begun_bounds 0 0 to (offset + 1 + count + 1) (offset + 1) (lines_of bs) refl (omega arith) ∙ begun_through count (offset + 1) bs
    ∙ sym (ap lines_of (cond-true (b == 10) text (drop_through 10 text) is)) in
    let other : (b == 10) ≡ false → lines_begun from to offset (lines_of (b ∷ bs)) ≡ lines_of (drop_through 10 (b ∷ text)) =
    λ apart.
    ap (lines_begun from to offset) (no_feed_first b bs apart)
    ∙ grown_before b offset from (offset + 1 + 0 + 1) to (lines_of bs) (omega arith) (omega arith) (omega arith) (omega arith)
    ∙ begun_bounds (offset + 1 + 0 + 1) (offset + 1 + 0 + 1) to (offset + 1 + 0 + 1 + count) (offset + 1) (lines_of bs) refl (omega arith)
    ∙ begun_between zero (offset + 1) count bs ∙ sym (ap lines_of (cond-false (b == 10) text (drop_through 10 text) apart)) in
    ⊎_elim feed other (cases_Bool (b == 10))

-- the text of a part has the lines that begin within
pub lines_of_text : (from to : ℕ) (bs : List ℕ) → from ≤ to → lines_of (text_within from to bs) ≡ lines_within from to bs
lines_of_text zero zero bs order = sym (none_between 0 0 0 (lines_of bs) (omega arith))
lines_of_text zero (suc last) bs order = sym (begun_bounds 0 0 (suc last) (0 + last + 1) 0 (lines_of bs) refl (omega arith) ∙ begun_through last 0 bs)
lines_of_text (suc start) to bs order =
    sym (begun_bounds (suc start) (0 + start + 1) to (0 + start + 1 + (to - suc start)) 0 (lines_of bs) (omega arith) (omega arith) ∙ begun_between start 0 (to - suc start) bs)

all_grown : (b to offset : ℕ) (ls : List (List ℕ)) → offset < to → lines_begun 0 to (offset + 1) ls ≡ ls → lines_begun 0 to offset (with_first b ls) ≡ with_first b ls
all_grown b to offset ls some rest =
    let more : offset + 1 < to → lines_begun 0 to offset (with_first b ls) ≡ with_first b ls =
    λ within. grown_first b offset to to ls some within (λ l r. refl) ∙ ap (with_first b) rest in
    let last : to ≤ offset + 1 → lines_begun 0 to offset (with_first b ls) ≡ with_first b ls =
    λ past.
    let none : ls ≡ [] = sym rest ∙ none_begun 0 to (offset + 1) ls past in
    ap (λ (x : List (List ℕ)). lines_begun 0 to offset (with_first b x)) none ∙ begun_here 0 to offset (b ∷ []) [] (omega arith) some ∙ sym (ap (with_first b) none) in
    ⊎_elim more last (cases_lt (offset + 1) to)

-- each line of a text begins before its end
pub all_begun : (to offset : ℕ) (bs : List ℕ) → offset + length bs ≤ to → lines_begun 0 to offset (lines_of bs) ≡ lines_of bs
all_begun to offset [] within = refl
all_begun to offset (b ∷ bs) within =
    ⊎_elim
    (λ is.
    ap (lines_begun 0 to offset) (feed_first b bs is) ∙ begun_here 0 to offset [] (lines_of bs) (omega arith) (omega arith)
    ∙ ap (λ (x : List (List ℕ)). [] ∷ x) (all_begun to (offset + 0 + 1) bs (omega arith)) ∙ sym (feed_first b bs is))
    (λ apart. ap (lines_begun 0 to offset) (no_feed_first b bs apart) ∙ all_grown b to offset (lines_of bs) (omega arith) (all_begun to (offset + 1) bs (omega arith)) ∙ sym (no_feed_first b bs apart))
    (cases_Bool (b == 10))
