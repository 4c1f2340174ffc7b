-- Which lines begin within a part.
use Rattle.std.proofs.Common.{◌≡◌, ℕ, ◌+◌, ◌<◌, ◌≤◌, ◌&&◌, List, [], ◌∷◌, ◌++◌, length, nat_le, nat_lt, ⊎_elim, refl, sym, ap, ◌∙◌, arith}
use Rattle.std.proofs.lemmas.Bool.{and_from, and_left, and_right, cases_lt, cond-false, cond-true, le-leb, le-ltb, lt-leb, lt-ltb}
use Rattle.line_filter.specs.Parts.{lines_begun}

module _ (from to offset : ℕ) (l : List ℕ) (ls : List (List ℕ)) where
  abbrev later : List (List ℕ)
  later = lines_begun from to (offset + length l + 1) ls

  -- the first line begins within the part
  pub begun_here : from ≤ offset → offset < to → lines_begun from to offset (l ∷ ls) ≡ l ∷ lines_begun from to (offset + length l + 1) ls
  begun_here low high = cond-true (nat_le from offset && nat_lt offset to) (l ∷ later) later (and_from (nat_le from offset) (nat_lt offset to) (le-leb from offset low) (lt-ltb offset to high))

  -- it begins before the part
  pub begun_before : offset < from → lines_begun from to offset (l ∷ ls) ≡ lines_begun from to (offset + length l + 1) ls
  begun_before early = cond-false (nat_le from offset && nat_lt offset to) (l ∷ later) later (and_left (nat_le from offset) (nat_lt offset to) (lt-leb from offset early))

  -- it begins after the part
  begun_after : to ≤ offset → lines_begun from to offset (l ∷ ls) ≡ lines_begun from to (offset + length l + 1) ls
  begun_after late = cond-false (nat_le from offset && nat_lt offset to) (l ∷ later) later (and_right (nat_le from offset) (nat_lt offset to) (le-ltb offset to late))

-- no line begins within, where all begin after the part
pub none_begun : (from to offset : ℕ) (ls : List (List ℕ)) → to ≤ offset → lines_begun from to offset ls ≡ []
none_begun from to offset [] late = refl
none_begun from to offset (l ∷ ls) late = begun_after from to offset l ls late ∙ none_begun from to (offset + length l + 1) ls (omega arith)

-- no line begins within an empty part
pub none_between : (from to offset : ℕ) (ls : List (List ℕ)) → to ≤ from → lines_begun from to offset ls ≡ []
none_between from to offset [] empty = refl
none_between from to offset (l ∷ ls) empty =
    let rest = none_between from to (offset + length l + 1) ls empty in
    ⊎_elim (λ early. begun_before from to offset l ls early ∙ rest) (λ low. begun_after from to offset l ls (omega arith) ∙ rest) (cases_lt offset from)

-- where all begin at or after the beginnings of two parts with one end, the same begin within both
pub begun_from : (a b to offset : ℕ) (ls : List (List ℕ)) → a ≤ offset → b ≤ offset → lines_begun a to offset ls ≡ lines_begun b to offset ls
begun_from a b to offset [] low lower = refl
begun_from a b to offset (l ∷ ls) low lower =
    let rest = begun_from a b to (offset + length l + 1) ls (omega arith) (omega arith) in
    ⊎_elim
    (λ high. begun_here a to offset l ls low high ∙ ap (λ (x : List (List ℕ)). l ∷ x) rest ∙ sym (begun_here b to offset l ls lower high))
    (λ late. none_begun a to offset (l ∷ ls) late ∙ sym (none_begun b to offset (l ∷ ls) late)) (cases_lt offset to)

-- a part cut in two
pub begun_cut : (a b c offset : ℕ) (ls : List (List ℕ)) → a ≤ b → b ≤ c → lines_begun a b offset ls ++ lines_begun b c offset ls ≡ lines_begun a c offset ls
begun_cut a b c offset [] low high = refl
begun_cut a b c offset (l ∷ ls) low high =
    let next = offset + length l + 1 in
    let rest : lines_begun a b next ls ++ lines_begun b c next ls ≡ lines_begun a c next ls = begun_cut a b c next ls low high in
    let late_rest : b ≤ offset → lines_begun a b offset (l ∷ ls) ++ lines_begun b c offset (l ∷ ls) ≡ lines_begun a c offset (l ∷ ls) =
    λ late. ap (λ (x : List (List ℕ)). x ++ lines_begun b c offset (l ∷ ls)) (none_begun a b offset (l ∷ ls) late) ∙ begun_from b a c offset (l ∷ ls) late (omega arith) in
    let early_rest : offset < b → lines_begun a b offset (l ∷ ls) ++ lines_begun b c offset (l ∷ ls) ≡ lines_begun a c offset (l ∷ ls) =
    λ early.
    let second : lines_begun b c offset (l ∷ ls) ≡ lines_begun b c next ls = begun_before b c offset l ls early in
    ⊎_elim
    (λ before.
    ap (λ (x : List (List ℕ)). x ++ lines_begun b c offset (l ∷ ls)) (begun_before a b offset l ls before)
    ∙ ap (λ (x : List (List ℕ)). lines_begun a b next ls ++ x) second ∙ rest ∙ sym (begun_before a c offset l ls before))
    (λ here.
    ap (λ (x : List (List ℕ)). x ++ lines_begun b c offset (l ∷ ls)) (begun_here a b offset l ls here early)
    ∙ ap (λ (x : List (List ℕ)). l ∷ (lines_begun a b next ls ++ x)) second ∙ ap (λ (x : List (List ℕ)). l ∷ x) rest
    ∙ sym (begun_here a c offset l ls here (omega arith)))
    (cases_lt offset a) in
    ⊎_elim early_rest late_rest (cases_lt offset b)
