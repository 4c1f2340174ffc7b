-- The lines that begin in one part of a text, and readers that can be sought.
use Rattle.std.specs.Prelude.{◌≡◌, ℕ, zero, suc, ◌+◌, ◌-◌, ◌*◌, ◌/◌, ◌&&◌, List, [], ◌∷◌, ◌++◌, length, drop, nat_le, nat_lt, Option, Some, IsSomeAnd, if◌then◌else◌}
use Rattle.line_filter.specs.Lines.{lines_of}

-- Of lines of which the first begins at this offset, with an LF after each, those that begin at `from` or after it, and
-- before `to`.
abbrev pub lines_begun : (from to offset : ℕ) → List (List ℕ) → List (List ℕ)
lines_begun from to offset [] = []
lines_begun from to offset (line ∷ lines) =
    let later = lines_begun from to (offset + length line + 1) lines in
    if nat_le from offset && nat_lt offset to then line ∷ later else later

-- the lines of a text that begin at `from` or after it, and before `to`
abbrev pub lines_within : (from to : ℕ) → List ℕ → List (List ℕ)
lines_within from to bytes = lines_begun from to 0 (lines_of bytes)

-- where the part of this number ends, of so many equal parts of so many bytes; the part before it ends where it begins
abbrev pub part_end : (size count number : ℕ) → ℕ
part_end size count number = size * number / count

-- the lines that begin in the part of this number, from 1
abbrev pub lines_of_part : (number count : ℕ) → List ℕ → List (List ℕ)
lines_of_part number count bytes =
    lines_within (part_end (length bytes) count (number - 1)) (part_end (length bytes) count number) bytes

-- those of the parts up to this number, one part after the other
abbrev pub lines_up_to : (number count : ℕ) → List ℕ → List (List ℕ)
lines_up_to zero count bytes = []
lines_up_to (suc number) count bytes = lines_up_to number count bytes ++ lines_of_part (suc number) count bytes

-- what a reader has left is known, and is a text of these lines
abbrev pub HasLines : Option (List ℕ) → List (List ℕ) → Type 0
HasLines known lines = IsSomeAnd known (λ text. lines_of text ≡ lines)

-- A reader that can be sought has these bytes, and its position is known. Wherever such a reader stands, it reads what
-- follows there.
pub record IsSoughtOver {R : Type 0} (remaining : R → Option (List ℕ)) (position : R → Option ℕ)
    (bytes : R → Option (List ℕ)) (reader : R) (all : List ℕ) : Type 0 where
  pub offset : ℕ
  pub stands : position reader ≡ Some offset
  pub has : bytes reader ≡ Some all
  pub reads : (other : R) (at : ℕ) (text : List ℕ)
      → position other ≡ Some at → bytes other ≡ Some text → remaining other ≡ Some (drop at text)
