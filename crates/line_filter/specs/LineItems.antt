-- The lines of bytes, as items that are judged one by one.
use Rattle.std.specs.Prelude.{◌≡◌, ℕ, ◌<◌, ◌≤◌, ◌↔◌, List, ◌++◌, length}
use Rattle.line_filter.specs.declared.judge.Judgment.{Judgment}
use Rattle.line_filter.specs.Kept.{LineClass, Sieve, Items}
use Rattle.line_filter.specs.Lines.{lines_of, text_of_line, text_of_lines, longest_line, IsBlank}

-- what a judge may say of lines
abbrev pub LineJudge : Type 0 → Type 1
LineJudge F = List ℕ → Judgment F → Type 0

-- What is found of a line: that it is too long, that it is blank, or else what the judge says of it.
abbrev pub IsFoundOf : {F : Type 0} → LineJudge F → List ℕ → LineClass F → Type 0
IsFoundOf judge line LineClass.too_long = longest_line < length line
IsFoundOf judge line LineClass.passed_over = (length line ≤ longest_line) × IsBlank line
IsFoundOf judge line (LineClass.judged judgment) =
    (length line ≤ longest_line) × (IsBlank line → ⊥) × judge line judgment

-- a kept line is written with its bytes unchanged, and LF after it
abbrev pub line_sieve : {F : Type 0} → LineJudge F → Sieve (List ℕ) F
line_sieve judge = record { finds = IsFoundOf judge; text_of = text_of_line }

-- the lines of the bytes; before a device failed, those came in whole that have their LF
abbrev pub lines : {F : Type 0} → LineJudge F → List ℕ → Items (List ℕ) F
lines judge bytes = record {
  all = lines_of bytes;
  sieve = line_sieve judge;
  CameWhole = λ before. (rest : List ℕ) × (bytes ≡ text_of_lines before ++ rest);
}

-- two judges say the same of every line
abbrev pub SaysTheSame : {F : Type 0} → LineJudge F → LineJudge F → Type 0
SaysTheSame old new = (line : List ℕ) (judgment : _) → old line judgment ↔ new line judgment
