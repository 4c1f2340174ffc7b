-- The lines of a byte list (JSON Lines: one value a line, LF between them).
use Rattle.std.specs.Prelude.{ℕ, ◌==◌, ◌||◌, List, [], ◌∷◌, ◌++◌, flat_map, Bool, if◌then◌else◌}
use Rattle.std.specs.List.{AllPass}

-- a first byte goes to the front of the first line
abbrev pub with_first : ℕ → List (List ℕ) → List (List ℕ)
with_first b [] = (b ∷ []) ∷ []
with_first b (line ∷ lines) = (b ∷ line) ∷ lines

-- the pieces between LFs, the last only if it is not empty
abbrev pub lines_of : List ℕ → List (List ℕ)
lines_of [] = []
lines_of (b ∷ bs) = if b == 10 then [] ∷ lines_of bs else with_first b (lines_of bs)

-- a line and the LF after it
abbrev pub text_of_line : List ℕ → List ℕ
text_of_line line = line ++ 10 ∷ []

-- each line and the LF after it
abbrev pub text_of_lines : List (List ℕ) → List ℕ
text_of_lines lines = flat_map text_of_line lines

-- the longest line that is looked at, in bytes before its LF
abbrev pub longest_line : ℕ
longest_line = 1048576

-- the most bytes that are held of lines that come in pieces: a line that is not too long yet, and 65,536 more
abbrev pub most_held : ℕ
most_held = 1114112

-- a space, a tab or a CR
abbrev pub is_space : ℕ → Bool
is_space b = b == 32 || b == 9 || b == 13

-- a line of nothing but those, so an empty one too
abbrev pub IsBlank : List ℕ → Type 0
IsBlank line = AllPass is_space line
