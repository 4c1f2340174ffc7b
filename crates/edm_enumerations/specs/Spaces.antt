-- Texts without the spaces, U+0020, at their ends.
use Rattle.std.specs.Prelude.{ℕ, List, [], ◌∷◌, ◌==◌, if◌then◌else◌}

-- a space
abbrev pub space : ℕ
space = 32

abbrev pub without_leading_spaces : List ℕ → List ℕ
without_leading_spaces [] = []
without_leading_spaces (c ∷ cs) = if c == space then without_leading_spaces cs else c ∷ cs

-- a character before what is left of the characters after it: a space with nothing after it goes too
abbrev pub onto_kept : ℕ → List ℕ → List ℕ
onto_kept c [] = if c == space then [] else c ∷ []
onto_kept c (d ∷ ds) = c ∷ d ∷ ds

abbrev pub without_trailing_spaces : List ℕ → List ℕ
without_trailing_spaces [] = []
without_trailing_spaces (c ∷ cs) = onto_kept c (without_trailing_spaces cs)

abbrev pub without_outer_spaces : List ℕ → List ℕ
without_outer_spaces text = without_trailing_spaces (without_leading_spaces text)
