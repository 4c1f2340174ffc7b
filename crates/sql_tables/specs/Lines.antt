-- The lines of a text.
use Rattle.std.specs.Prelude.{◌==◌, ℕ, Bool, List}
use Rattle.std.specs.List.{after_first, before_first, slice_split}

-- a line feed
abbrev pub is_feed : ℕ → Bool
is_feed b = b == 10

-- the lines of a text, which line feeds stand between
abbrev pub lines_of : List ℕ → List (List ℕ)
lines_of text = slice_split is_feed text

-- the first line, and all after its line feed
abbrev pub first_line : List ℕ → List ℕ
first_line text = before_first is_feed text

abbrev pub after_line : List ℕ → List ℕ
after_line text = after_first is_feed text
