-- Names of columns between quotes (ISO/IEC 9075-2, section 5.2, delimited identifier).
use Rattle.std.specs.Prelude.{ℕ, List, [], ◌∷◌, ◌++◌, ◌==◌, if◌then◌else◌}

-- a double quote
abbrev pub name_quote : ℕ
name_quote = 34

-- a name with each of its quotes written twice
abbrev pub with_doubled_name_quotes : List ℕ → List ℕ
with_doubled_name_quotes [] = []
with_doubled_name_quotes (c ∷ cs) =
    if c == name_quote then name_quote ∷ name_quote ∷ with_doubled_name_quotes cs else c ∷ with_doubled_name_quotes cs

-- between quotes, with its own quotes doubled
abbrev pub quoted_name : List ℕ → List ℕ
quoted_name name = name_quote ∷ with_doubled_name_quotes name ++ name_quote ∷ []
