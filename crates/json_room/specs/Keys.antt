-- What a key stands for: a name, which is written as it is (RFC 8259, section 7).
use Rattle.std.specs.Prelude.{ℕ, List, [], ◌∷◌, ◌++◌}

-- a name in its quotes
abbrev pub quoted_name : List ℕ → List ℕ
quoted_name name = 34 ∷ (name ++ 34 ∷ [])

-- a name in its quotes, and the colon after it
abbrev pub name_with_colon : List ℕ → List ℕ
name_with_colon name = quoted_name name ++ 58 ∷ []

-- and a space after that
abbrev pub spaced_name : List ℕ → List ℕ
spaced_name name = name_with_colon name ++ 32 ∷ []
