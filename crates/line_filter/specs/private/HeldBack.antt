-- Text whose end a buffer holds back. Private clauses alone cite these.
use Rattle.std.specs.Prelude.{◌≡◌, ℕ, List, ◌++◌, Option}
use Rattle.line_filter.specs.Growth.{Writes}

-- what a writer holds grows by the text, but for what is held back of its end
abbrev pub WritesBut : Option (List ℕ) → Option (List ℕ) → List ℕ → List ℕ → Type 0
WritesBut old new held text = Writes old new (λ front. text ≡ front ++ held)
