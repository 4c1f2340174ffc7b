-- What is seen of the buffer of a reader of lines. Private clauses alone cite it.
use Rattle.std.specs.Prelude.{◌≡◌, ℕ, List, ◌++◌, length}

-- the bytes that were read and not given yet, the line that was given last, the length of the vector, and how many more
-- bytes may be filled after those that wait
pub record Waits : Type 0 where
  pub waiting : List ℕ
  pub line : List ℕ
  pub held : ℕ
  pub room : ℕ

-- so many bytes came after those that waited
abbrev pub Comes : List ℕ → List ℕ → ℕ → (List ℕ → Type 0) → Type 0
Comes old new count P = (bytes : List ℕ) × (new ≡ old ++ bytes) × (length bytes ≡ count) × P bytes
