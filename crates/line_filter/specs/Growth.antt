-- What writes do to bytes that are known.
use Rattle.std.specs.Prelude.{◌≡◌, ℕ, List, ◌++◌, Option}
use Rattle.std.specs.Io.KnownBytes.{Appends}

-- what a writer holds, where it reports it, grows by some text of which P holds
abbrev pub Writes : Option (List ℕ) → Option (List ℕ) → (List ℕ → Type 0) → Type 0
Writes old new P = (text : List ℕ) × Appends old new text × P text

-- bytes grow by some text of which P holds
abbrev pub Grows : List ℕ → List ℕ → (List ℕ → Type 0) → Type 0
Grows old new P = (text : List ℕ) × (new ≡ old ++ text) × P text

-- what a writer holds, where it reports it, grows by a beginning of the text
abbrev pub WritesFront : Option (List ℕ) → Option (List ℕ) → List ℕ → Type 0
WritesFront old new text = Writes old new (λ front. (rest : List ℕ) × (text ≡ front ++ rest))
