-- What is seen of a reader of lines, and what its calls give.
use Rattle.std.specs.Prelude.{◌≡◌, ◌≢◌, ℕ, ◌<◌, ◌≤◌, All, List, [], ◌∷◌, ◌++◌, length, Option, None, Some, ⊤, ◌⊎◌}
use Rattle.std.specs.Io.KnownBytes.{prepend_known}
use Rattle.line_filter.specs.declared.line_reader.Course.{Course}
use Rattle.line_filter.specs.Lines.{lines_of, longest_line}

-- the reader beneath, the bytes that were read and not given yet, the line that was given last, the length of the
-- buffer, how many more bytes may be read, and how far it has come
pub record LineSource (R : Type 0) : Type 0 where
  pub reader : R
  pub waiting : List ℕ
  pub line : List ℕ
  pub held : ℕ
  pub unread : ℕ
  pub course : Course

-- what is left: the bytes not given yet, and all that the reader still has, where it reports that
abbrev pub left_of : {R : Type 0} → (R → Option (List ℕ)) → LineSource R → Option (List ℕ)
left_of remaining source = prepend_known source.waiting (remaining source.reader)

-- The first line of these bytes, and what follows it, past its LF if it has one.
pub record IsFirstLine (bytes line rest : List ℕ) : Type 0 where
  pub first : lines_of bytes ≡ line ∷ lines_of rest
  pub whole : (bytes ≡ line ++ 10 ∷ rest) ⊎ ((bytes ≡ line) × (rest ≡ []))

-- the first line of these bytes is over-long
abbrev pub BeginsTooLong : List ℕ → Type 0
BeginsTooLong bytes =
    (line : List ℕ) × (more : List (List ℕ)) × (lines_of bytes ≡ line ∷ more) × (longest_line < length line)

-- no LF is among these bytes, and they are no over-long line yet
abbrev pub IsNoWholeLine : List ℕ → Type 0
IsNoWholeLine bytes = All (λ b. b ≢ 10) bytes × (length bytes ≤ longest_line)

-- known bytes stay known, and that is said of what they were and are
abbrev pub WhereKnown : Option (List ℕ) → Option (List ℕ) → (List ℕ → List ℕ → Type 0) → Type 0
WhereKnown None new P = ⊤
WhereKnown (Some bytes) None P = ⊥
WhereKnown (Some bytes) (Some rest) P = P bytes rest

-- the line is the first one of what was left, and what follows it is left now
abbrev pub GivesLine : Option (List ℕ) → Option (List ℕ) → List ℕ → Type 0
GivesLine old new line = WhereKnown old new (λ bytes rest. IsFirstLine bytes line rest)

-- it has reached the end: nothing waits, and the reader reported its end
abbrev pub IsOver : {R : Type 0} → LineSource R → Type 0
IsOver source = (source.course ≡ Course.AtEnd) × (source.waiting ≡ [])
