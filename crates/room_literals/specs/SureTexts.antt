-- Literals in quotes, where they stand in a line (RFC 8259, section 7; OData JSON Format 4.01, section 7.1).
use Rattle.std.specs.Prelude.{ℕ, ◌<◌, List}
use Rattle.json_room.specs.LexemesAt.{IsTextAt}

-- a text goes from one offset to the other, with its quotes, and is a literal
pub record IsLiteralAt (line : List ℕ) (from : ℕ) (IsLiteral : List ℕ → Type 0) (to : ℕ) : Type 0 where
  pub further : from < to
  pub text : List ℕ
  pub stands : IsTextAt line from text to
  pub is : IsLiteral text
