-- For private clauses: white space at the ends of a text, by its bytes.
use Rattle.std.specs.Prelude.{◌≡◌, ◌-◌, ◌≤◌, ℕ, false, List, length, take, drop}
use Rattle.std.specs.Char.{IsScalar, encode_utf8, is_not_whitespace}
use Rattle.std.specs.Str.{IsCharBoundary, IsUtf8, NoCharPasses}

-- the bytes of a character that is white space
pub record SpellsBlank (bytes : List ℕ) : Type 0 where
  pub character : ℕ
  pub spelled : bytes ≡ encode_utf8 character
  pub blank : is_not_whitespace character ≡ false
  pub scalar : IsScalar character

-- bytes begin with so many of such a character, or end with them
pub record BeginsBlank (bytes : List ℕ) (width : ℕ) : Type 0 where
  pub within : width ≤ length bytes
  pub blank : SpellsBlank (take width bytes)

pub record EndsBlank (bytes : List ℕ) (width : ℕ) : Type 0 where
  pub within : width ≤ length bytes
  pub blank : SpellsBlank (drop (length bytes - width) bytes)

-- so many bytes at the start of a text are white space, and a text follows
pub record IsBlankStart (text : List ℕ) (count : ℕ) : Type 0 where
  pub within : count ≤ length text
  pub blank : NoCharPasses is_not_whitespace (take count text)
  pub rest_utf8 : IsUtf8 (drop count text)
  pub boundary : IsCharBoundary text count

-- those from that byte on are, and a text stands before them
pub record IsBlankEnd (text : List ℕ) (offset : ℕ) : Type 0 where
  pub within : offset ≤ length text
  pub blank : NoCharPasses is_not_whitespace (drop offset text)
  pub front_utf8 : IsUtf8 (take offset text)
  pub boundary : IsCharBoundary text offset
