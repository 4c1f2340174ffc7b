-- For private clauses: texts that are passed without being decoded (RFC 8259, section 7).
use Rattle.std.specs.Prelude.{◌≡◌, ◌≢◌, ℕ, ◌+◌, ◌-◌, ◌<◌, ◌≤◌, List, length, drop, get_or, Some}
use Rattle.std.specs.Str.{IsCharBoundary, IsUtf8}
use Rattle.json.specs.Lex.{in_string, lex}
use Rattle.json.specs.Text.{after_backslash, content, plain, prepend, short_escape}
use Rattle.json.specs.Written.{PlainBetween}

-- after a backslash the byte by itself stands for a character, of ASCII
pub record IsShortEscape (byte : ℕ) : Type 0 where
  pub character : ℕ
  pub stands_for : short_escape byte ≡ Some character
  pub reported_ascii : character < 128
  pub ascii : byte < 128
  pub no_unit : byte ≢ 117
  pub no_line_feed : byte ≢ 10

-- after a backslash, from one offset to the other, an escape stands for these bytes; all of it but its first byte is
-- plain
pub record PassesEscape (line : List ℕ) (from to : ℕ) : Type 0 where
  pub bounds : (from < to) × (to ≤ length line)
  pub last : get_or line (to - 1) 0 < 128
  pub bytes : List ℕ
  pub utf8 : IsUtf8 bytes
  pub stands_for : content after_backslash (drop from line) ≡ prepend bytes (content plain (drop to line))
  pub digits : PlainBetween line (from + 1) to

-- of the text that begins at an offset all was passed up to another, where no escape begins or ends half-way
pub record PassedUpTo (line : List ℕ) (from at : ℕ) : Type 0 where
  pub bounds : (from < at) × (at ≤ length line)
  pub boundary : IsCharBoundary line at
  pub passed : List ℕ
  pub utf8 : IsUtf8 passed
  pub content_is : content plain (drop (from + 1) line) ≡ prepend passed (content plain (drop at line))
  pub goes_on : lex in_string (drop at line) ≡ lex in_string (drop (from + 1) line)

-- and plain bytes after that, up to an offset
pub record PlainUpTo (line : List ℕ) (from at : ℕ) : Type 0 where
  pub start : ℕ
  pub passed : PassedUpTo line from start
  pub bounds : (start ≤ at) × (at ≤ length line)
  pub plain_there : PlainBetween line start at
