-- For private clauses: texts with escapes, from one offset to the next.
use Rattle.std.specs.Prelude.{◌≡◌, ℕ, ◌-◌, ◌<◌, ◌≤◌, List, length, drop, get_or, Option}
use Rattle.std.specs.Char.{encode_utf8}
use Rattle.std.specs.Str.{IsCharBoundary}
use Rattle.json.specs.Text.{content, plain, after_backslash, prepend}

-- after a backslash, from one offset to the other, an escape stands for a character
pub record EscapesAt (text : List ℕ) (from character to : ℕ) : Type 0 where
  pub bounds : (from < to) × (to ≤ length text)
  pub last : get_or text (to - 1) 0 < 128
  pub stands_for : content after_backslash (drop from text)
      ≡ prepend (encode_utf8 character) (content plain (drop to text))

-- what was decoded of a text, and what the rest of it stands for
abbrev pub reported_and_rest : List ℕ → List ℕ → ℕ → Option (List ℕ)
reported_and_rest reported text place = prepend reported (content plain (drop place text))

-- what stands between two offsets was decoded
pub record ReportsTo (text : List ℕ) (reported : List ℕ) (from : ℕ) (more : List ℕ) (to : ℕ) : Type 0 where
  pub bounds : (from < to) × (to ≤ length text)
  pub boundary : IsCharBoundary text to
  pub same : reported_and_rest reported text from ≡ reported_and_rest more text to
