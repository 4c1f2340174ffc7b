-- The items of a collection as lines (OData JSON Format 4.01, section 13).
use Rattle.std.specs.Prelude.{◌≡◌, ◌==◌, ◌||◌, ◌++◌, ◌∷◌, ◌<◌, ◌≤◌, ℕ, List, [], if◌then◌else◌, length, map, slice_range, true}
use Rattle.json.specs.Lex.{Place, after_value, may_begin}
use Rattle.serde_json.specs.Data.{Data}
use Rattle.json_room.specs.Lexemes.{tokens_at}
use Rattle.json_room.specs.ValueTokens.{Reads}
use Rattle.collection_items.specs.JudgedItems.{AreJudged, IsArrayIn}

-- a byte in a line: a line feed and a carriage return, which stand between tokens of JSON alone, are spaces there
-- (RFC 8259, section 2)
abbrev pub in_line : ℕ → ℕ
in_line byte = if byte == 10 || byte == 13 then 32 else byte

-- what stands between two offsets, as a line with its line feed
abbrev pub line_between : List ℕ → ℕ × ℕ → List ℕ
line_between text (from, to) = map in_line (slice_range text from to) ++ 10 ∷ []

-- one after another
abbrev pub lines_between : List ℕ → List (ℕ × ℕ) → List ℕ
lines_between text [] = []
lines_between text (bounds ∷ others) = line_between text bounds ++ lines_between text others

-- this JSON value stands between two offsets, nested no deeper than an item may
pub record StandsBetween (text : List ℕ) (json : Data) (bounds : ℕ × ℕ) : Type 0 where
  pub within : (bounds.0 < bounds.1) × (bounds.1 ≤ length text)
  pub turn : Place
  pub begins : may_begin turn ≡ true
  pub reads : Reads 125 (tokens_at turn text bounds.0) (tokens_at after_value text bounds.1) (λ read. read ≡ json)

-- the lines are those of these items, in their order, as they stand in the text
abbrev pub AreItemLines : List ℕ → List Data → List ℕ → Type 0
AreItemLines text items lines =
    (places : List (ℕ × ℕ)) × AreJudged (StandsBetween text) items places × (lines ≡ lines_between text places)

-- the text is a JSON object whose member `value` is an array, and the lines are those of its items
abbrev pub HasItemLines : List ℕ → List ℕ → Type 0
HasItemLines text lines = (items : List Data) × IsArrayIn text items × AreItemLines text items lines
