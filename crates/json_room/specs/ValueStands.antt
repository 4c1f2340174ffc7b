-- A JSON value somewhere in a text (RFC 8259).
use Rattle.std.specs.Prelude.{◌≡◌, ℕ, ◌<◌, ◌≤◌, List, length, true}
use Rattle.json.specs.Lex.{Place, after_value, may_begin}
use Rattle.serde_json.specs.Data.{Data}
use Rattle.json_room.specs.Lexemes.{EndsHere, tokens_at}
use Rattle.json_room.specs.ValueTokens.{Reads}

-- a JSON value stands in a text from one offset, where one may begin, to the other, if it may end there, nested no
-- deeper than that, and P holds of it
pub record ValueStands (depth : ℕ) (text : List ℕ) (from to : ℕ) (P : Data → Type 0) : Type 0 where
  pub bounds : (from < to) × (to ≤ length text)
  pub reads : (turn : Place) → may_begin turn ≡ true → EndsHere text to
      → Reads depth (tokens_at turn text from) (tokens_at after_value text to) P
