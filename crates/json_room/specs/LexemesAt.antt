-- Lexemes of a text, from one offset to the next (RFC 8259, section 2).
use Rattle.std.specs.Prelude.{◌≡◌, ◌⊎◌, ℕ, ◌≤◌, List, ◌∷◌, length, drop, get_or, true}
use Rattle.json.specs.Token.{Token, key, string}
use Rattle.json.specs.Word.{is_space}
use Rattle.json.specs.Lex.{token, Place, may_begin, between, lex, punctuate, fresh}
use Rattle.json_room.specs.TokenReading.{tokens_left}

-- from one offset to the other there is white space, or nothing
pub record PassesSpaces (text : List ℕ) (from to : ℕ) : Type 0 where
  pub bounds : (from ≤ to) × (to ≤ length text)
  pub same : lex between (drop to text) ≡ lex between (drop from text)
  pub some : (to ≡ from) ⊎ (is_space (get_or text from 32) ≡ true)

-- a text goes from one offset to the other, with its quotes
pub record IsTextAt (text : List ℕ) (from : ℕ) (content : List ℕ) (to : ℕ) : Type 0 where
  pub within : to ≤ length text
  pub lexed : lex between (drop from text) ≡ token (string content) ∷ lex between (drop to text)

-- where a value may begin, the token begins at one offset, and from the other on the text is read on
pub record BeginsToken (text : List ℕ) (from : ℕ) (first : Token) (to : ℕ) (turn : Place) : Type 0 where
  pub within : to ≤ length text
  pub begins : (p : Place) → may_begin p ≡ true
      → punctuate p (lex between (drop from text)) ≡ first ∷ tokens_left turn (drop to text)

-- the same of a key with its colon
abbrev pub BeginsKey : List ℕ → ℕ → List ℕ → ℕ → Type 0
BeginsKey text from name to = BeginsToken text from (key name) to fresh
