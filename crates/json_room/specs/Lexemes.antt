-- Lexemes of a line, from one offset to the other (RFC 8259, section 2).
use Rattle.std.specs.Prelude.{◌≡◌, ℕ, ◌<◌, ◌≤◌, List, ◌∷◌, length, drop, true, false}
use Rattle.json.specs.Token.{Token}
use Rattle.json.specs.Word.{ends_word}
use Rattle.json.specs.Lex.{Place, may_begin, begins_colon, between, lex, punctuate, after_value}
use Rattle.json_room.specs.TokenReading.{tokens_left}

-- the tokens of a line from an offset on, where the turn says what may come next
abbrev pub tokens_at : Place → List ℕ → ℕ → List Token
tokens_at turn line place = tokens_left turn (drop place line)

-- a number or a word may end at an offset, and no colon follows
pub record EndsHere (line : List ℕ) (place : ℕ) : Type 0 where
  pub ends : ends_word (drop place line) ≡ true
  pub no_colon : begins_colon (lex between (drop place line)) ≡ false

-- Where a value may begin, the token goes from one offset to the other, if it may end there.
pub record StandsTo (line : List ℕ) (from : ℕ) (first : Token) (to : ℕ) : Type 0 where
  pub bounds : (from < to) × (to ≤ length line)
  pub begins : (p : Place) → may_begin p ≡ true → EndsHere line to
      → punctuate p (lex between (drop from line)) ≡ first ∷ tokens_at after_value line to
