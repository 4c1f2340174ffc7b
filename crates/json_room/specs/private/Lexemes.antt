-- For private clauses: lexemes of a text, from one offset to the next.
use Rattle.std.specs.Prelude.{◌≡◌, ℕ, ◌+◌, ◌<◌, ◌≤◌, List, ◌++◌, length, take, drop, get_or, true, false}
use Rattle.std.specs.Char.{is_ascii_digit}
use Rattle.std.specs.Str.Parse.{AllDigits, digits_value}
use Rattle.json.specs.Word.{ends_word}
use Rattle.json.specs.Lex.{after_value, begins_colon, between, in_string, lex, punctuate, Place}
use Rattle.json_room.specs.TokenReading.{tokens_left}
pub use Rattle.json_room.specs.LexemesAt.{PassesSpaces, IsTextAt, BeginsToken, BeginsKey}

-- the text that is read from one offset on is closed by the quote at the other
pub record ClosesText (text : List ℕ) (from quote : ℕ) : Type 0 where
  pub bounds : (from ≤ quote) × (quote < length text)
  pub is_quote : get_or text quote 32 ≡ 34
  pub passed : lex in_string (drop from text) ≡ lex between (drop (quote + 1) text)

-- a value ends at one offset, and from the other on the text is read on
pub record EndsValue (text : List ℕ) (from to : ℕ) (turn : Place) : Type 0 where
  pub within : to ≤ length text
  pub left : tokens_left turn (drop to text) ≡ punctuate after_value (lex between (drop from text))
  pub no_colon : begins_colon (lex between (drop from text)) ≡ false
  pub ends : ends_word (drop from text) ≡ true

-- these bytes stand at an offset
pub record StandsAt (text : List ℕ) (from : ℕ) (word : List ℕ) : Type 0 where
  pub within : from + length word ≤ length text
  pub is : drop from text ≡ word ++ drop (from + length word) text

-- each byte from one offset up to the other is of ASCII
abbrev pub AsciiBetween : List ℕ → ℕ → ℕ → Type 0
AsciiBetween text from to = (k : ℕ) → from ≤ k → k < to → get_or text k 0 < 128

-- each byte from one offset up to the other is a digit
abbrev pub DigitsBetween : List ℕ → ℕ → ℕ → Type 0
DigitsBetween text from to = (k : ℕ) → from ≤ k → k < to → is_ascii_digit (get_or text k 0) ≡ true

-- the digits at the front, so many, write this number of at most 18 digits
pub record WritesWhole (text : List ℕ) (count number : ℕ) : Type 0 where
  pub within : count ≤ length text
  pub digits : DigitsBetween text 0 count
  pub all : AllDigits 10 (take count text)
  pub value : number ≡ digits_value 10 (take count text)
  pub bound : number < 1000000000000000000
