-- What is left of a text.
use Rattle.std.specs.Prelude.{ℕ, List}
use Rattle.json.specs.Token.{Token}
use Rattle.json.specs.Lex.{Place, between, lex, punctuate}

-- the tokens of what is left of a text, by what may come next
abbrev pub tokens_left : Place → List ℕ → List Token
tokens_left turn text = punctuate turn (lex between text)
