use Rattle.std.proofs.Common.{◌≡◌, ◌∷◌, ◌++◌, length, string_bytes}
use denote.Text.{Utf8}
use denote.Shadow.{shadow}
use Rattle.edm_values.specs.StringLiteral.{quote, with_doubled_quotes}
use Rattle.edm_values.proofs.string_literal.spelling_of.Given as goal

-- what is written, and the text that is left
abbrev pub invariant-loop-piece : goal.invariant-loop-piece
invariant-loop-piece l = shadow (Utf8 l.rest) × (quote ∷ with_doubled_quotes l.text ≡ string_bytes l.spelling ++ with_doubled_quotes l.rest)

abbrev pub decreases-loop-piece : goal.decreases-loop-piece
decreases-loop-piece l = length l.rest
