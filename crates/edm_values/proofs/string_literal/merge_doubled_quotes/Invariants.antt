use Rattle.std.proofs.Common.{◌≡◌, ◌++◌, length, string_bytes}
use denote.Text.{Utf8}
use denote.Shadow.{shadow}
use Rattle.edm_values.specs.StringLiteral.{with_doubled_quotes}
use Rattle.edm_values.proofs.string_literal.merge_doubled_quotes.Given as goal

-- what is read so far, and the text that is left
abbrev pub invariant-loop-piece : goal.invariant-loop-piece
invariant-loop-piece l = shadow (Utf8 l.rest) × (l.inner ≡ with_doubled_quotes (string_bytes l.value) ++ l.rest)

abbrev pub decreases-loop-piece : goal.decreases-loop-piece
decreases-loop-piece l = length l.rest
