use Rattle.std.proofs.Common.{◌≡◌, ◌++◌, ℕ, length, replicate}
use denote.Text.{Utf8}
use denote.Shadow.{shadow}
use Rattle.odata_syntax.proofs.printer.enumeration_text.without_trailing_spaces.Given as goal

-- the spaces that have been passed
abbrev pub invariant-loop-front : goal.invariant-loop-front
invariant-loop-front l = shadow (Utf8 l.rest) × ((n : ℕ) × (l.text ≡ l.rest ++ replicate n 32))

abbrev pub decreases-loop-front : goal.decreases-loop-front
decreases-loop-front l = length l.rest
