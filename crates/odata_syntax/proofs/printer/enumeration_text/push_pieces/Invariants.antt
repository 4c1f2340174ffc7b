use Rattle.std.proofs.Common.{◌≡◌, ◌++◌, true, length, string_bytes}
use denote.Text.{Utf8}
use denote.Shadow.{shadow}
use Rattle.odata_text.specs.LiteralSpelling.{trimmed_pieces}
use Rattle.odata_syntax.proofs.printer.enumeration_text.push_pieces.Given as goal

-- what has been written, and what is left to write
abbrev pub invariant-loop-piece : goal.invariant-loop-piece
invariant-loop-piece l =
    shadow (Utf8 l.rest)
    × (string_bytes l.initial.out ++ trimmed_pieces true l.quoted ≡ string_bytes l.out ++ trimmed_pieces true l.rest)

abbrev pub decreases-loop-piece : goal.decreases-loop-piece
decreases-loop-piece l = length l.rest
