use Rattle.std.proofs.Common.{◌≡◌, ◌∷◌, ◌++◌, length, string_bytes}
use denote.Text.{Utf8}
use denote.Shadow.{shadow}
use Rattle.sql_tree.specs.QuotedName.{name_quote, with_doubled_name_quotes}
use Rattle.sql_tree.proofs.quoted_name.quoted_text.Given as goal

-- what is written, and the name that is left
abbrev pub invariant-loop-piece : goal.invariant-loop-piece
invariant-loop-piece l =
    shadow (Utf8 l.rest) × (name_quote ∷ with_doubled_name_quotes l.name ≡ string_bytes l.text ++ with_doubled_name_quotes l.rest)

abbrev pub decreases-loop-piece : goal.decreases-loop-piece
decreases-loop-piece l = length l.rest
