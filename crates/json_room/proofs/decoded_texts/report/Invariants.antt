use Rattle.std.proofs.Common.{◌≡◌, ◌≤◌, ◌-◌, length, drop, string_bytes}
use Rattle.std.specs.Str.{IsCharBoundary}
use Rattle.json.specs.Text.{content, plain}
use Rattle.json_room.specs.private.Escapes.{reported_and_rest}
use Rattle.json_room.proofs.decoded_texts.report.Given as goal

-- what was decoded and what is left are what the text stands for
abbrev pub invariant-loop-place : goal.invariant-loop-place
invariant-loop-place l =
    (l.place ≤ length l.quoted) × IsCharBoundary l.quoted l.place × (content plain (drop 1 l.quoted) ≡ reported_and_rest (string_bytes l.reported) l.quoted l.place)

abbrev pub decreases-loop-place : goal.decreases-loop-place
decreases-loop-place l = length l.quoted - l.place
