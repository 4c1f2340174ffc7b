use Rattle.std.proofs.Common.{◌-◌, length}
use Rattle.json_room.specs.private.PassedTexts.{PlainUpTo}
use Rattle.json_room.proofs.escaped_texts.passed_text_end.Given as goal

-- all was passed up to an escape, and plain bytes after it
abbrev pub invariant-escapes : goal.invariant-escapes
invariant-escapes l = PlainUpTo l.line l.place l.at

abbrev pub decreases-escapes : goal.decreases-escapes
decreases-escapes l = length l.line - l.at
