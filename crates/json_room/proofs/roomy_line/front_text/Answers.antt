use Rattle.std.proofs.Common.{take, sym, ◌∙◌}
use Rattle.std.proofs.lemmas.Str.{IsUtf8-from_ascii}
use Rattle.json_room.proofs.roomy_line.front_text.Goals.{then-is_ascii, else-is_ascii}
use Rattle.json_room.proofs.roomy_line.front_text.Goals as goal

pub from_utf8_unchecked-requires : goal.from_utf8_unchecked-requires
from_utf8_unchecked-requires c = elim c.if-is_ascii.branch [
  | then-is_ascii w ↦ IsUtf8-from_ascii (take c.args.count c.args.bytes.now) (c.requires.ascii w.if-is_ascii.true)
  | else-is_ascii w ↦ w.is_utf8.ensures (sym w.value-is ∙ c.if-is_utf8.true)
]
