use Rattle.std.proofs.Common.{[], ◌∷◌}
use Rattle.room_literals.proofs.LiteralTexts.{day_spelled}
use Rattle.room_literals.proofs.sure_texts.is_day.Goals as goal

pub is_in_month-requires-clause-spelled : goal.is_in_month-requires-clause-spelled
is_in_month-requires-clause-spelled c = day_spelled c.args.bytes.now c.args.from (0 ∷ 0 ∷ 0 ∷ 0 ∷ 0 ∷ 0 ∷ []) (255 ∷ 255 ∷ 255 ∷ 255 ∷ 255 ∷ 255 ∷ []) (c.are_within.ensures c.if-are_within.true)
