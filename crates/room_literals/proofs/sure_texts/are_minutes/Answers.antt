use Rattle.std.proofs.Common.{◌≡◌, ◌+◌, ◌/◌, ◌%◌, ◌<◌, ◌∷◌, [], get_or, arith}
use Rattle.std.proofs.lemmas.Bool.{ltb-true}
use Rattle.room_literals.specs.private.SureTexts.{AreWithin}
use Rattle.room_literals.proofs.LiteralTexts.{day_spelled}
use Rattle.room_literals.proofs.MomentTexts.{minutes_at}
use Rattle.room_literals.proofs.sure_texts.are_minutes.Goals as goal

pub is_in_month-requires-clause-spelled : goal.is_in_month-requires-clause-spelled
is_in_month-requires-clause-spelled c = day_spelled c.args.bytes.now c.args.from (84 ∷ 48 ∷ 48 ∷ 58 ∷ 48 ∷ 48 ∷ []) (0 ∷ 2 ∷ 9 ∷ 0 ∷ 5 ∷ 9 ∷ []) (c.are_within.ensures c.if-not-are_within.false)

pub two-requires-clause-tens : goal.two-requires-clause-tens
two-requires-clause-tens c = let w = c.are_within.ensures c.if-not-are_within.false 11 (omega arith) (omega arith) in (omega (arith, w), omega (arith, w))

pub two-requires-clause-units : goal.two-requires-clause-units
two-requires-clause-units c = let w = c.are_within.ensures c.if-not-are_within.false 12 (omega arith) (omega arith) in (omega (arith, w), omega (arith, w))

pub returns : goal.returns
returns c done =
    let b = c.args.bytes.now in
    let i = c.args.from in
    let hour = c.two.result in
    let h0 : get_or b (i + 11) 0 ≡ 48 + hour / 10 = omega arith in
    let h1 : get_or b (i + 12) 0 ≡ 48 + hour % 10 = omega arith in
    minutes_at b i hour c.requires (c.is_in_month.ensures c.if-not-is_in_month.false) (c.are_within.ensures c.if-not-are_within.false) h0 h1 (ltb-true _ _ done)
