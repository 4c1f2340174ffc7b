use Rattle.std.proofs.Common.{◌≡◌, ℕ, ◌+◌, get_or, refl, subst, arith}
use Rattle.edm_values.specs.Civil.{Date}
use Rattle.edm_values.specs.DateLiteral.{DateValue}
use Rattle.room_literals.specs.SureTexts.{IsLiteralAt}
use Rattle.room_literals.proofs.LiteralsStand.{day_stands}
use Rattle.room_literals.proofs.sure_texts.day_end.Goals as goal

pub returns-then-is_day : goal.returns-then-is_day
returns-then-is_day c =
    let line = c.args.line.now in
    let r = c.bytes-bytes.ensures in
    let b = c.bytes-bytes.result.now in
    let place = c.args.place in
    let opens : get_or b place 0 ≡ 34 = omega arith in
    let closes : get_or b (place + 11) 0 ≡ 34 = omega arith in
    let there : place + 11 + 1 ≡ place + 12 = omega arith in
    subst (λ (to : ℕ). IsLiteralAt line place (λ text. (date : Date) × DateValue text date) to) there
    (day_stands line b r.front r.line_feed r.room place c.requires opens (place + 11) refl (c.is_day.ensures c.if-is_day.true) closes)
