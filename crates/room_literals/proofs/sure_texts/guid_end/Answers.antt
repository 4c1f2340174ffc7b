use Rattle.std.proofs.Common.{◌≡◌, ℕ, ◌+◌, List, get_or, refl, subst, arith}
use Rattle.edm_values.specs.GuidLiteral.{GuidValue}
use Rattle.room_literals.specs.SureTexts.{IsLiteralAt}
use Rattle.room_literals.proofs.LiteralsStand.{guid_stands}
use Rattle.room_literals.proofs.sure_texts.guid_end.Goals as goal

pub returns-then-is_guid : goal.returns-then-is_guid
returns-then-is_guid c =
    let line = c.args.line.now in
    let r = c.bytes-bytes.ensures in
    let b = c.bytes-bytes.result.now in
    let place = c.args.place in
    let opens : get_or b place 0 ≡ 34 = omega arith in
    let closes : get_or b (place + 37) 0 ≡ 34 = omega arith in
    let there : place + 37 + 1 ≡ place + 38 = omega arith in
    subst (λ (to : ℕ). IsLiteralAt line place (λ text. (guid : List ℕ) × GuidValue text guid) to) there
    (guid_stands line b r.front r.line_feed r.room place c.requires opens (place + 37) refl (c.is_guid.ensures c.if-is_guid.true) closes)
