use Rattle.std.proofs.Common.{◌≡◌, ◌+◌, ◌<◌, ◌≤◌, length, get_or, sym, ap, ◌∙◌, subst, arith}
use Rattle.std.specs.Char.{digit_value}
use Rattle.json.specs.Run.{is_plain}
use Rattle.json_room.proofs.EscapesPassed.{four_plain, plain_inside, unit_is, unit_passes}
use Rattle.json_room.proofs.escapes.unit_end.Goals as goal

pub returns-in-Some : goal.returns-in-Some
returns-in-Some c before next =
    let d = c.args.line.now in
    let i = c.args.place in
    let h1 : c.hex_digit-first.result < 16 = omega (arith, c.if-first-ge16.false) in
    let h2 : c.hex_digit-second.result < 16 = omega (arith, c.if-second-ge16.false) in
    let h3 : c.hex_digit-third.result < 16 = omega (arith, c.if-third-ge16.false) in
    let h4 : c.hex_digit-last.result < 16 = omega (arith, c.if-last-ge16.false) in
    let none = plain_inside d i c.byte.result c.byte.ensures.here (c.hex_digit-first.ensures.plain h1) in
    let one = plain_inside d (i + 1) c.byte-2.result c.byte-2.ensures.here (c.hex_digit-second.ensures.plain h2) in
    let two = plain_inside d (i + 2) c.byte-3.result c.byte-3.ensures.here (c.hex_digit-third.ensures.plain h3) in
    let three = plain_inside d (i + 3) c.byte-4.result c.byte-4.ensures.here (c.hex_digit-last.ensures.plain h4) in
    let digits = unit_is (get_or d i 0) (get_or d (i + 1) 0) (get_or d (i + 2) 0) (get_or d (i + 3) 0) c.hex_digit-first.result c.hex_digit-second.result c.hex_digit-third.result c.hex_digit-last.result (c.hex_digit-first.ensures.value ∙ ap digit_value none.1)
    (c.hex_digit-second.ensures.value ∙ ap digit_value one.1) (c.hex_digit-third.ensures.value ∙ ap digit_value two.1) (c.hex_digit-last.ensures.value ∙ ap digit_value three.1) h1 h2 h3 h4 in
    let all_plain = four_plain d i (sym (ap is_plain none.1) ∙ c.hex_digit-first.ensures.plain h1) (sym (ap is_plain one.1) ∙ c.hex_digit-second.ensures.plain h2) (sym (ap is_plain two.1) ∙ c.hex_digit-third.ensures.plain h3)
    (sym (ap is_plain three.1) ∙ c.hex_digit-last.ensures.plain h4) in
    let room : i + 4 ≤ length d = omega (arith, three.0) in
    let u = c.requires.after_u in
    let same : u.0 ≡ before = omega (arith, u.1, next) in
    unit_passes d i _ room digits c.in-Some.ensures.value.0 c.in-Some.ensures.cases all_plain (subst (λ x. x < 128) three.1 (c.hex_digit-last.ensures.ascii h4)) before next (subst (λ k. get_or d k 0 ≡ 117) same u.2)
