use Rattle.std.proofs.Common.{◌≡◌, ◌∷◌, [], get_or, arith}
use Rattle.room_literals.proofs.LiteralsStand.{moment_stands}
use Rattle.room_literals.proofs.sure_texts.moment_end.Goals as goal

pub returns-then-bytes-end-eq34 : goal.returns-then-bytes-end-eq34
returns-then-bytes-end-eq34 c =
    let line = c.args.line.now in
    let r = c.bytes-bytes.ensures in
    let b = c.bytes-bytes.result.now in
    let place = c.args.place in
    let end = c.in-Some-offset_end.end in
    let opens : get_or b place 0 ≡ 34 = omega arith in
    let closes : get_or b end 0 ≡ 34 = omega arith in
    moment_stands line b r.front r.line_feed r.room place c.requires opens c.in-Some.offset end
    (0 ∷ 0 ∷ 0 ∷ 0 ∷ 0 ∷ 0 ∷ 0 ∷ 0 ∷ 0 ∷ 0 ∷ 0 ∷ 0 ∷ 0 ∷ []) (255 ∷ 255 ∷ 255 ∷ 255 ∷ 255 ∷ 255 ∷ 255 ∷ 255 ∷ 255 ∷ 255 ∷ 255 ∷ 255 ∷ 255 ∷ [])
    (c.are_minutes.ensures c.if-not-are_minutes.false) (c.are_within.ensures c.if-not-are_within.false) c.in-Some.ensures c.in-Some-offset_end.ensures closes
