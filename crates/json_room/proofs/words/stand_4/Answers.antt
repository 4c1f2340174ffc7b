use Rattle.std.proofs.Common.{◌≡◌, ◌+◌, ◌<◌, ℕ, length, get_or, arith}
use Rattle.json_room.proofs.KeysStand.{bytes_stand, stands_by_bytes}
use Rattle.json_room.proofs.words.stand_4.Goals as goal

pub returns-clause-stands : goal.returns-clause-stands
returns-clause-stands c done =
    let r = c.bytes.ensures in
    let d = c.args.line.now in
    let b = c.bytes.result.now in
    let w = c.args.word in
    let i = c.args.place in
    let long : length w ≡ 4 = c.fits-word.0 in
    let there : (k : ℕ) → k < 4 → k < length w → get_or b (i + k) 0 ≡ get_or w k 0 = λ k few inside. c.are_4.ensures done k few in
    stands_by_bytes d i w c.requires.within c.requires.word (λ k inside. bytes_stand d b r.front r.line_feed r.room i 4 w c.requires.within c.requires.word there k (omega (arith, long, inside)) inside)
