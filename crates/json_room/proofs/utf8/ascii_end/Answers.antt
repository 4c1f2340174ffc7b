use Rattle.std.proofs.Common.{◌≤◌, ◌<◌, ◌+◌, length, arith}
use lib.Count.{count_trailing_zeros}
use Rattle.json_room.proofs.Lanes.{all_ascii_there, ascii_before, ascii_joined}
use Rattle.json_room.proofs.utf8.ascii_end.Goals as goal

pub returns-then-beyond-ne0-clause-ascii : goal.returns-then-beyond-ne0-clause-ascii
returns-then-beyond-ne0-clause-ascii c k from to =
    let d = c.args.bytes.now in
    let l = c.loop-place in
    let m = c.beyond_16-beyond.result in
    let room : l.place + 16 ≤ length d = omega (arith, c.requires.room) in
    let before = ascii_before d l.place m room c.beyond_16-beyond.ensures (omega (arith, c.if-beyond-ne0.true)) in
    let below : k < l.place + count_trailing_zeros 64 m = omega (arith, to, c.min.ensures) in
    ascii_joined d c.args.from l.place (l.place + count_trailing_zeros 64 m) l.invariant.2 before k from below

pub loop-place-preserved : goal.loop-place-preserved
loop-place-preserved c =
    let d = c.args.bytes.now in
    let l = c.loop-place in
    let room : l.place + 16 ≤ length d = omega (arith, c.requires.room) in
    let here = all_ascii_there d l.place c.beyond_16-beyond.result room c.beyond_16-beyond.ensures (omega (arith, c.if-beyond-ne0.false)) in
    (omega (arith, l.invariant.0), omega arith, ascii_joined d c.args.from l.place (l.place + 16) l.invariant.2 here)
