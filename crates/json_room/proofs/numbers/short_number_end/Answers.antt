use Rattle.std.proofs.Common.{◌<◌, ◌≤◌, take, drop, ◌-◌, arith}
use Rattle.json_room.proofs.ShortNumberLemmas.{number_there}
use Rattle.json_room.proofs.Standing.{number_stands}
use Rattle.json_room.proofs.numbers.short_number_end.Goals as goal

pub returns : goal.returns
returns c =
    let d = c.args.line.now in
    let i = c.args.from in
    let e = c.in-Some.end in
    let point = c.digits_end-point in
    let some : i < point.result = omega arith in
    let is = number_there d i point.result e some point.ensures.bounds.1 point.ensures.digits (c.starts_whole.ensures c.if-not-starts_whole.false) c.in-Some.ensures (omega arith) in
    (take (e - i) (drop i d), number_stands d i e is.bounds.0 is.bounds.1 is.is_number, is.has_value)
