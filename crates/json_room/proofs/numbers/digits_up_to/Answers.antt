use Rattle.std.proofs.Common.{◌-◌, ◌≤◌, ◌<◌, arith, lit<, lt_of_lt_of_le}
use native.Mathlib.Nat.{pow-le-pow_right}
use Rattle.json_room.proofs.Whole.{whole_stands}
use Rattle.json_room.proofs.numbers.digits_up_to.Goals as goal

pub returns : goal.returns
returns c =
    let d = c.args.line.now in
    let i = c.args.place in
    let to = c.in-Some.end in
    let e = c.in-Some.ensures in
    let some : i < to = omega (arith, e.bounds.0) in
    let found = whole_stands d i to some e.bounds.2 (omega (arith, e.bounds.1)) e.digits (c.starts_whole.ensures c.if-not-starts_whole.false) in
    let few : to - i ≤ c.args.most = omega arith in
    (found.0, found.1, (found.2.0, found.2.1, lt_of_lt_of_le found.2.2 (pow-le-pow_right (lit< tt) few)))
