use Rattle.std.proofs.Common.{eqb-true}
use Rattle.json_room.proofs.Standing.{truth_stands}
use Rattle.json_room.proofs.words.truth_end.Goals as goal

pub returns-then-is_true-is_false : goal.returns-then-is_true-is_false
returns-then-is_true-is_false c =
    let r = c.bytes-bytes.ensures in
    truth_stands c.args.line.now c.bytes-bytes.result.now r.front r.line_feed r.room c.args.place c.are_4-is_true.result _ c.are_4.result c.requires (λ is. eqb-true _ _ is) c.if-is_true-is_false.true c.are_4-is_true.ensures c.are_4.ensures
