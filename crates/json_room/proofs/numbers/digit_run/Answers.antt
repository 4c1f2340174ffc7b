use Rattle.std.proofs.Common.{◌≡◌, ◌+◌, ◌≤◌, length, get_or, arith}
use Rattle.json_room.specs.private.Lexemes.{DigitsBetween}
use Rattle.json_room.proofs.Lanes.{all_digits_there, digit_run_le, digits_before}
use Rattle.json_room.proofs.RoomLemmas.{digits_here, digits_within}
use Rattle.json_room.proofs.numbers.digit_run.Goals as goal

pub returns-then-others-eq0-clause-further : goal.returns-then-others-eq0-clause-further
returns-then-others-eq0-clause-further c _ =
    let r = c.bytes-bytes.ensures in
    let b = c.bytes-bytes.result.now in
    digits_within c.args.line.now b r.front r.line_feed r.room c.args.place (c.args.place + 16) c.requires
    (all_digits_there b c.args.place 16 c.others_16-others.result (omega (arith, r.room, c.requires)) c.others_16-others.ensures (omega (arith, c.if-others-eq0.true)))

pub returns-then-others-eq0-clause-all : goal.returns-then-others-eq0-clause-all
returns-then-others-eq0-clause-all c _ =
    let r = c.bytes-bytes.ensures in
    let b = c.bytes-bytes.result.now in
    let digits = all_digits_there b c.args.place 16 c.others_16-others.result (omega (arith, r.room, c.requires)) c.others_16-others.ensures (omega (arith, c.if-others-eq0.true)) in
    let within = digits_within c.args.line.now b r.front r.line_feed r.room c.args.place (c.args.place + 16) c.requires digits in
    digits_here c.args.line.now b r.front r.line_feed r.room c.args.place (c.args.place + 16) within digits

pub returns-else-others-eq0-clause-bounds : goal.returns-else-others-eq0-clause-bounds
returns-else-others-eq0-clause-bounds c =
    let r = c.bytes-bytes.ensures in
    let b = c.bytes-bytes.result.now in
    let others = c.others_16-others in
    let few = digit_run_le b c.args.place 16 others.result (omega (arith, r.room, c.requires)) (omega arith) others.ensures (omega (arith, c.if-others-eq0.false)) in
    let within = digits_within c.args.line.now b r.front r.line_feed r.room c.args.place _ c.requires
    (digits_before b c.args.place 16 others.result (omega (arith, r.room, c.requires)) (omega arith) others.ensures (omega (arith, c.if-others-eq0.false))) in
    (omega arith, omega (arith, few), within)

pub returns-else-others-eq0-clause-digits : goal.returns-else-others-eq0-clause-digits
returns-else-others-eq0-clause-digits c =
    let r = c.bytes-bytes.ensures in
    let b = c.bytes-bytes.result.now in
    let others = c.others_16-others in
    let digits = digits_before b c.args.place 16 others.result (omega (arith, r.room, c.requires)) (omega arith) others.ensures (omega (arith, c.if-others-eq0.false)) in
    let within = digits_within c.args.line.now b r.front r.line_feed r.room c.args.place _ c.requires digits in
    digits_here c.args.line.now b r.front r.line_feed r.room c.args.place _ within digits
