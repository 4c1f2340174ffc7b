use Rattle.std.proofs.Common.{◌+◌, arith}
use Rattle.json_room.proofs.StopLemmas.{all_plain, plain_before}
use Rattle.json_room.proofs.RoomLemmas.{plain_here, plain_within}
use Rattle.json_room.proofs.texts.plain_run.Goals as goal

pub returns-then-stops-eq0-clause-further : goal.returns-then-stops-eq0-clause-further
returns-then-stops-eq0-clause-further c _ =
    let r = c.bytes-bytes.ensures in
    let b = c.bytes-bytes.result.now in
    plain_within c.args.line.now b r.front r.line_feed r.room c.args.place (c.args.place + 32) c.requires
    (all_plain b c.args.place 32 c.stops_32-stops.result (omega (arith, r.room, c.requires)) c.stops_32-stops.ensures (omega (arith, c.if-stops-eq0.true)))

pub returns-then-stops-eq0-clause-all : goal.returns-then-stops-eq0-clause-all
returns-then-stops-eq0-clause-all c _ =
    let r = c.bytes-bytes.ensures in
    let b = c.bytes-bytes.result.now in
    let plain = all_plain b c.args.place 32 c.stops_32-stops.result (omega (arith, r.room, c.requires)) c.stops_32-stops.ensures (omega (arith, c.if-stops-eq0.true)) in
    let within = plain_within c.args.line.now b r.front r.line_feed r.room c.args.place (c.args.place + 32) c.requires plain in
    plain_here c.args.line.now b r.front r.line_feed r.room c.args.place (c.args.place + 32) within plain

pub returns-else-stops-eq0-clause-bounds : goal.returns-else-stops-eq0-clause-bounds
returns-else-stops-eq0-clause-bounds c =
    let r = c.bytes-bytes.ensures in
    let b = c.bytes-bytes.result.now in
    let stops = c.stops_32-stops in
    let within = plain_within c.args.line.now b r.front r.line_feed r.room c.args.place _ c.requires
    (plain_before b c.args.place 32 stops.result (omega (arith, r.room, c.requires)) (omega arith) stops.ensures (omega (arith, c.if-stops-eq0.false))) in
    (omega arith, within)

pub returns-else-stops-eq0-clause-plain : goal.returns-else-stops-eq0-clause-plain
returns-else-stops-eq0-clause-plain c =
    let r = c.bytes-bytes.ensures in
    let b = c.bytes-bytes.result.now in
    let stops = c.stops_32-stops in
    let plain = plain_before b c.args.place 32 stops.result (omega (arith, r.room, c.requires)) (omega arith) stops.ensures (omega (arith, c.if-stops-eq0.false)) in
    let within = plain_within c.args.line.now b r.front r.line_feed r.room c.args.place _ c.requires plain in
    plain_here c.args.line.now b r.front r.line_feed r.room c.args.place _ within plain
