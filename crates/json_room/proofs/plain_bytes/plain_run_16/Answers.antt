use Rattle.std.proofs.Common.{arith}
use Rattle.json_room.proofs.StopLemmas.{all_plain, plain_before, run_within}
use Rattle.json_room.proofs.plain_bytes.plain_run_16.Goals as goal

pub returns-then-stops-eq0-clause-all : goal.returns-then-stops-eq0-clause-all
returns-then-stops-eq0-clause-all c _ =
    let stops = c.stops_16-stops in
    all_plain c.args.bytes.now c.args.place 16 stops.result c.requires stops.ensures (omega (arith, c.if-stops-eq0.true))

pub returns-else-stops-eq0-clause-few : goal.returns-else-stops-eq0-clause-few
returns-else-stops-eq0-clause-few c =
    let stops = c.stops_16-stops in
    run_within c.args.bytes.now c.args.place 16 stops.result c.requires (omega arith) stops.ensures (omega (arith, c.if-stops-eq0.false))

pub returns-else-stops-eq0-clause-plain : goal.returns-else-stops-eq0-clause-plain
returns-else-stops-eq0-clause-plain c =
    let stops = c.stops_16-stops in
    plain_before c.args.bytes.now c.args.place 16 stops.result c.requires (omega arith) stops.ensures (omega (arith, c.if-stops-eq0.false))
