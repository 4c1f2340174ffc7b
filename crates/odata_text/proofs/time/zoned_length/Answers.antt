use Rattle.odata_text.proofs.Common.{◌<◌, arith, take_rest, IsOffsetSpelling, IsSecondsSpelling}
use Rattle.odata_text.proofs.spellings.Sequences.{followed-no_second}
use Rattle.odata_text.proofs.spellings.Times.{offset-none, seconds-exact, zoned-by_parts}
use Rattle.odata_text.proofs.time.zoned_length.Goals as goal

pub returns-in-0 : goal.returns-in-0
returns-in-0 c =
    followed-no_second IsSecondsSpelling IsOffsetSpelling c.args.rest.now _ c.seconds_length-seconds.result c.offset_length.result (take_rest c.args.rest.now c.seconds_length-seconds.result)
    offset-none (seconds-exact c.seconds_length-seconds.result c.args.rest.now c.seconds_length-seconds.ensures) c.offset_length.ensures c.in-0.is

pub returns-in_default : goal.returns-in_default
returns-in_default c =
    let some : 0 < c.offset_length.result = omega arith in
    zoned-by_parts c.args.rest.now _ c.seconds_length-seconds.result c.offset_length.result (take_rest c.args.rest.now c.seconds_length-seconds.result)
    c.seconds_length-seconds.ensures c.offset_length.ensures some
