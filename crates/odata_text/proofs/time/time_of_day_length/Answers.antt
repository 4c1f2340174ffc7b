use Rattle.odata_text.proofs.Common.{◌<◌, arith, take_rest}
use Rattle.odata_text.proofs.spellings.Times.{time_of_day-by_parts, time_of_day-none}
use Rattle.odata_text.proofs.time.time_of_day_length.Goals as goal

pub returns-in-0 : goal.returns-in-0
returns-in-0 c = time_of_day-none c.args.rest.now c.pattern_length.result c.pattern_length.ensures c.in-0.is

pub returns-in_default : goal.returns-in_default
returns-in_default c =
    let some : 0 < c.pattern_length.result = omega arith in
    time_of_day-by_parts c.args.rest.now _ c.pattern_length.result c.seconds_length.result (take_rest c.args.rest.now c.pattern_length.result) c.pattern_length.ensures some c.seconds_length.ensures
