use Rattle.odata_text.proofs.Common.{◌<◌, arith, take_rest, IsFraction, PassesTests}
use Rattle.odata_text.proofs.spellings.Sequences.{Perhaps, followed-no_first}
use Rattle.odata_text.proofs.spellings.Times.{seconds-by_parts, seconds-reach, seconds_pattern}
use Rattle.odata_text.proofs.time.seconds_length.Goals as goal

pub returns-in-0 : goal.returns-in-0
returns-in-0 c =
    seconds-reach 0 c.args.rest.now
    (followed-no_first (PassesTests seconds_pattern) (Perhaps IsFraction) c.args.rest.now c.pattern_length.result (λ fits. fits) c.pattern_length.ensures c.in-0.is)

pub returns-in_default : goal.returns-in_default
returns-in_default c =
    let some : 0 < c.pattern_length.result = omega arith in
    seconds-by_parts c.args.rest.now _ c.pattern_length.result c.fraction_length.result (take_rest c.args.rest.now c.pattern_length.result) c.pattern_length.ensures some c.fraction_length.ensures
