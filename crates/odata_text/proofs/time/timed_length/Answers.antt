use Rattle.odata_text.proofs.Common.{◌∷◌, take_rest, IsMarkedClock, IsZoned, PassesTests, TimeMark}
use Rattle.odata_text.proofs.spellings.Sequences.{pair-reach, reach-as}
use Rattle.odata_text.proofs.spellings.Times.{clock_pattern, fits-marked, marked-fits, marked_zoned}
use Rattle.odata_text.proofs.time.timed_length.Goals as goal

pub returns : goal.returns
returns c =
    pair-reach IsMarkedClock IsZoned marked_zoned c.args.rest.now _ _ _ _ (take_rest c.args.rest.now c.pattern_length-clock.result)
    (reach-as (PassesTests (TimeMark ∷ clock_pattern)) IsMarkedClock c.pattern_length-clock.result c.args.rest.now marked-fits fits-marked c.pattern_length-clock.ensures)
    c.zoned_length-zoned.ensures c.both_length.ensures
