use Rattle.odata_text.proofs.Common.{take_rest, IsDateSpelling, IsTimed}
use Rattle.odata_text.proofs.spellings.Sequences.{pair-reach}
use Rattle.odata_text.proofs.spellings.Times.{date_timed, moment-reach}
use Rattle.odata_text.proofs.time.moment_length.Goals as goal

pub returns : goal.returns
returns c =
    moment-reach c.both_length.result c.args.rest.now
    (pair-reach IsDateSpelling IsTimed date_timed c.args.rest.now _ _ _ _ (take_rest c.args.rest.now c.date_length-date.result) c.date_length-date.ensures c.timed_length-timed.ensures c.both_length.ensures)
