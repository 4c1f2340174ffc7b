use Rattle.odata_text.proofs.Common.{IsDateSpelling, PassesTests}
use Rattle.odata_text.proofs.spellings.Sequences.{reach-as}
use Rattle.odata_text.proofs.spellings.Times.{date-fits, date_pattern, fits-date}
use Rattle.odata_text.proofs.time.date_length.Goals as goal

pub returns : goal.returns
returns c = reach-as (PassesTests date_pattern) IsDateSpelling c.pattern_length.result c.args.rest.now date-fits fits-date c.pattern_length.ensures
