use Rattle.odata_text.proofs.Common.{PassesTests, IsGuidSpelling}
use Rattle.odata_text.proofs.spellings.Guids.{fits-guid, guid-fits, guid_pattern}
use Rattle.odata_text.proofs.spellings.Sequences.{reach-as}
use Rattle.odata_text.proofs.guid.guid_length.Goals as goal

pub returns : goal.returns
returns c = reach-as (PassesTests guid_pattern) IsGuidSpelling c.pattern_length.result c.args.rest.now guid-fits fits-guid c.pattern_length.ensures
