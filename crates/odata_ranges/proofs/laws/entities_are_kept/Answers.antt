use Rattle.odata_ranges.proofs.FitsKept.{entity_kept}
use Rattle.odata_ranges.proofs.laws.entities_are_kept.Goals as goal

pub returns : goal.returns
returns c = entity_kept
