use Rattle.std.proofs.Common.{length}
use Rattle.odata_signatures.proofs.argument_kind.+are_argument_types.Given as goal

abbrev pub decreases-are_argument_types : goal.decreases-are_argument_types
decreases-are_argument_types l = length l.kinds.now
