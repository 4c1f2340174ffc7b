use Rattle.std.proofs.Common.{◌+◌, ◌-◌, length}
use Rattle.spare_values.proofs.spares.Spares.has_place.Given as goal

abbrev pub decreases-more : goal.decreases-more
decreases-more l = l.place + 1 - length l.self.records.items
