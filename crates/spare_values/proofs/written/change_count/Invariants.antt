use Rattle.std.proofs.Common.{◌-◌, length}
use Rattle.spare_values.proofs.written.change_count.Given as goal

abbrev pub decreases-missing : goal.decreases-missing
decreases-missing l = l.count - length l.values.items
