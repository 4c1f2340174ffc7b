use Rattle.std.proofs.Common.{◌<◌, drop, ◌-◌, length}
use Rattle.odata_functions.specs.private.Blanks.{BeginsBlank, IsBlankStart}
use Rattle.odata_functions.proofs.white_space.blank_start.Given as goal

-- white space so far, and what comes next
abbrev pub invariant-loop-width : goal.invariant-loop-width
invariant-loop-width l = IsBlankStart l.text l.at × (0 < l.width → BeginsBlank (drop l.at l.text) l.width)

abbrev pub decreases-loop-width : goal.decreases-loop-width
decreases-loop-width l = length l.text - l.at
