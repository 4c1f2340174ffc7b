use Rattle.std.proofs.Common.{◌<◌, take}
use Rattle.odata_functions.specs.private.Blanks.{EndsBlank, IsBlankEnd}
use Rattle.odata_functions.proofs.white_space.blank_end.Given as goal

-- white space so far, and what comes next
abbrev pub invariant-loop-width : goal.invariant-loop-width
invariant-loop-width l = IsBlankEnd l.text l.at × (0 < l.width → EndsBlank (take l.at l.text) l.width)

abbrev pub decreases-loop-width : goal.decreases-loop-width
decreases-loop-width l = l.at
