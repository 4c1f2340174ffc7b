use Rattle.odata_text.proofs.Common.{◌-◌, length, IsGap}
use Rattle.odata_text.proofs.scanner.skip_spaces.Given as goal

abbrev pub invariant-loop-end : goal.invariant-loop-end
invariant-loop-end l = IsGap l.bytes l.place l.end

abbrev pub decreases-loop-end : goal.decreases-loop-end
decreases-loop-end l = length l.bytes - l.end
