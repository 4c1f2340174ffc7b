use Rattle.odata_text.proofs.Common.{◌-◌, ◌==◌, not, length}
use Rattle.odata_text.proofs.readings.PlainTokens.{PassesUpTo}
use Rattle.odata_text.proofs.plain.next_quote.Given as goal

abbrev pub invariant-loop-end : goal.invariant-loop-end
invariant-loop-end l = PassesUpTo (λ b. not (b == 39)) l.bytes l.from l.end

abbrev pub decreases-loop-end : goal.decreases-loop-end
decreases-loop-end l = length l.bytes - l.end
