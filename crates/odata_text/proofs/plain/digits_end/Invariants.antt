use Rattle.odata_text.proofs.Common.{◌-◌, length, is_ascii_digit}
use Rattle.odata_text.proofs.readings.PlainTokens.{PassesUpTo}
use Rattle.odata_text.proofs.plain.digits_end.Given as goal

abbrev pub invariant-loop-end : goal.invariant-loop-end
invariant-loop-end l = PassesUpTo is_ascii_digit l.bytes l.from l.end

abbrev pub decreases-loop-end : goal.decreases-loop-end
decreases-loop-end l = length l.bytes - l.end
