use Rattle.std.proofs.Common.{length as list_length}
use Rattle.odata_text.proofs.Common.{◌-◌}
use Rattle.odata_text.proofs.spellings.Words.{IsWordSoFar}
use Rattle.odata_text.proofs.word.word_length.Given as goal

abbrev pub invariant-loop-length : goal.invariant-loop-length
invariant-loop-length l = IsWordSoFar l.rest l.length

abbrev pub decreases-loop-length : goal.decreases-loop-length
decreases-loop-length l = list_length l.rest - l.length
